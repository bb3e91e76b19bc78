use Rattle.std.proofs.Common.{◌≡◌, option_and_then, option_map, Some, ap, ◌∙◌, arith}
use Rattle.serde_json.specs.Find.{as_object}
use Rattle.serde_json.specs.Read.{read as read_json}
use Rattle.serde_json.specs.View.{members_view}
use Rattle.rp_requests.specs.Kept.{kept}
use Rattle.rp_requests.proofs.KeptLemmas.{texts_kept}
use Rattle.rp_requests.proofs.lines.texts_of.Goals as goal

pub returns : goal.returns
returns c =
    let ms = members_view c.in-Some.members.entries in
    let read : option_and_then as_object (read_json c.args.text.now) ≡ Some ms = grind arith in
    ap (option_map kept) read ∙ texts_kept ms (grind arith) (grind arith) (grind arith)
