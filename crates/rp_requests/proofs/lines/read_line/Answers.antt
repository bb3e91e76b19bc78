use Rattle.std.proofs.Common.{option_map, option_and_then, refl, sym, ap, ◌∙◌}
use Rattle.std.proofs.lemmas.Result.{IfOk-weaker}
use Rattle.std.proofs.lemmas.Str.{is_utf8-from_IsUtf8}
use Rattle.serde_json.specs.Find.{as_object}
use Rattle.serde_json.specs.Read.{read}
use Rattle.shallow_json.proofs.Shallow.{not_utf8}
use Rattle.rp_requests.specs.Kept.{kept}
use Rattle.rp_requests.proofs.ShallowMembers.{asked_of-read, asked_of-none}
use Rattle.rp_requests.proofs.lines.read_line.Goals as goal

pub returns-in-Ok : goal.returns-in-Ok
returns-in-Ok c =
    let cases = c.in-Ok.ensures.cases in
    let line = c.args.line.now in
    record {
      ok = IfOk-weaker c.read_object.result _ _ (λ r e. asked_of-read line _ _ (is_utf8-from_IsUtf8 line cases.1) (ap (λ t. option_map kept (option_and_then as_object (read t))) (sym cases.0) ∙ e)) c.read_object.ensures.ok;
      bad = λ refused. asked_of-none line (ap (λ t. option_and_then as_object (read t)) (sym cases.0) ∙ c.read_object.ensures.bad refused);
    }

pub returns-in-Err-clause-bad : goal.returns-in-Err-clause-bad
returns-in-Err-clause-bad c never = rw (not_utf8 c.args.line.now _ refl c.in-Err.ensures.cases.0) refl
