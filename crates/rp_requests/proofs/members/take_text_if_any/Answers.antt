use Rattle.std.proofs.Common.{ap, ◌∙◌}
use Rattle.serde_json.specs.View.{members_view}
use Rattle.rp_requests.proofs.MemberLemmas.{without-remove_entry, text_if_any-lookup}
use Rattle.rp_requests.proofs.members.take_text_if_any.Goals as goal

pub returns : goal.returns
returns c =
    let es = c.args.members.now.entries in
    record {
      text = c.text_if_any.ensures ∙ text_if_any-lookup c.args.key.now es c.remove.result c.remove.ensures.value;
      rest = ap members_view c.remove.ensures.entries ∙ without-remove_entry c.args.key.now es;
    }
