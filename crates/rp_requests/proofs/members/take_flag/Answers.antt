use Rattle.std.proofs.Common.{ap, ◌∙◌}
use Rattle.serde_json.specs.View.{members_view}
use Rattle.rp_requests.proofs.MemberLemmas.{without-remove_entry, text_in-without, flag_if_any-lookup}
use Rattle.rp_requests.specs.Asks.{text_in}
use Rattle.rp_requests.proofs.members.take_flag.Goals as goal

pub returns : goal.returns
returns c =
    let es = c.args.members.now.entries in
    let left = ap members_view c.remove.ensures.entries ∙ without-remove_entry c.args.key.now es in
    record {
      flag = c.flag_if_any.ensures ∙ flag_if_any-lookup c.args.key.now es c.remove.result c.remove.ensures.value;
      others = λ other apart. ap (text_in other) left ∙ text_in-without c.args.key.now other (members_view es) apart;
    }
