use Rattle.std.proofs.Common.{◌∙◌}
use Rattle.rp_requests.proofs.MemberLemmas.{is_some-lookup}
use Rattle.rp_requests.proofs.lines.has_member.Goals as goal

pub returns : goal.returns
returns c = c.contains_key.ensures ∙ is_some-lookup c.args.name.now c.args.members.now.entries
