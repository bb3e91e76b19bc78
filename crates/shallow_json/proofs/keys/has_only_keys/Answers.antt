use Rattle.std.proofs.Common.{◌∙◌}
use Rattle.shallow_json.proofs.KeyLemmas.{has_only-members_view}
use Rattle.shallow_json.proofs.keys.has_only_keys.Goals as goal

pub returns : goal.returns
returns c = c.each_is_listed.ensures ∙ has_only-members_view c.args.keys.now c.args.members.now.entries
