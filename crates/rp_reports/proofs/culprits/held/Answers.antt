use Rattle.std.proofs.Common.{rules}
use Rattle.rp_reports.proofs.Keys.{found_at}
use Rattle.rp_reports.proofs.culprits.held.Goals as goal

pub returns-in-Ok : goal.returns-in-Ok
returns-in-Ok c = found_at c.args.key.now c.args.keys.now c.in-Ok.place c.index-keys-place.result c.in-Ok.ensures.position (λ a r f called. search rules) c.index-keys-place.is
