use Rattle.std.proofs.Common.{subst}
use Rattle.rp_sight.specs.Told.{KeepsListed}
use Rattle.rp_sight.proofs.groups.Groups.listers.Goals as goal

pub returns-clause-whole : goal.returns-clause-whole
returns-clause-whole c = subst (λ s. KeepsListed s.listers s.rows) c.self.view_is c.self.invariant.listed
