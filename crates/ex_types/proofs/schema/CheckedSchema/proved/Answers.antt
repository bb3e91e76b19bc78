use Rattle.std.proofs.Common.{◌≡◌, Ok, subst}
use Rattle.ex_types.specs.Checked.{Checked, checked}
use Rattle.ex_types.proofs.schema.CheckedSchema.proved.Goals as goal

pub returns : goal.returns
returns c = subst (λ (s : Checked). checked s.named ≡ Ok s) c.self.view_is c.self.invariant.1
