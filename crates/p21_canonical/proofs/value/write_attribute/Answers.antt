use Rattle.std.proofs.Common.{arith}
use Rattle.p21_canonical.proofs.Forms.{text-Derived}
use Rattle.p21_canonical.proofs.value.write_attribute.Goals as goal

pub returns-then-is_derived : goal.returns-then-is_derived
returns-then-is_derived c = grind (arith, text-Derived)
