use Rattle.std.proofs.Common.{arith}
use Rattle.std.proofs.lemmas.Bool.Decides.{nat_tests}
use Rattle.p21_lexemes.proofs.Digits.{few_below}
use Rattle.p21_lexemes.proofs.usual.is_near.Goals as goal

pub returns-in_default : goal.returns-in_default
returns-in_default c short = few_below c.args.digits.now c.requires (grind (arith, nat_tests))
