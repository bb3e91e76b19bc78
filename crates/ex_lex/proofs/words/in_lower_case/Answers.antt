-- The table is held against the definition at each of the 256 bytes, by computing.
use Rattle.std.proofs.Common.{true, get_or, refl, arith, nat_eq}
use Rattle.std.proofs.lemmas.Bool.Decides.{nat_tests}
use Rattle.std.proofs.lemmas.Bool.{agree_below_at}
use Rattle.std.specs.Char.{to_ascii_lowercase}
use Rattle.ex_lex.specs.declared.words.TheConstants.{LOWER_CASE}
use Rattle.ex_lex.proofs.words.in_lower_case.Goals as goal

pub returns : goal.returns
returns c =
    let same = agree_below_at (λ k. nat_eq (get_or LOWER_CASE k 0) (to_ascii_lowercase k)) (λ k. true) 256 c.args.b refl (omega arith) in
    rw c.from.ensures (grind (arith, nat_tests))
