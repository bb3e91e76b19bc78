use Rattle.std.proofs.Common.{◌≡◌, ◌≤◌, ◌∙◌, ◌+◌, drop, ap, sym, subst, arith}
use Rattle.std.proofs.lemmas.Bool.Decides.{nat_tests}
use Rattle.std.proofs.lemmas.List.{take_rest}
use Rattle.rp_numbers.specs.Spelling.{digits_len}
use Rattle.p21_lexemes.specs.Usual.{IsNear}
use Rattle.p21_lexemes.proofs.Reals.{real_len, near_real}
use Rattle.p21_lexemes.proofs.usual.real_len.Goals as goal

pub returns-in-Some-clause-value : goal.returns-in-Some-clause-value
returns-in-Some-clause-value c =
    let z = c.args.z.now in
    let end = c.args.end in
    let f = c.digits_len.result in
    let fraction : f ≡ digits_len (drop (end + 1) z) = c.digits_len.ensures.value ∙ ap digits_len (take_rest z (end + 1)) in
    let near : IsNear (drop (end + 1 + f) z) c.in-Some.power = subst (λ x. IsNear x c.in-Some.power) (take_rest z (end + 1 + f)) c.in-Some.ensures in
    let short : end + 1 + f ≤ 37 = grind (arith, nat_tests) in
    sym (real_len z end f c.in-Some.power fraction near.same)
    ∙ near_real z end f c.in-Some.power c.requires.some c.requires.end c.requires.point fraction short near
