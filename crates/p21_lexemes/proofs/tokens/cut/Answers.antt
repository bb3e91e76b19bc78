use Rattle.std.proofs.Common.{◌≡◌, ◌-◌, ◌<◌, ◌∙◌, sym, ap, drop, length, rules}
use Rattle.std.proofs.lemmas.List.{take_rest}
use Rattle.p21_lexemes.specs.Tokens.{lexemes}
use Rattle.p21_lexemes.proofs.Lexemes.{place-drop, lexemes-blank, lexemes-fault, lexemes-end}
use Rattle.p21_lexemes.proofs.tokens.cut.Goals as goal

pub blanks-preserved : goal.blanks-preserved
blanks-preserved c =
    let z = c.blanks.left.now in
    let n = c.in-Blank.len in
    let end = c.args.end in
    let fits = c.in-Blank.ensures.within in
    let goes = lexemes-blank (end - length z) n z (sym c.in-Blank.ensures.value) fits.0 fits.1 in
    let there = ap (λ k. lexemes k (drop n z)) (place-drop end n z fits.1 c.blanks.invariant.1) in
    (rw (take_rest z n) (there ∙ sym goes ∙ c.blanks.invariant.0), search rules)

pub without_token-requires-clause-fault : goal.without_token-requires-clause-fault
without_token-requires-clause-fault c =
    let z = c.blanks.left.now in
    let some : 0 < length z = search rules in
    lexemes-fault (c.args.end - length z) c.in-Fault.kind z some (sym c.in-Fault.ensures.value)

pub without_token-requires-2-clause-fault : goal.without_token-requires-2-clause-fault
without_token-requires-2-clause-fault c =
    let z = c.blanks.left.now in
    let none : length z ≡ 0 = search rules in
    lexemes-end (c.args.end - length z) z none
