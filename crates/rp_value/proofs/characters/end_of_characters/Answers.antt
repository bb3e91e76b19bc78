use Rattle.std.proofs.Common.{true, false, drop, sym, ◌∙◌, ap, arith}
use Rattle.std.proofs.Math.ListN.{drop_of_length-le}
use Rattle.rp_value.proofs.Ends.{end_of, end-nil, keeps, stops, takes}
use Rattle.rp_value.proofs.characters.end_of_characters.Goals as goal
use Rattle.rp_value.proofs.characters.end_of_characters.Goals.{then-begins_character+else-left-eq0, else-begins_character}

pub returns-then-left-eq0 : goal.returns-then-left-eq0
returns-then-left-eq0 c =
    let text = c.args.text.now in
    let place = c.loop-place.place in
    let none = ap (λ n. end_of n (drop place text)) c.if-left-eq0.true in
    omega (arith, none, stops text place c.loop-place-test.true (sym c.begins_character.ensures ∙ c.if-begins_character.true), c.loop-place.invariant)

pub loop-place-preserved : goal.loop-place-preserved
loop-place-preserved c =
    let text = c.args.text.now in
    let place = c.loop-place.place in
    let test = sym c.begins_character.ensures in
    elim c.if-begins_character.branch [
      | then-begins_character+else-left-eq0 w ↦ omega (arith, takes text place c.loop-place.left c.if-begins_character.left c.loop-place-test.true (test ∙ w.if-begins_character.true) (omega arith), c.loop-place.invariant)
      | else-begins_character w ↦ omega (arith, keeps text place c.loop-place.left c.if-begins_character.left c.loop-place-test.true (test ∙ w.if-begins_character.false) (omega arith), c.loop-place.invariant)
    ]

pub returns : goal.returns
returns c =
    let text = c.args.text.now in
    let left = c.loop-place.left in
    let past = ap (end_of left) (drop_of_length-le text c.loop-place-test.false) in
    omega (arith, past, end-nil left, c.loop-place.invariant)
