use Rattle.std.proofs.Common.{◌≡◌, ◌<◌, true, length, get_or, ◌++◌, ◌∷◌, [], refl, arith}
use Rattle.std.proofs.lemmas.Grind.{common_steps}
use Rattle.ex_selects.specs.Sorts.{sort_at}
use Rattle.ex_selects.specs.Kept.{has_two}
use Rattle.ex_selects.proofs.Standing.{stand_none, thin_push, thin_skip}
use Rattle.ex_selects.proofs.kept.thinned.Goals as goal
use Rattle.ex_selects.proofs.kept.thinned.Goals.{then-not-has_two+in_ok-push, else-not-has_two}

pub loop-number-init : goal.loop-number-init
loop-number-init c = rw c.new-kept.ensures (stand_none c.args.sorts.now)

pub loop-number-preserved : goal.loop-number-preserved
loop-number-preserved c =
    let sorts = c.args.sorts.now in
    let numbers = c.args.numbers.now in
    let i = c.loop-number.number-index in
    let kept = c.loop-number.kept in
    let x = get_or numbers i 0 in
    let within : i < length numbers = c.loop-number-test.true in
    elim c.if-not-has_two.branch [
      | then-not-has_two+in_ok-push w ↦
          (let pushed : c.if-not-has_two.kept ≡ kept ++ x ∷ [] = grind (arith, common_steps, w.kept-is, w.in_ok-push.ensures) in
          thin_push sorts numbers kept i x c.requires within refl c.loop-number.invariant c.if-not-has_two.kept pushed)
      | else-not-has_two w ↦
          (let two : has_two sorts kept (sort_at sorts x) ≡ true = grind (arith, common_steps, c.has_two.ensures, c.as_slice.ensures, c.sort_at.ensures) in
          rw w.kept-is (thin_skip sorts numbers kept i x c.requires within refl c.loop-number.invariant two))
    ]

pub returns : goal.returns
returns c = grind (arith, common_steps)
