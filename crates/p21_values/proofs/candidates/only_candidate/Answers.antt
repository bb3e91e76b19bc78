use Rattle.std.proofs.Common.{◌≡◌, ◌+◌, ◌<◌, true, false, if◌then◌else◌, ◌∷◌, None, filter, length, drop, get_or, refl, sym, ◌∙◌, ap, arith}
use Rattle.std.proofs.lemmas.Grind.{common_steps}
use Rattle.std.specs.Prelude.{is_some}
use Rattle.p21_values.specs.Deciding.{at}
use Rattle.p21_values.proofs.Decided.{single_after, found_twice, found_next}
use Rattle.p21_values.proofs.Steps.{filter_turn}
use Rattle.p21_values.proofs.candidates.only_candidate.Goals as goal
use Rattle.p21_values.proofs.candidates.only_candidate.Goals.{then-at+else-is_some, else-at}

pub returns-then-is_some : goal.returns-then-is_some
returns-then-is_some c =
    let bs = c.args.taken.now in
    let g = c.args.group.now in
    let i = c.loop-candidate.candidate-index in
    let x = get_or g i (record { number = None; place = 0 }) in
    let rest = filter (λ c. at bs c.place) (drop (i + 1) g) in
    let within : i < length g = grind (arith, common_steps) in
    let here : at bs x.place ≡ true = grind (arith, common_steps) in
    let some : is_some c.loop-candidate.found ≡ true = grind (arith, common_steps) in
    let turned = filter_turn (λ c. at bs c.place) g i x (record { number = None; place = 0 }) within refl ∙ ap (λ b. if b then x ∷ rest else rest) here in
    sym (found_twice c.loop-candidate.found x rest some) ∙ ap (single_after c.loop-candidate.found) (sym turned) ∙ c.loop-candidate.invariant

pub loop-candidate-preserved : goal.loop-candidate-preserved
loop-candidate-preserved c =
    let bs = c.args.taken.now in
    let g = c.args.group.now in
    let i = c.loop-candidate.candidate-index in
    let x = get_or g i (record { number = None; place = 0 }) in
    let rest = filter (λ c. at bs c.place) (drop (i + 1) g) in
    let within : i < length g = grind (arith, common_steps) in
    let turn = filter_turn (λ c. at bs c.place) g i x (record { number = None; place = 0 }) within refl in
    elim c.if-at.branch [
      | then-at+else-is_some w ↦
          (let none : is_some c.loop-candidate.found ≡ false = grind (arith, common_steps) in
          let next = found_next c.loop-candidate.found x rest none in
          grind (arith, common_steps, turn, next))
      | else-at w ↦ grind (arith, common_steps, turn)
    ]
