use Rattle.std.proofs.Common.{◌++◌, ◌<◌, ◌∷◌, [], take, length, sym, ap, ◌∙◌, arith}
use Rattle.std.proofs.lemmas.List.{append_assoc}
use Rattle.std.specs.List.{filter_map}
use Rattle.ex_check.specs.Explained as spec
use Rattle.ex_check.proofs.Lines.{passed_over, taken}
use Rattle.ex_check.proofs.shown.push_below.Goals as goal
use Rattle.ex_check.proofs.shown.push_below.Goals.{in-Some+in_ok-push, in_default}

pub loop-byte-preserved : goal.loop-byte-preserved
loop-byte-preserved c =
    let front = c.args.front.now in
    let i = c.loop-byte.byte-index in
    let before = c.args.out.now.items in
    let within : i < length front = omega arith in
    elim c.match-below.branch [
      | in-Some+in_ok-push w ↦
          let more = taken spec.below front i 0 within w.in-Some.below (sym c.below.ensures ∙ w.in-Some.is) in
          ap (λ o. o.items) w.out-is ∙ w.in_ok-push.ensures.items ∙ ap (λ xs. xs ++ w.in-Some.below ∷ []) c.loop-byte.invariant
          ∙ append_assoc before (filter_map spec.below (take i front)) (w.in-Some.below ∷ []) ∙ ap (λ xs. before ++ xs) (sym more)
      | in_default w ↦
          let more = passed_over spec.below front i 0 within (sym c.below.ensures ∙ w.in_default.is) in
          ap (λ o. o.items) w.out-is ∙ c.loop-byte.invariant ∙ ap (λ xs. before ++ xs) (sym more)
    ]
