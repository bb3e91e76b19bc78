use Rattle.std.proofs.Common.{◌≡◌, List, [], ◌∷◌, ◌++◌, drop, refl, sym, ◌∙◌, ap, append-nil, arith}
use Rattle.std.proofs.lemmas.List.{nil_from_length}
use Rattle.std.specs.List.{flat_map}
use Rattle.rp_rows.specs.Contents.{references}
use Rattle.rp_value.specs.declared.value.Value.{Value}
use Rattle.rp_population.specs.Found.{told_at, values_of}
use Rattle.rp_population.proofs.Using.{values_of_none}
use Rattle.rp_population.proofs.attribute.push_slots.Goals as goal

pub returns-in_default : goal.returns-in_default
returns-in_default c =
    let a = c.args.attribute.now in
    let found = c.loop-slot.found.items in
    let slots = drop c.loop-slot.slot-index c.args.slots.now in
    let none : c.loop-slot.left.now ≡ [] = nil_from_length _ (omega arith) in
    sym (append-nil found)
    ∙ ap (λ (vs : List Value). found ++ flat_map (told_at c.args.user.now) (flat_map references vs)) (sym (ap (values_of a.line a.name slots) none ∙ values_of_none a.line a.name slots))
    ∙ c.loop-slot.invariant
