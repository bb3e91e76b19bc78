use Rattle.std.proofs.Common.{map, ◌∙◌, ap}
use Rattle.std.specs.List.{flat_map}
use Rattle.ex_slots.specs.Slots.{slots_of, is_derived, derived_by}
use Rattle.ex_layouts.specs.Layouts as spec
use Rattle.ex_layouts.proofs.layout.slots_in.Goals as goal

pub returns : goal.returns
unfolding spec.slots_in
returns c =
    let numbers = c.args.numbers.now in
    c.from_vec.ensures ∙ c.in_ok-slots.ensures
    ∙ ap (λ es. map (slots_of es (is_derived (flat_map (derived_by es) numbers))) numbers) c.entities.ensures
