use Rattle.std.proofs.Common.{◌≡◌, ◌++◌, [], None, sym, ◌∙◌, ap, slice_get, append-nil}
use Rattle.std.proofs.lemmas.Option.{slice_get_past}
use Rattle.std.specs.Option.{option_map_or}
use Rattle.plain_data.specs.Numbers.{numbered}
use Rattle.ex_slots.specs.Slots as spec
use Rattle.ex_slots.proofs.instances.push_slots_of.Goals as goal

pub returns-in-None : goal.returns-in-None
returns-in-None c =
    let items = c.args.found.now.items in
    let beyond : slice_get c.args.entities.now c.args.number ≡ None = slice_get_past c.args.entities.now c.args.number c.in-None.ensures.lookup.3 in
    sym (ap (λ e. items ++ option_map_or (λ x. numbered (spec.slot (spec.has c.args.derived.now.keys) c.args.number) (spec.declared_by x)) e []) beyond ∙ append-nil items)
