use Rattle.std.proofs.Common.{◌≡◌, ◌++◌, [], None, sym, ◌∙◌, ap, slice_get, append-nil}
use Rattle.std.proofs.lemmas.Option.{slice_get_past}
use Rattle.std.specs.Option.{option_map_or}
use Rattle.ex_slots.specs.Slots as slots
use Rattle.name_tables.specs.Names.{rows_of}
use Rattle.plain_data.specs.Numbers.{numbered}
use Rattle.rp_compile_names.proofs.role_names.push_explicit.Goals as goal

pub returns-in-None : goal.returns-in-None
returns-in-None c =
    let rows = rows_of c.args.found.now.items in
    let beyond : slice_get c.args.entities.now c.args.number ≡ None = slice_get_past c.args.entities.now c.args.number c.in-None.ensures.lookup.3 in
    sym (ap (λ e. rows ++ option_map_or (λ x. numbered (λ place d. (d.0.text, slots.explicit_place c.args.number place)) (slots.declared_by x)) e []) beyond ∙ append-nil rows)
