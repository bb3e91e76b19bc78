use Rattle.std.proofs.Common.{◌≡◌, ◌++◌, [], None, map, sym, ◌∙◌, ap, slice_get, append-nil}
use Rattle.std.proofs.lemmas.Option.{slice_get_past}
use Rattle.std.specs.Option.{option_map_or}
use Rattle.ex_attributes.specs.Attributes.{declared_by as attributes_of}
use Rattle.rp_compile_names.proofs.declared_names.push_own.Goals as goal

pub returns-in-None : goal.returns-in-None
returns-in-None c =
    let table = c.args.table.now in
    let beyond : slice_get c.args.entities.now c.args.number ≡ None = slice_get_past c.args.entities.now c.args.number c.in-None.ensures.lookup.3 in
    sym (ap (λ e. table ++ option_map_or (λ x. map (λ a. (a.name, a.place)) (attributes_of c.args.number x)) e []) beyond ∙ append-nil table)
