use Rattle.std.proofs.Common.{◌≡◌, ◌++◌, [], None, sym, ◌∙◌, ap, slice_get, append-nil}
use Rattle.std.proofs.lemmas.Option.{slice_get_past}
use Rattle.std.specs.List.{filter_map}
use Rattle.std.specs.Option.{option_map_or}
use Rattle.plain_data.specs.Numbers.{numbered}
use Rattle.rp_meaning.specs.Compiled as compiled
use Rattle.rp_compile_names.proofs.rederived.push_derived_by.Goals as goal

pub returns-in-None : goal.returns-in-None
returns-in-None c =
    let items = c.args.found.now.items in
    let beyond : slice_get c.args.entities.now c.args.number ≡ None = slice_get_past c.args.entities.now c.args.number c.in-None.ensures.lookup.3 in
    sym (ap (λ e. items ++ option_map_or (λ x. filter_map (λ d. d) (numbered (compiled.rederived c.args.number) x.derived)) e []) beyond ∙ append-nil items)
