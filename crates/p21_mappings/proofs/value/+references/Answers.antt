use Rattle.std.proofs.Common.{◌∙◌, ap, sym}
use Rattle.std.specs.List.{flat_map, list_all}
use Rattle.p21_instances.specs.Instances.{references}
use Rattle.p21_mappings.proofs.References.{references-list}
use Rattle.p21_mappings.proofs.value.+references.Goals as goal

pub is_defined-returns-in-List : goal.is_defined-returns-in-List
is_defined-returns-in-List g t c =
    c.are_defined.ensures ∙ ap (λ vs. list_all (g.N.DefinedNames.is_defined c.args.names.now) (flat_map references vs)) c.as_slice.ensures
    ∙ ap (list_all (g.N.DefinedNames.is_defined c.args.names.now)) (sym (references-list c.args.value.now c.in-List.values c.in-List.is))
