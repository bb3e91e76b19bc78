use Rattle.std.proofs.Common.{◌∙◌, ◌==◌, ap, sym}
use Rattle.std.specs.List.{flat_map, list_any}
use Rattle.rp_rows.specs.Contents.{references}
use Rattle.rp_index.proofs.References.{references-elements}
use Rattle.rp_store.proofs.uses.+references.Goals as goal

pub has_reference-returns-in-Agg : goal.has_reference-returns-in-Agg
has_reference-returns-in-Agg t c =
    c.have_reference.ensures ∙ ap (λ vs. list_any (λ m. m == c.args.name) (flat_map references vs)) c.as_slice.ensures
    ∙ ap (list_any (λ m. m == c.args.name)) (sym (references-elements c.args.value.now c.in-Agg.kind c.in-Agg.elements c.in-Agg.is))
