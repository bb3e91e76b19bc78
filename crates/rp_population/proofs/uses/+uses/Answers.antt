use Rattle.std.proofs.Common.{◌≡◌, ◌∙◌, ap, sym}
use Rattle.std.specs.List.{flat_map}
use Rattle.rp_rows.specs.Contents.{references}
use Rattle.rp_index.proofs.References.{references-elements}
use Rattle.rp_population.proofs.uses.+uses.Goals as goal

pub push_value-returns-in-Agg : goal.push_value-returns-in-Agg
push_value-returns-in-Agg t c =
    let same : flat_map references c.as_slice.result.now ≡ references c.args.value.now =
    ap (flat_map references) c.as_slice.ensures ∙ sym (references-elements c.args.value.now c.in-Agg.kind c.in-Agg.elements c.in-Agg.is) in
    rw same at c.push_values.ensures
