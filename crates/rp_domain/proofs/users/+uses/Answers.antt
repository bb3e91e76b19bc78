use Rattle.std.proofs.Common.{◌≡◌, ◌∙◌, ap, sym, arith}
use Rattle.std.specs.List.{flat_map}
use Rattle.rp_meaning.specs.Uses.{references}
use Rattle.rp_domain.specs.Chains.{rows}
use Rattle.rp_domain.specs.Rows.{user_by}
use Rattle.rp_domain.proofs.Uses.{references-elements, values_step}
use Rattle.rp_domain.proofs.users.+uses.Goals as goal

pub put_value-returns-in-Agg : goal.put_value-returns-in-Agg
put_value-returns-in-Agg t c =
    let same : flat_map references c.as_slice.result.now ≡ references c.args.value.now =
    ap (flat_map references) c.as_slice.ensures ∙ sym (references-elements c.args.value.now c.in-Agg.kind c.in-Agg.elements c.in-Agg.is) in
    rw same at c.put_values.ensures

pub put_values-loop-value-preserved : goal.put_values-loop-value-preserved
put_values-loop-value-preserved t c =
    let step = values_step (rows c.loop-value.users.0 c.loop-value.users.1) (user_by c.args.place c.args.attribute.now) c.args.values.now c.loop-value.value-index c.value-item.result (omega arith) c.value-item.is in
    rw c.in_ok-put_value.ensures (sym step ∙ c.loop-value.invariant)
