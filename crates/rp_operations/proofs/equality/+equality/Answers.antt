use denote.Param.Weighed.{most}
use Rattle.std.proofs.Common.{rules, ◌≡◌, ◌<◌, ◌∙◌, sym, ap, subst, arith}
use Rattle.rp_operations.specs.Seen.{Aggregate, seen}
use Rattle.rp_operations.specs.Equality.{equal_seen, occurs_equally}
use Rattle.rp_value.specs.declared.value.Value.{size-Value}
use Rattle.rp_operations.specs.Relations.{scalars_by, equality_by}
use Rattle.rp_operations.proofs.Depths.{equality-seen}
use Rattle.rp_operations.proofs.Passing.{passed, failed}
use Rattle.rp_operations.proofs.Sizes.{elements_smaller}
use Rattle.rp_operations.proofs.equality.+equality.Goals as goal

pub equality-returns-in_default : goal.equality-returns-in_default
equality-returns-in_default t c =
    let found : c.of_scalars.result ≡ equal_seen (scalars_by c.args.relation) (equality_by c.args.relation) (seen c.args.x.now) (seen c.args.y.now) = search rules in
    found ∙ equality-seen (scalars_by c.args.relation) c.args.x.now c.args.y.now

pub equality-returns-in-Aggregate-Aggregate : goal.equality-returns-in-Aggregate-Aggregate
equality-returns-in-Aggregate-Aggregate t c =
    let found : c.equal_elements.result ≡ equal_seen (scalars_by c.args.relation) (equality_by c.args.relation) (seen c.args.x.now) (seen c.args.y.now) = search rules in
    found ∙ equality-seen (scalars_by c.args.relation) c.args.x.now c.args.y.now

pub equality-equal_elements-requires : goal.equality-equal_elements-requires
equality-equal_elements-requires t c =
    let left : Aggregate c.in-Aggregate-Aggregate.kind c.in-Aggregate-Aggregate.xs.now ≡ seen c.args.x.now = search rules in
    let right : Aggregate c.in-Aggregate-Aggregate.other c.in-Aggregate-Aggregate.ys.now ≡ seen c.args.y.now = search rules in
    let less : most size-Value c.as_slice.result.now < size-Value c.args.x.now =
    subst (λ xs. most size-Value xs < size-Value c.args.x.now) (sym c.as_slice.ensures)
    (elements_smaller c.args.x.now c.in-Aggregate-Aggregate.kind c.in-Aggregate-Aggregate.xs.now left) in
    let less_too : most size-Value c.as_slice-in-Aggregate-Aggregate.result.now < size-Value c.args.y.now =
    subst (λ ys. most size-Value ys < size-Value c.args.y.now) (sym c.as_slice-in-Aggregate-Aggregate.ensures)
    (elements_smaller c.args.y.now c.in-Aggregate-Aggregate.other c.in-Aggregate-Aggregate.ys.now right) in
    let falls = c.decreases in
    (omega arith, tt)

pub occur_equally-returns-then-not-occurs_equally : goal.occur_equally-returns-then-not-occurs_equally
occur_equally-returns-then-not-occurs_equally t c =
    let p = occurs_equally (equality_by c.args.relation) c.args.xs.now c.args.ys.now in
    failed p c.args.values.now c.loop-value.value-index c.value-item.result c.loop-value-test.true
    (sym c.if-not-occurs_equally.true ∙ c.occurs_equally.ensures ∙ ap p c.value-item.is) ∙ c.loop-value.invariant

pub occur_equally-loop-value-preserved : goal.occur_equally-loop-value-preserved
occur_equally-loop-value-preserved t c =
    let p = occurs_equally (equality_by c.args.relation) c.args.xs.now c.args.ys.now in
    passed p c.args.values.now c.loop-value.value-index c.value-item.result c.loop-value-test.true
    (sym c.if-not-occurs_equally.false ∙ c.occurs_equally.ensures ∙ ap p c.value-item.is) ∙ c.loop-value.invariant
