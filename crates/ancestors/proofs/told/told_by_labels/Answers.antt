use Rattle.std.proofs.Common.{◌≡◌, Bool, true, false, refl, sym, ◌∙◌, ap}
use Rattle.ancestors.specs.Labels as spec
use Rattle.graphs.specs.Traces.{trace_of}
use Rattle.ancestors.proofs.Ranges.{same_ring, up_nested, up_between}
use Rattle.ancestors.proofs.told.told_by_labels.Goals as goal

pub returns-then-own-other : goal.returns-then-own-other
returns-then-own-other c =
    let traces = c.args.traces.now in
    let is : (trace_of traces c.args.member).root ≡ (trace_of traces c.args.above).root = ap (λ t. t.root) (sym c.trace_of-own.ensures) ∙ c.if-own-other.true ∙ ap (λ t. t.root) c.trace_of-other.ensures in
    sym (same_ring c.args.graph.now traces c.args.labels.now c.requires.sure c.args.member c.args.above c.requires.member c.requires.above is)

not_told : (b n : Bool) → (b ≡ true → n ≡ true) → n ≡ false → false ≡ b
not_told true n follows none = let there = follows refl in cc
not_told false n follows none = refl

pub returns-then-not-is_nested : goal.returns-then-not-is_nested
returns-then-not-is_nested c =
    let traces = c.args.traces.now in
    let none : spec.is_nested c.args.labels.now (trace_of traces c.args.member).root (trace_of traces c.args.above).root ≡ false =
    ap (λ t. spec.is_nested c.args.labels.now t.root (trace_of traces c.args.above).root) (sym c.trace_of-own.ensures)
    ∙ ap (λ t. spec.is_nested c.args.labels.now c.trace_of-own.result.root t.root) (sym c.trace_of-other.ensures) ∙ sym c.is_nested.ensures ∙ c.if-not-is_nested.true in
    not_told (spec.is_up c.args.graph.now c.args.member c.args.above) _ (λ h. up_nested c.args.graph.now traces c.args.labels.now c.requires.sure c.args.member c.args.above h) none

pub returns-then-leads_up : goal.returns-then-leads_up
returns-then-leads_up c =
    let graph = c.args.graph.now in
    let traces = c.args.traces.now in
    let between : spec.is_up graph (trace_of traces c.args.member).root (trace_of traces c.args.above).root ≡ true =
    ap (λ t. spec.is_up graph t.root (trace_of traces c.args.above).root) (sym c.trace_of-own.ensures)
    ∙ ap (λ t. spec.is_up graph c.trace_of-own.result.root t.root) (sym c.trace_of-other.ensures) ∙ c.leads_up.ensures c.if-leads_up.true in
    sym (up_between graph traces c.args.labels.now c.requires.sure c.args.member c.args.above c.requires.member c.requires.above between)
