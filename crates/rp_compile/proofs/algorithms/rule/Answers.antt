use Rattle.std.proofs.Common.{map, length, sym, ◌∙◌, ap}
use Rattle.ex_kinds.specs.Kinds.{of_type}
use Rattle.rp_meaning.specs.Compiled.{of_locals}
use Rattle.rp_compile.proofs.Variables.{rule-scope, rule-found}
use Rattle.rp_compile.proofs.algorithms.rule.Goals as goal

pub returns : goal.returns
returns c =
    let types = ap (map (λ t. t.now)) c.deref-2.ensures.value ∙ c.in_ok-types.ensures.types ∙ ap of_locals c.as_slice.ensures in
    let frame = c.as_slice-2.ensures ∙ c.in_ok-frame.ensures ∙ ap (λ ts. map of_type (map (λ t. t.now) ts)) (c.deref.ensures.value ∙ sym c.deref-2.ensures.value) in
    rule-found c.args.schema.now c.args.rule.now c.new-scope.result (map (λ t. t.now) c.deref-2.result.now) c.len.result c.as_slice-3.result.now c.as_slice-4.result.now c.as_slice-5.result.now
    c.in_ok-algorithm.algorithm c.in_ok-domain_rules.domain_rules
    (rule-scope c.args.rule.now c.new-scope.result c.as_slice-2.result.now (map (λ t. t.now) c.deref-2.result.now) c.new-scope.ensures frame types)
    types
    (c.len.ensures ∙ sym c.deref.ensures.len ∙ ap length c.deref.ensures.value ∙ c.in_ok-types.ensures.count ∙ ap (λ list. length (of_locals list)) c.as_slice.ensures)
    c.as_slice-3.ensures c.as_slice-4.ensures c.as_slice-5.ensures c.in_ok-algorithm.ensures c.in_ok-domain_rules.ensures
