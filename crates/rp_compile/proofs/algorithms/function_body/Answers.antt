use Rattle.std.proofs.Common.{◌≡◌, map, length, IfOk, sym, ◌∙◌, ap, subst}
use Rattle.std.proofs.lemmas.List.{length-map}
use Rattle.ex_kinds.specs.Kinds.{of_type}
use Rattle.rp_meaning.specs.declared.schema.Algorithm.{Algorithm}
use Rattle.rp_meaning.specs.Compiled.{of_locals}
use Rattle.rp_compile.proofs.Variables.{body-same}
use Rattle.rp_compile.proofs.algorithms.function_body.Goals as goal

pub returns : goal.returns
returns c = subst (λ (all : Algorithm). IfOk c.algorithm.result (λ found. found ≡ all))
    (body-same c.args.schema.now c.args.function.now c.new-scope.result c.as_slice-2.result.now c.as_slice-3.result.now
    (map (λ t. t.now) c.deref-3.result.now) (map (λ t. t.now) c.args.parameters.now) (map (λ t. t.now) c.deref.result.now)
    (length c.args.parameters.now) c.len.result c.as_slice-4.result.now c.as_slice-5.result.now
    c.new-scope.ensures
    (c.as_slice-2.ensures ∙ c.in_ok-frame.ensures ∙ ap (λ ts. map of_type (map (λ t. t.now) ts)) (c.deref-2.ensures.value ∙ sym c.deref-3.ensures.value))
    (c.as_slice-3.ensures ∙ c.in_ok-result_kinds.ensures)
    (ap (map (λ t. t.now)) c.deref-3.ensures.value ∙ c.in_ok-types.ensures)
    c.requires
    (ap (map (λ t. t.now)) c.deref.ensures.value ∙ c.in_ok-locals.ensures.types ∙ ap of_locals c.as_slice.ensures)
    (sym (length-map c.args.parameters.now (λ t. t.now)))
    (c.len.ensures ∙ sym c.deref.ensures.len ∙ ap length c.deref.ensures.value ∙ c.in_ok-locals.ensures.count ∙ ap (λ list. length (of_locals list)) c.as_slice.ensures)
    c.as_slice-4.ensures c.as_slice-5.ensures)
    c.algorithm.ensures
