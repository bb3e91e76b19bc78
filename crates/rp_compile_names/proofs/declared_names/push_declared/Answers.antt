use Rattle.std.proofs.Common.{◌≡◌, ℕ, List, map, OnOk, ◌∙◌, ap, subst}
use Rattle.std.specs.List.{filter_map}
use Rattle.ex_named.specs.declared.reference.AttributePlace.{AttributePlace}
use Rattle.rp_compile_names.specs.Found.{derived_text}
use Rattle.rp_compile_names.proofs.Declared.{declared-in-turn}
use Rattle.rp_compile_names.proofs.declared_names.push_declared.Goals as goal

pub returns : goal.returns
returns c = subst (λ (all : List (List ℕ × AttributePlace)). OnOk c.push_named-3.result (c.push_named-3.new.table ≡ all))
    (declared-in-turn c.args.number c.args.entity.now c.args.table.now c.push_named.new.table c.push_named-2.new.table
    (map (λ n. n.now) c.deref.result.now) (map (λ n. n.now) c.deref-2.result.now) (map (λ n. n.now) c.deref-3.result.now)
    (ap (map (λ n. n.now)) c.deref.ensures.value ∙ c.in_ok-explicit.ensures)
    (ap (map (λ n. n.now)) c.deref-2.ensures.value ∙ c.in_ok-derived.ensures ∙ ap (filter_map derived_text) c.as_slice.ensures)
    (ap (map (λ n. n.now)) c.deref-3.ensures.value ∙ c.in_ok-inverse.ensures ∙ ap (map (λ x. x.name.text)) c.as_slice-2.ensures)
    c.in_ok-push_named.ensures c.in_ok-push_named-2.ensures)
    c.push_named-3.ensures
