use Rattle.std.proofs.Common.{◌≡◌, ℕ, List, IfOk, ◌∙◌, ap, subst}
use Rattle.std.specs.List.{flat_map}
use Rattle.rp_compile_names.proofs.Depths.{deepest-first}
use Rattle.rp_compile_names.proofs.rederived.deepest_first.Goals as goal

pub returns : goal.returns
returns c = subst (λ (all : List ℕ). IfOk c.concatenated.result (λ found. found ≡ all))
    (ap (flat_map (λ (row : List ℕ). row)) (c.deref.ensures.value ∙ c.in_ok-rows.ensures) ∙ deepest-first c.args.graph.now c.args.order.now) c.concatenated.ensures
