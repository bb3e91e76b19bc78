use Rattle.std.proofs.Common.{◌≡◌, ◌++◌, ℕ, Bool, drop, map}
use Rattle.rp_rules.specs.Layouts.{attributes_at}
use Rattle.rp_rules.specs.Plan.{may_have_any}
use Rattle.rp_rules.proofs.validation.Validation.by_layouts.Given as goal

abbrev pub invariant-loop-place : goal.invariant-loop-place
invariant-loop-place g l =
    let of : ℕ → Bool = λ at. may_have_any l.plan (attributes_at (g.D.Domain.population l.self.domain.now) at) in
    l.found ++ map of (drop l.place-index l.place-items) ≡ map of l.self.layouts.now.examples
