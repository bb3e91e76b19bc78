use Rattle.std.proofs.Common.{◌≡◌, ◌||◌, ℕ, drop}
use Rattle.std.specs.List.{list_any}
use Rattle.plain_data.specs.Numbers.{is_among}
use Rattle.graphs.specs.Graphs.{supertypes}
use Rattle.ex_subtypes.specs.Legal as spec
use Rattle.ex_subtypes.proofs.family.all_supertypes.Given as goal

abbrev pub invariant-loop-member : goal.invariant-loop-member
invariant-loop-member l = (e : ℕ) → (is_among l.found.keys e || list_any (λ s. is_among (supertypes (spec.graph l.entities) s) e) (drop l.member-index l.members)) ≡ list_any (λ s. is_among (supertypes (spec.graph l.entities) s) e) l.members
