-- What comes of the evaluation of a rule: its value and the steps that it took, or the limit.
use Rattle.std.specs.Prelude.{ℕ, ◌+◌, ◌-◌, nat_le, ◌&&◌, Bool, true, [], ◌∷◌, length, Option, Some, None, slice_get}
use Rattle.std.specs.Option.{option_and_then}
use Rattle.ex_named.specs.declared.reference.AttributePlace.{AttributePlace}
use Rattle.ex_tree.specs.declared.declaration.InverseAggregate.{InverseAggregate}
use Rattle.ex_tree.specs.declared.data_type.Bounds.{Bounds}
use Rattle.rp_numbers.specs.Logical.{of_test}
use Rattle.rp_value.specs.declared.value.Value.{Value}
use Rattle.rp_value.specs.declared.value.Value.TheVariants as v
use Rattle.rp_meaning.specs.declared.body.Body.{Body}
use Rattle.rp_meaning.specs.declared.counter.Counter.{Counter}
use Rattle.rp_meaning.specs.declared.outcome.Outcome.{Outcome}
use Rattle.rp_meaning.specs.declared.outcome.Outcome.TheVariants as o
use Rattle.rp_meaning.specs.declared.rule.Rule.{Rule}
use Rattle.rp_meaning.specs.declared.rule.Rule.TheVariants as r
use Rattle.rp_meaning.specs.declared.schema.GlobalRule.{GlobalRule}
use Rattle.rp_meaning.specs.declared.schema.Inverse.{Inverse}
use Rattle.rp_code.specs.declared.tree.Expression.{Expression}
use Rattle.rp_meaning.specs.Attributes.{entity_at, inverse_at, inverse_places}
use Rattle.rp_meaning.specs.Bare.{place_of}
use Rattle.rp_meaning.specs.Computations.{Computation, pure, steps, ◌>>=◌, ◌>>◌}
use Rattle.rp_meaning.specs.Expressions.{Scope, World, attribute, expression}
use Rattle.rp_meaning.specs.Levels.{alone, bodies, most_turns, with_locals}
use Rattle.rp_meaning.specs.Statements.{After, Next, algorithm}

-- ---- the bounds of inverse attributes (9.2.1.3)

abbrev pub is_at_most : ℕ → Option ℕ → Bool
is_at_most n None = true
is_at_most n (Some high) = nat_le n high

abbrev pub holds_count : Bounds → ℕ → Bool
holds_count bounds n = nat_le bounds.low n && is_at_most n bounds.high

-- exactly one, without an aggregate
abbrev pub is_count_of : Option InverseAggregate → ℕ → Bool
is_count_of None n = nat_le 1 n && nat_le n 1
is_count_of (Some x) n = holds_count x.bounds n

module _ (world : World) (below : Body → Computation Value) where
  abbrev pub value_by : Option Expression → Scope → Computation Value
  value_by (Some x) s = expression world below x s
  value_by None s = pure v.Indet

  abbrev pub attribute_value : Option AttributePlace → Value → Computation Value
  attribute_value (Some a) itself = steps 1 >> attribute world below (a ∷ []) itself
  attribute_value None itself = pure v.Indet

  -- a step, and one for each user
  abbrev pub bounds_value : Option Inverse → Option ℕ → Computation Value
  bounds_value (Some x) (Some place) =
      steps (1 + length (inverse_places world.population x place)) >> pure (v.Log (of_test (is_count_of x.aggregate (length (inverse_places world.population x place)))))
  bounds_value _ _ = pure v.Indet

  abbrev pub condition_after : Option Expression → After → Computation Value
  condition_after condition (Next s) = value_by condition s
  condition_after condition _ = pure v.Indet

  -- a condition of a rule, behind its statements
  abbrev pub rule_value : Option GlobalRule → ℕ → Computation Value
  rule_value (Some x) place = algorithm world most_turns below x.algorithm (with_locals [] x.algorithm) >>= condition_after (slice_get x.domain_rules place)
  rule_value None place = pure v.Indet

  -- what a rule says of SELF
  abbrev pub evaluation : Rule → Value → Computation Value
  evaluation (r.Type number place) itself = value_by (option_and_then (λ x. slice_get x.domain_rules place) (slice_get world.schema.types number)) (alone itself)
  evaluation (r.Entity number place) itself = value_by (option_and_then (λ x. slice_get x.domain_rules place) (entity_at world.schema number)) (alone itself)
  evaluation (r.Global number place) itself = rule_value (slice_get world.schema.rules number) place
  evaluation (r.Unique number place at) itself =
      attribute_value (option_and_then (λ rule. slice_get rule at) (option_and_then (λ x. slice_get x.unique_rules place) (entity_at world.schema number))) itself
  evaluation (r.Inverse number place) itself = bounds_value (inverse_at world.schema number place) (place_of itself)

abbrev pub outcome_of : ℕ → Option (Value × Counter) → Outcome
outcome_of limit None = o.Limit
outcome_of limit (Some p) = o.Value p.0 (limit - p.1.left)

-- with nothing counted yet
abbrev pub within_limit : ℕ → Counter
within_limit limit = record { left = limit; nesting = 0 }

-- a rule's value for SELF and the steps that it took, or the limit: of steps, or of 200 bodies that nest
unfoldable pub outcome : World → Rule → Value → ℕ → Outcome
outcome world rule itself limit = outcome_of limit (evaluation world (bodies world 200) rule itself (within_limit limit))
