-- An evaluation takes at most the steps that it may take, and what it comes to.
use Rattle.std.proofs.Common.{◌≡◌, ℕ, ◌+◌, ◌≤◌, Option, Some, None, arith, refl}
use Rattle.rp_meaning.specs.declared.counter.Counter.{Counter}
use Rattle.rp_meaning.specs.declared.outcome.Outcome.{Outcome}
use Rattle.rp_meaning.specs.declared.outcome.Outcome.TheVariants as o
use Rattle.rp_meaning.specs.declared.rule.Rule.{Rule}
use Rattle.rp_meaning.specs.Expressions.{World}
use Rattle.rp_meaning.specs.Outcomes.{outcome, outcome_of}
use Rattle.rp_meaning.specs.Sequence.{ended}
use Rattle.rp_rules.specs.declared.ended.Ended.TheVariants as e
use Rattle.rp_rules.specs.Endings.{ended_behind, steps_in}
use Rattle.rp_value.specs.declared.value.Value.{Value}

within : (limit : ℕ) (p : Option (Value × Counter)) → limit ≡ 200000 → steps_in (outcome_of limit p) ≤ 200000
within limit None h = omega arith
within limit (Some p) h = omega arith

-- a limit's worth at most
pub outcome-within : (world : World) (rule : Rule) (itself : Value) → steps_in (outcome world rule itself 200000) ≤ 200000
unfolding outcome
outcome-within world rule itself = within 200000 _ refl

pub begun-ended : (found : Outcome) (used : ℕ) → ended_behind (e.Begun found) ≡ (ended found used).0
begun-ended (o.Value x steps) used = refl
begun-ended o.Limit used = refl

pub begun-used : (found : Outcome) (used : ℕ) → used + steps_in found ≡ (ended found used).1
begun-used (o.Value x steps) used = refl
begun-used o.Limit used = refl

pub ruleset begun = (outcome-within, begun-ended, begun-used)
