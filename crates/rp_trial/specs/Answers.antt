-- What comes of the conditions of WHERE clauses over a population.
use Rattle.std.specs.Prelude.{ℕ, List, [], ◌∷◌, ◌++◌, map}
use Rattle.std.specs.List.{flat_map}
use Rattle.ex_schemas.specs.Schemas.{Checked}
use Rattle.plain_data.specs.Numbers.{numbered}
use Rattle.rp_meaning.specs.declared.rule.Rule.{Rule}
use Rattle.rp_meaning.specs.declared.rule.Rule.TheVariants as r
use Rattle.rp_meaning.specs.declared.schema.Entity.{Entity}
use Rattle.rp_meaning.specs.declared.schema.GlobalRule.{GlobalRule}
use Rattle.rp_meaning.specs.declared.schema.Schema.{Schema}
use Rattle.rp_code.specs.declared.tree.Expression.{Expression}
use Rattle.rp_meaning.specs.Compiled.{compiled}
use Rattle.rp_meaning.specs.Expressions.{World}
use Rattle.rp_meaning.specs.Outcomes.{outcome}
use Rattle.rp_meaning.specs.Populations.{Instance, extent}
use Rattle.rp_population.specs.Populations as populations
use Rattle.rp_positions.specs.Seen.{all_seen_by}
use Rattle.rp_value.specs.declared.value.Value.{Value}
use Rattle.rp_value.specs.declared.value.Value.TheVariants as v
use Rattle.rp_trial.specs.declared.answers.Answer.{Answer}

-- ---- conditions

abbrev pub entity_condition : ℕ → ℕ → Expression → Rule
entity_condition number place x = r.Entity number place

abbrev pub rule_condition : ℕ → ℕ → Expression → Rule
rule_condition number place x = r.Global number place

abbrev pub entity_conditions : ℕ → Entity → List Rule
entity_conditions number e = numbered (entity_condition number) e.domain_rules

abbrev pub rule_conditions : ℕ → GlobalRule → List Rule
rule_conditions number g = numbered (rule_condition number) g.domain_rules

-- those of entities, and then those of rules, in the order of their declarations
unfoldable pub conditions : Schema → List Rule
conditions schema = flat_map (λ rules. rules) (numbered entity_conditions schema.entities) ++ flat_map (λ rules. rules) (numbered rule_conditions schema.rules)

-- ---- answers

-- what SELF is in turn: the instances of an entity; of a rule it is nothing
abbrev pub selves : List Instance → Rule → List Value
selves population (r.Entity entity place) = extent population entity
selves population condition = v.Indet ∷ []

abbrev pub answer : World → ℕ → Rule → Value → Answer
answer world limit condition itself = record { limit = limit; condition = condition; itself = itself; outcome = outcome world condition itself limit }

-- for each SELF
abbrev pub answers_of : World → ℕ → Rule → List Answer
answers_of world limit condition = map (answer world limit condition) (selves world.population condition)

-- of each condition
abbrev pub answers_within : World → List Rule → ℕ → List Answer
answers_within world rules limit = flat_map (answers_of world limit) rules

-- with each limit
unfoldable pub answers : World → List ℕ → List Answer
answers world limits = flat_map (answers_within world (conditions world.schema)) limits

-- ---- a checked schema, and the instances of models by it

unfoldable pub world : Checked → List populations.Counted → World
world checked models = record { schema = compiled checked; population = all_seen_by (compiled checked) checked (populations.population models) }
