-- That rules and the request for an extent have the same instances of an entity.
use Rattle.std.specs.Prelude.{◌≡◌, ℕ, List, map, length, slice_get, Some}
use Rattle.std.specs.Str.{str_to_ascii_uppercase}
use Rattle.ex_schemas.specs.Schemas.{Checked, entity_names}
use Rattle.rp_value.specs.declared.value.AggregateKind.TheVariants as k
use Rattle.rp_value.specs.declared.value.Value.{Value}
use Rattle.rp_rows.specs.declared.rows.Key.{Key}
use Rattle.rp_population.specs.declared.place.Place.{Place}
use Rattle.rp_population.specs.Populations.{Placed, population}
use Rattle.rp_meaning.specs.declared.body.Body.{Body}
use Rattle.rp_meaning.specs.declared.rule.Rule.{Rule}
use Rattle.rp_meaning.specs.Attributes.{aggregate}
use Rattle.rp_meaning.specs.Computations.{Computation}
use Rattle.rp_meaning.specs.Expressions.{costing, extent_value}
use Rattle.rp_meaning.specs.Populations.{extent}
use Rattle.rp_meaning.specs.Report.{candidates_of, of_instance}
use Rattle.rp_positions.specs.Positions.{place_position}
use Rattle.rp_plain.specs.declared.messages.Reply.TheVariants as reply
use Rattle.rp_plain.specs.declared.messages.Request.TheVariants as request
use Rattle.rp_plain.specs.Plain.{Plain}
use Rattle.rp_plain.specs.Populations.{group_schema}
use Rattle.rp_plain.specs.Readers.{asked as asked_by}
use Rattle.rp_plain.specs.Step.{reply_to}
use Rattle.rp_plain.specs.Valid.{IsValid}
use Rattle.rp_use_laws.specs.Uses.{entities_in, seen, standing}

-- a SET of these elements, which costs a step for each
abbrev pub set_of : List Value → Computation Value
set_of elements = costing (length elements) (aggregate k.Set elements)

-- an entity has this name, in either case
abbrev pub HasName : Checked → ℕ → List ℕ → Type 0
HasName schema entity name = slice_get (entity_names (entities_in schema)) entity ≡ Some (str_to_ascii_uppercase name)

module _ (schema : Checked) (xs : List Placed) where
  -- Rules have these instances of an entity, by positions: a Domain returns them as its extent, the entity's name in an expression is the
  -- SET of them, which a QUERY goes through, and the entity's own rules are evaluated for each of them.
  pub record HasExtent (entity : ℕ) (found : List Place) : Type 0 where
    pub given : extent (seen schema xs).population entity ≡ standing schema xs found
    pub value : (below : Body → Computation Value) → extent_value (seen schema xs) below entity ≡ set_of (standing schema xs found)
    pub tried : (rules : List Rule) → let w = seen schema xs in candidates_of w.schema w.population entity rules ≡ map (of_instance w.schema w.population rules) (map (place_position xs) found)

-- In a valid repository of these schemas, if a partner's request returns these instances of a group's population, rules of the group's
-- schema have them.
abbrev pub ValidExtentsAgree : List Checked → Type 0
ValidExtentsAgree schemas = (r : Plain) → r.schemas ≡ schemas → IsValid r
    → (c : List ℕ) (k : Key) (name : List ℕ) (found : List Place) → reply_to r c (request.Extent k name) ≡ reply.Extent found
    → (schema : Checked) → group_schema r.schemas ((asked_by r c).listing k) ≡ Some schema
    → (entity : ℕ) → HasName schema entity name → HasExtent schema (population ((asked_by r c).counted k)) entity found
