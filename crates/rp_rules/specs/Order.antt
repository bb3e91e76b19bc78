-- The rules of a schema by what they are of, and the checks by them.
use Rattle.std.specs.Prelude.{ℕ, List, [], map, length, slice_get}
use Rattle.std.specs.List.{flat_map}
use Rattle.std.specs.Option.{option_and_then, option_map_or, unwrap_or}
use Rattle.ex_named.specs.declared.reference.AttributePlace.{AttributePlace}
use Rattle.rp_meaning.specs.declared.schema.Schema.{Schema}
use Rattle.rp_meaning.specs.Attributes.{entity_at}
use Rattle.rp_meaning.specs.Populations.{Instance}
use Rattle.rp_meaning.specs.Report.{inverse_check, places, rule_check, type_check, unique_check, where_check}
use Rattle.rp_meaning.specs.Sequence.{Checking}
use Rattle.rp_rules.specs.declared.order.Sort.{Sort}
use Rattle.rp_rules.specs.declared.order.Sort.TheVariants as s

module _ (schema : Schema) where
  -- how many rules of a sort there are of a number
  abbrev pub count_of : Sort → ℕ → ℕ
  count_of s.Type number = option_map_or (λ x. length x.domain_rules) (slice_get schema.types number) 0
  count_of s.Where number = option_map_or (λ x. length x.domain_rules) (entity_at schema number) 0
  count_of s.Unique number = option_map_or (λ x. length x.unique_rules) (entity_at schema number) 0
  count_of s.Inverse number = option_map_or (λ x. length x.inverse) (entity_at schema number) 0
  count_of s.Global number = option_map_or (λ x. length x.domain_rules) (slice_get schema.rules number) 0

  -- what a rule of UNIQUE lists
  abbrev pub listed_by : ℕ → ℕ → List AttributePlace
  listed_by entity place = unwrap_or (option_and_then (λ x. slice_get x.unique_rules place) (entity_at schema entity)) []

  module _ (population : List Instance) where
    abbrev pub check_at : Sort → ℕ → ℕ → Checking
    check_at s.Type number place = type_check schema population number place
    check_at s.Where number place = where_check schema population number place
    check_at s.Unique number place = unique_check schema population number place (listed_by number place)
    check_at s.Inverse number place = inverse_check schema population number place
    check_at s.Global number place = rule_check schema population number place

    -- those of a number
    abbrev pub checks_at : Sort → ℕ → List Checking
    checks_at sort number = map (check_at sort number) (places (count_of sort number))

    -- those of a sort
    abbrev pub checks_of : Sort → List ℕ → List Checking
    checks_of sort numbers = flat_map (checks_at sort) numbers
