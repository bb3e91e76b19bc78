-- The attributes of a population whose values are at fault, instance by instance.
use Rattle.std.specs.Prelude.{ℕ, ◌+◌, ◌&&◌, not, Bool, List, [], ◌∷◌, ◌++◌, map, filter, length, Some, if◌then◌else◌}
use Rattle.std.specs.List.{flat_map, list_any}
use Rattle.std.specs.Option.{is_some}
use Rattle.ex_named.specs.declared.reference.AttributePlace.{AttributePlace}
use Rattle.rp_meaning.specs.declared.report.Culprit.{Culprit}
use Rattle.rp_meaning.specs.declared.schema.Explicit.{Explicit}
use Rattle.rp_meaning.specs.declared.schema.Redeclaration.{Redeclaration}
use Rattle.rp_meaning.specs.declared.schema.Schema.{Schema}
use Rattle.rp_meaning.specs.Attributes.{derivation_in, explicit_derivations}
use Rattle.rp_meaning.specs.Faults.{Held, astray, checked_of, is_astray_by, is_faulty_by, is_unset, out_of_bounds, own_declaration, redeclared_by, that_bounds_hold, unset}
use Rattle.rp_meaning.specs.Populations.{Instance, Stored}
use Rattle.rp_meaning.specs.Report.{attribute_culprit}
use Rattle.rp_meaning.specs.Uses.{same_attribute}
use Rattle.rp_faults.specs.declared.held.Fault.{Fault}
use Rattle.rp_faults.specs.declared.held.Fault.TheVariants as f
use Rattle.rp_value.specs.declared.value.Value.{Value}

abbrev pub one_if : Bool → Culprit → List Culprit
one_if is_one culprit = if is_one then culprit ∷ [] else []

module _ (schema : Schema) (population : List Instance) where
  abbrev pub violates : Fault → Held → Bool
  violates f.Unset = unset schema
  violates f.Bounds = out_of_bounds schema population
  violates f.Reference = astray schema population

  -- all
  abbrev pub culprits : Fault → List Culprit
  culprits fault = map attribute_culprit (filter (violates fault) (checked_of schema population))

  -- ---- instance by instance

  abbrev pub is_fault : Fault → Explicit → Value → Bool
  is_fault f.Unset x value = is_unset schema x value
  is_fault f.Bounds x value = is_faulty_by schema.types (that_bounds_hold (length population)) x.data_type value
  is_fault f.Reference x value = is_astray_by schema.types population x.data_type value

  abbrev pub is_fault_again : Fault → AttributePlace → Value → Redeclaration → Bool
  is_fault_again fault a value x = same_attribute x.attribute a && is_fault fault x.declaration value

  -- in an instance of which these entities redeclare attributes
  abbrev pub is_culprit : Fault → Instance → List ℕ → AttributePlace → Value → Bool
  is_culprit fault i redeclaring a value =
      not (is_some (derivation_in schema (explicit_derivations schema a) i))
      && list_any (λ x. is_fault fault x value) (own_declaration schema a ++ flat_map (redeclared_by schema a) redeclaring)

  abbrev pub culprits_in : Fault → ℕ → Instance → List Stored → List Culprit
  culprits_in fault place i values =
      map (λ x. record { instance = place; attribute = Some x.attribute }) (filter (λ x. is_culprit fault i i.entities x.attribute x.written) values)

  -- of some attributes with their values as they are written
  abbrev pub culprits_among : Fault → ℕ → Instance → List ℕ → List AttributePlace → List Value → List Culprit
  culprits_among fault place i redeclaring (a ∷ attributes) (x ∷ written) =
      one_if (is_culprit fault i redeclaring a x) (record { instance = place; attribute = Some a }) ++ culprits_among fault place i redeclaring attributes written
  culprits_among fault place i redeclaring _ _ = []

  -- of instances, the first of which stands at this place
  abbrev pub culprits_from : Fault → ℕ → List Instance → List Culprit
  culprits_from fault place [] = []
  culprits_from fault place (i ∷ others) = culprits_in fault place i i.values ++ culprits_from fault (place + 1) others
