-- What the typing of an entity refuses.
use Rattle.std.proofs.Common.{◌≡◌, ℕ, suc, Bool, true, ◌&&◌, List, [], ◌∷◌, Some, None, Ok, refl}
use Rattle.std.proofs.lemmas.Bool.{and_from}
use Rattle.std.specs.List.{list_all}
use Rattle.ex_kinds.specs.Faults.{either}
use Rattle.ex_kinds.specs.Kinds.{of_type}
use Rattle.ex_named.specs.declared.declaration.NamedAttribute.{NamedAttribute}
use Rattle.ex_named.specs.declared.declaration.NamedAttribute.TheVariants as na
use Rattle.ex_named.specs.declared.declaration.NamedDerived.{NamedDerived}
use Rattle.ex_named.specs.declared.declaration.NamedDomainRule.{NamedDomainRule}
use Rattle.ex_named.specs.declared.declaration.NamedEntity.{NamedEntity}
use Rattle.ex_named.specs.declared.declaration.NamedExplicit.{NamedExplicit}
use Rattle.ex_named.specs.declared.declaration.NamedInverse.{NamedInverse}
use Rattle.ex_named.specs.declared.declaration.NamedUniqueRule.{NamedUniqueRule}
use Rattle.ex_named.specs.declared.reference.AttributeMeaning.{AttributeMeaning}
use Rattle.ex_named.specs.declared.reference.AttributeMeaning.TheVariants as m
use Rattle.ex_named.specs.declared.reference.AttributeUse.{AttributeUse}
use Rattle.ex_types.specs.Checked.{Checked, Resolved, checked, checked_by}
use Rattle.ex_types.specs.Declarations as typing
use Rattle.ex_types.specs.Declarations.{known, of_entity}
use Rattle.ex_typing.specs.Expressions.{Known, expression}
use Rattle.ex_typing_statements.specs.Statements.{Told, assigned, assign_unless}
use Rattle.ex_operators.specs.Fitting.{fits}
use Rattle.rp_rule_laws.proofs.AttributesOnce.{expression_fine, neither}
use Rattle.rp_rule_laws.specs.Attributes as law

-- ---- lists

module _ {A : Type 0} (tell : A → Told) (test : A → Bool) (passes : (x : A) → tell x ≡ None → test x ≡ true) where
  all_after : (found : Told) (xs : List A) → typing.told_after tell found xs ≡ None → (found ≡ None) × (list_all test xs ≡ true)
  all_after found [] none = (none, refl)
  all_after found (x ∷ xs) none =
      let rest = all_after (either found (tell x)) xs none in
      let both = neither found (tell x) rest.0 in
      (both.0, and_from (test x) (list_all test xs) (passes x both.1) rest.1)

  each_passes : (xs : List A) → typing.told tell xs ≡ None → list_all test xs ≡ true
  each_passes xs none = (all_after None xs none).1

module _ {A : Type 0} (tell : ℕ → A → Told) (test : A → Bool) (passes : (n : ℕ) (x : A) → tell n x ≡ None → test x ≡ true) where
  all_numbered : (n : ℕ) (found : Told) (xs : List A) → typing.told_numbered_after tell n found xs ≡ None → (found ≡ None) × (list_all test xs ≡ true)
  all_numbered n found [] none = (none, refl)
  all_numbered n found (x ∷ xs) none =
      let rest = all_numbered (suc n) (either found (tell n x)) xs none in
      let both = neither found (tell n x) rest.0 in
      (both.0, and_from (test x) (list_all test xs) (passes n x both.1) rest.1)

-- ---- names

meaning_one : (at : ℕ) (meaning : AttributeMeaning) → typing.ambiguous_by at meaning ≡ None → law.is_one meaning ≡ true
meaning_one at (m.One place) none = refl
meaning_one at m.Several none = cc

use_one : (name : AttributeUse) → typing.ambiguous name ≡ None → law.means_one name ≡ true
use_one name none = meaning_one name.at name.meaning none

attribute_one : (a : NamedAttribute) → typing.attribute a ≡ None → law.attribute a ≡ true
attribute_one (na.Own n) none = refl
attribute_one (na.Redeclared r) none = use_one r.attribute none

-- ---- an entity

module _ (schema : Known) where
  derived_one : (n : ℕ) (x : NamedDerived) → typing.derived_one schema (of_entity n) x ≡ None → (law.attribute x.attribute && law.expression x.value) ≡ true
  unfolding assigned
  derived_one n x none =
      let both = neither (typing.attribute x.attribute) (assigned schema (of_entity n) (of_type x.data_type) (typing.place_of x.attribute) x.value) none in
      let value = neither (expression schema (of_entity n) x.value).fault (assign_unless (fits schema.types (expression schema (of_entity n) x.value).kinds (of_type x.data_type)) (typing.place_of x.attribute)) both.1 in
      and_from (law.attribute x.attribute) (law.expression x.value) (attribute_one x.attribute both.0) (expression_fine schema n x.value (of_entity n) refl value.0)

  entity_one : (n : ℕ) (e : NamedEntity) → typing.entity schema n e ≡ None → law.entity e ≡ true
  unfolding typing.entity
  entity_one n e none =
      let explicit = typing.explicit schema e.explicit in
      let derived = typing.derived schema (of_entity n) e.derived in
      let inverse = typing.inverse schema e.inverse in
      let unique = typing.unique_rules schema e.unique_rules in
      let rules = typing.domain_rules schema (of_entity n) e.domain_rules in
      let all = neither (either (either (either explicit derived) inverse) unique) rules none in
      let four = neither (either (either explicit derived) inverse) unique all.0 in
      let three = neither (either explicit derived) inverse four.0 in
      let two = neither explicit derived three.0 in
      let are_explicit = list_all (λ (x : NamedExplicit). list_all law.attribute x.attributes) e.explicit in
      let are_derived = list_all (λ (x : NamedDerived). law.attribute x.attribute && law.expression x.value) e.derived in
      let are_inverse = list_all (λ (x : NamedInverse). law.means_one x.attribute) e.inverse in
      let are_unique = list_all (λ (x : NamedUniqueRule). list_all law.means_one x.attributes) e.unique_rules in
      and_from (are_explicit && are_derived && are_inverse && are_unique) (list_all (λ (x : NamedDomainRule). law.expression x.condition) e.domain_rules)
      (and_from (are_explicit && are_derived && are_inverse) are_unique
      (and_from (are_explicit && are_derived) are_inverse
      (and_from are_explicit are_derived
      (each_passes (λ (x : NamedExplicit). typing.told typing.attribute x.attributes) (λ (x : NamedExplicit). list_all law.attribute x.attributes) (λ x. each_passes typing.attribute law.attribute attribute_one x.attributes) e.explicit two.0)
      (each_passes (typing.derived_one schema (of_entity n)) (λ (x : NamedDerived). law.attribute x.attribute && law.expression x.value) (derived_one n) e.derived two.1))
      (each_passes (λ (x : NamedInverse). typing.ambiguous x.attribute) (λ (x : NamedInverse). law.means_one x.attribute) (λ x. use_one x.attribute) e.inverse three.1))
      (each_passes (λ (x : NamedUniqueRule). typing.told typing.ambiguous x.attributes) (λ (x : NamedUniqueRule). list_all law.means_one x.attributes) (λ x. each_passes typing.ambiguous law.means_one use_one x.attributes) e.unique_rules four.1))
      (each_passes (λ (x : NamedDomainRule). (expression schema (of_entity n) x.condition).fault) (λ (x : NamedDomainRule). law.expression x.condition) (λ x. expression_fine schema n x.condition (of_entity n) refl) e.domain_rules all.1)

-- ---- a schema

no_fault : (named : Resolved) (told : Told) (schema : Checked) → checked_by named told ≡ Ok schema → told ≡ None
no_fault named None schema is = refl
no_fault named (Some fault) schema is = cc

pub all_mean_one : (named : Resolved) (schema : Checked) → checked named ≡ Ok schema → list_all law.entity named.schema.entities ≡ true
unfolding checked typing.declarations
all_mean_one named schema is =
    let s = named.schema in
    let all : typing.declarations (known s) s ≡ None = no_fault named (typing.declarations (known s) s) schema is in
    let parts = neither (either (typing.told (typing.constant (known s)) s.constants) (typing.told_numbered (typing.defined_type (known s)) s.types))
    (either (typing.told_numbered (typing.entity (known s)) s.entities) (either (typing.told (typing.function (known s)) s.functions) (typing.told (typing.rule (known s)) s.rules))) all in
    let last = neither (typing.told_numbered (typing.entity (known s)) s.entities) (either (typing.told (typing.function (known s)) s.functions) (typing.told (typing.rule (known s)) s.rules)) parts.1 in
    (all_numbered (typing.entity (known s)) law.entity (entity_one (known s)) 0 None s.entities last.0).1
