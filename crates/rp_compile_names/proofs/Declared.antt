-- The names of the attributes that an entity declares, by their sorts.
use Rattle.std.proofs.Common.{◌≡◌, ℕ, suc, List, [], ◌∷◌, ◌++◌, map, Option, Some, None, refl, sym, ◌∙◌, ap, append_assoc}
use Rattle.std.proofs.lemmas.List.{map-append}
use Rattle.std.specs.List.{flat_map, filter_map}
use Rattle.ex_attributes.specs.declared.attribute.Attribute.{Attribute}
use Rattle.ex_attributes.specs.Attributes.{own, declared_by as attributes_of, explicit_names, derived_name, inverse_name}
use Rattle.ex_kinds.specs.Kinds.{Kinds, of_type}
use Rattle.ex_named.specs.declared.declaration.NamedDerived.{NamedDerived}
use Rattle.ex_named.specs.declared.declaration.NamedEntity.{NamedEntity}
use Rattle.ex_named.specs.declared.declaration.NamedExplicit.{NamedExplicit}
use Rattle.ex_named.specs.declared.declaration.NamedInverse.{NamedInverse}
use Rattle.ex_named.specs.declared.reference.AttributePlace.{AttributePlace}
use Rattle.ex_named.specs.declared.reference.AttributeSort.{AttributeSort}
use Rattle.ex_named.specs.declared.reference.AttributeSort.TheVariants.{Explicit, Derived, Inverse}
use Rattle.ex_slots.specs.Slots.{declared_by, declared_together}
use Rattle.ex_tree.specs.declared.expression.Name.{Name}
use Rattle.plain_data.specs.Numbers.{numbered_from}
use Rattle.rp_compile_names.specs.Found.{placed, derived_text}

abbrev at : ℕ → AttributeSort → ℕ → AttributePlace
at entity sort place = record { entity = entity; sort = sort; place = place }

abbrev attribute : ℕ → AttributeSort → ℕ → List ℕ × Kinds → Attribute
attribute entity sort place r = record { name = r.0; place = at entity sort place; kinds = r.1 }

abbrev named : ℕ → AttributeSort → ℕ → List ℕ → List ℕ × AttributePlace
named entity sort place name = (name, at entity sort place)

without-kinds : (entity : ℕ) (sort : AttributeSort) (k : ℕ) (rows : List (List ℕ × Kinds))
    → map (λ (a : Attribute). (a.name, a.place)) (numbered_from (attribute entity sort) k rows) ≡ numbered_from (named entity sort) k (map (λ (r : List ℕ × Kinds). r.0) rows)
without-kinds entity sort k [] = refl
without-kinds entity sort k (r ∷ rows) = ap (λ (xs : List (List ℕ × AttributePlace)). named entity sort k r.0 ∷ xs) (without-kinds entity sort (suc k) rows)

together : (x : NamedExplicit) (names : List Name) → map (λ (r : List ℕ × Kinds). r.0) (map (λ (n : Name). (n.text, of_type x.data_type)) names) ≡ map (λ (d : Name × NamedExplicit). d.0.text) (map (λ (n : Name). (n, x)) names)
together x [] = refl
together x (n ∷ names) = ap (λ (xs : List (List ℕ)). n.text ∷ xs) (together x names)

explicit : (list : List NamedExplicit) → map (λ (r : List ℕ × Kinds). r.0) (flat_map explicit_names list) ≡ map (λ (d : Name × NamedExplicit). d.0.text) (flat_map declared_together list)
explicit [] = refl
explicit (x ∷ list) =
    map-append (λ (r : List ℕ × Kinds). r.0) (explicit_names x) (flat_map explicit_names list)
    ∙ (λ i. together x (filter_map own x.attributes) i ++ explicit list i)
    ∙ sym (map-append (λ (d : Name × NamedExplicit). d.0.text) (declared_together x) (flat_map declared_together list))

derived-step : (x : NamedDerived) (o : Option Name) (list : List NamedDerived) → own x.attribute ≡ o → map (λ (r : List ℕ × Kinds). r.0) (filter_map derived_name list) ≡ filter_map derived_text list
    → map (λ (r : List ℕ × Kinds). r.0) (filter_map derived_name (x ∷ list)) ≡ filter_map derived_text (x ∷ list)
derived-step x None list is same = rw is same
derived-step x (Some n) list is same = rw is (ap (λ (ns : List (List ℕ)). n.text ∷ ns) same)

derived : (list : List NamedDerived) → map (λ (r : List ℕ × Kinds). r.0) (filter_map derived_name list) ≡ filter_map derived_text list
derived [] = refl
derived (x ∷ list) = derived-step x (own x.attribute) list refl (derived list)

inverse : (list : List NamedInverse) → map (λ (r : List ℕ × Kinds). r.0) (map inverse_name list) ≡ map (λ (x : NamedInverse). x.name.text) list
inverse [] = refl
inverse (x ∷ list) = ap (λ (ns : List (List ℕ)). x.name.text ∷ ns) (inverse list)

abbrev name_and_place : Attribute → List ℕ × AttributePlace
name_and_place a = (a.name, a.place)

abbrev names_only : List Attribute → List (List ℕ × AttributePlace)
names_only = map name_and_place

pub declared-names : (number : ℕ) (x : NamedEntity)
    → (placed number Explicit (map (λ (d : Name × NamedExplicit). d.0.text) (declared_by x)) ++ placed number Derived (filter_map derived_text x.derived)) ++ placed number Inverse (map (λ (i : NamedInverse). i.name.text) x.inverse)
    ≡ names_only (attributes_of number x)
declared-names number x =
    let first = numbered_from (attribute number Explicit) 0 (flat_map explicit_names x.explicit) in
    let second = numbered_from (attribute number Derived) 0 (filter_map derived_name x.derived) in
    let third = numbered_from (attribute number Inverse) 0 (map inverse_name x.inverse) in
    sym (map-append name_and_place (first ++ second) third
    ∙ ap (λ (ys : List (List ℕ × AttributePlace)). ys ++ names_only third) (map-append name_and_place first second)
    ∙ (λ i. ((without-kinds number Explicit 0 (flat_map explicit_names x.explicit) ∙ ap (numbered_from (named number Explicit) 0) (explicit x.explicit)) i
    ++ (without-kinds number Derived 0 (filter_map derived_name x.derived) ∙ ap (numbered_from (named number Derived) 0) (derived x.derived)) i)
    ++ (without-kinds number Inverse 0 (map inverse_name x.inverse) ∙ ap (numbered_from (named number Inverse) 0) (inverse x.inverse)) i))

-- put behind others in turn
pub declared-in-turn : (number : ℕ) (x : NamedEntity) (table after last : List (List ℕ × AttributePlace)) (explicit-names derived-names inverse-names : List (List ℕ))
    → explicit-names ≡ map (λ (d : Name × NamedExplicit). d.0.text) (declared_by x) → derived-names ≡ filter_map derived_text x.derived → inverse-names ≡ map (λ (i : NamedInverse). i.name.text) x.inverse
    → after ≡ table ++ placed number Explicit explicit-names → last ≡ after ++ placed number Derived derived-names
    → last ++ placed number Inverse inverse-names ≡ table ++ names_only (attributes_of number x)
declared-in-turn number x table after last explicit-names derived-names inverse-names of-explicit of-derived of-inverse one two =
    let a = placed number Explicit (map (λ (d : Name × NamedExplicit). d.0.text) (declared_by x)) in
    let b = placed number Derived (filter_map derived_text x.derived) in
    let z = placed number Inverse (map (λ (i : NamedInverse). i.name.text) x.inverse) in
    let first : after ≡ table ++ a = one ∙ ap (λ (ns : List (List ℕ)). table ++ placed number Explicit ns) of-explicit in
    let second : last ≡ (table ++ a) ++ b = two ∙ (λ i. first i ++ placed number Derived (of-derived i)) in
    let all : last ++ placed number Inverse inverse-names ≡ ((table ++ a) ++ b) ++ z = λ i. second i ++ placed number Inverse (of-inverse i) in
    all ∙ ap (λ (xs : List (List ℕ × AttributePlace)). xs ++ z) (append_assoc table a b) ∙ append_assoc table (a ++ b) z ∙ ap (λ (xs : List (List ℕ × AttributePlace)). table ++ xs) (declared-names number x)
