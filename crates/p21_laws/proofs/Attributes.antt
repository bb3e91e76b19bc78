-- The value of an attribute, and what is written of it.
use Rattle.std.proofs.Common.{◌≡◌, ◌≤◌, ℕ, zero, suc, Bool, true, false, if◌then◌else◌, List, [], ◌∷◌, length, zip, Option, Some, None, Ok, Err, refl, sym, ◌∙◌, ap, subst, arith}
use Rattle.std.specs.List.{AllByRecursion, list_all}
use Rattle.ex_named.specs.declared.declaration.NamedType.{NamedType}
use Rattle.ex_slots.specs.Slots.{Slot}
use Rattle.ex_types.specs.Checked.{Checked}
use Rattle.p21_mappings.specs.Instances.{Mapped, and_then, defined, derived_value, each, has_star, is_left_out, is_open, misplaced, value}
use Rattle.p21_instances.specs.Instances.{references, referred}
use Rattle.p21_spelling.proofs.Equations.{spelling-Derived}
use Rattle.p21_spelling.proofs.Runs.{both_hold, first_holds, second_holds}
use Rattle.p21_spelling.specs.Values.{Spelling, spelling}
use Rattle.p21_tree.specs.declared.fault.InstanceFaultKind.TheVariants.{NotDerived}
use Rattle.p21_tree.specs.declared.value.Value as tree
use Rattle.p21_tree.specs.declared.value.Value.TheFolds as trees
use Rattle.p21_tree.specs.declared.value.Value.TheOpen.{Value-F}
use Rattle.p21_tree.specs.declared.value.Value.TheVariants as t
use Rattle.p21_values.specs.Taking.{bound}
use Rattle.p21_canonical.specs.Trees.{attribute_at, attribute_tree, attributes, marks_of, value_tree}
use Rattle.rp_value.specs.declared.value.Value.{Value}
use Rattle.rp_value.specs.declared.value.Value.TheVariants as v
use Rattle.p21_laws.proofs.Pairs.{AllBoth, numbered_next}
use Rattle.p21_laws.proofs.Referred.{no_star, refers_again}
use Rattle.p21_laws.proofs.Taken.{bound_again, bound_levels, bound_spelled}
use Rattle.p21_laws.specs.Types.{AreTypes}

-- what the first gives, and what all others do
pub split : {B : Type 0} (first : Mapped B) (others : Mapped (List B)) (ys : List B) → and_then first (λ y. and_then others (λ zs. Ok (y ∷ zs))) ≡ Ok ys
    → (y : B) × ((zs : List B) × ((first ≡ Ok y) × ((others ≡ Ok zs) × (y ∷ zs ≡ ys))))
split (Ok y) (Ok zs) ys e = (y, (zs, (refl, (refl, cc))))
split (Ok y) (Err kind) ys e = cc
split (Err kind) others ys e = cc

-- both are there
pub joined : {B : Type 0} (first : Mapped B) (others : Mapped (List B)) (y : B) (zs : List B) → first ≡ Ok y → others ≡ Ok zs → and_then first (λ y. and_then others (λ zs. Ok (y ∷ zs))) ≡ Ok (y ∷ zs)
joined first others y zs one all = ap (λ r. and_then r (λ y. and_then others (λ zs. Ok (y ∷ zs)))) one ∙ ap (λ r. and_then r (λ zs. Ok (y ∷ zs))) all

module _ (types : List NamedType) where
  abbrev pub shown_as : Slot → Value → tree.Value
  shown_as s w = attribute_tree types s.is_derived w

  abbrev pub trees_of : List Slot → List Value → List tree.Value
  trees_of [] ws = []
  trees_of (s ∷ ss) [] = []
  trees_of (s ∷ ss) (w ∷ ws) = shown_as s w ∷ trees_of ss ws

  module _ (P : Slot → Value → Type 0) where
    pub attributes_are : (ss : List Slot) (ws : List Value) → AllBoth P ss ws → attributes types (marks_of ss) ws ≡ trees_of ss ws
    attributes_are [] [] p = refl
    attributes_are [] (w ∷ ws) p = absurd p
    attributes_are (s ∷ ss) [] p = absurd p
    attributes_are (s ∷ ss) (w ∷ ws) p = ap (λ l. shown_as s w ∷ l) (numbered_next (attribute_at types (s.is_derived ∷ marks_of ss)) zero ws ∙ attributes_are ss ws p.1)

    pub as_many_trees : (ss : List Slot) (ws : List Value) → AllBoth P ss ws → length ss ≡ length (trees_of ss ws)
    as_many_trees [] [] p = refl
    as_many_trees [] (w ∷ ws) p = absurd p
    as_many_trees (s ∷ ss) [] p = absurd p
    as_many_trees (s ∷ ss) (w ∷ ws) p = ap suc (as_many_trees ss ws p.1)

    pub trees_pass : (test : tree.Value → Bool) → ((s : Slot) (w : Value) → P s w → test (shown_as s w) ≡ true) → (ss : List Slot) (ws : List Value) → AllBoth P ss ws → list_all test (trees_of ss ws) ≡ true
    trees_pass test passes [] [] p = refl
    trees_pass test passes [] (w ∷ ws) p = absurd p
    trees_pass test passes (s ∷ ss) [] p = absurd p
    trees_pass test passes (s ∷ ss) (w ∷ ws) p = both_hold (test (shown_as s w)) (list_all test (trees_of ss ws)) (passes s w p.0) (trees_pass test passes ss ws p.1)

  -- a value that is taken again of what is written of it
  pub record Kept (s : Slot) (w : Value) : Type 0 where
    pub unset : s.is_derived ≡ true → w ≡ v.Indet
    pub taken : s.is_derived ≡ false → bound types s.data_type (value_tree types w) ≡ Some w

  -- it was read of this value of a file, where these names are defined
  pub record Good (is_defined : ℕ → Bool) (s : Slot) (x : tree.Value) (w : Value) : Type 0 where
    pub kept : Kept s w
    pub refers : list_all is_defined (references (shown_as s w)) ≡ true
    pub spelled : (spelling x).is_spelled ≡ true → (spelling (shown_as s w)).is_spelled ≡ true
    pub levels : (spelling (shown_as s w)).levels ≤ (spelling x).levels

pub refers-Derived : references t.Derived ≡ []
refers-Derived = ap references (sym t.rolls-Derived) ∙ trees.fold-roll-Value (List ℕ) referred Value-F.Derived

module _ (schema : Checked) where
  abbrev types : List NamedType
  types = schema.named.schema.types

  -- ---- it is read again

  value_by : (is_defined : ℕ → Bool) (s : Slot) (w : Value) (test : Bool) → s.is_derived ≡ test → Kept types s w → list_all is_defined (references (attribute_tree types test w)) ≡ true
      → (if test then derived_value (attribute_tree types test w) else if has_star (attribute_tree types test w) then Err NotDerived
      else defined schema is_defined (bound types s.data_type (attribute_tree types test w)) (list_all is_defined (references (attribute_tree types test w)))) ≡ Ok w
  value_by is_defined s w true is kept all =
      ap (λ o. if is_open o then Ok v.Indet else Err (misplaced t.Derived)) t.outs-Derived ∙ ap (λ w. Ok w) (sym (kept.unset is))
  value_by is_defined s w false is kept all =
      ap (λ b. if b then Err NotDerived else defined schema is_defined (bound types s.data_type (value_tree types w)) (list_all is_defined (references (value_tree types w)))) (no_star types w)
      ∙ ap (λ o. defined schema is_defined o (list_all is_defined (references (value_tree types w)))) (kept.taken is)
      ∙ ap (defined schema is_defined (Some w)) all

  value_again : (is_defined : ℕ → Bool) (s : Slot) (w : Value) → Kept types s w → list_all is_defined (references (shown_as types s w)) ≡ true → value schema is_defined (s, shown_as types s w) ≡ Ok w
  value_again is_defined s w kept all = value_by is_defined s w s.is_derived refl kept all

  pub values_again : (is_defined : ℕ → Bool) (ss : List Slot) (ws : List Value) → AllBoth (Kept types) ss ws → list_all (λ x. list_all is_defined (references x)) (trees_of types ss ws) ≡ true
      → each (value schema is_defined) (zip ss (trees_of types ss ws)) ≡ Ok ws
  values_again is_defined [] [] p all = refl
  values_again is_defined [] (w ∷ ws) p all = absurd p
  values_again is_defined (s ∷ ss) [] p all = absurd p
  values_again is_defined (s ∷ ss) (w ∷ ws) p all =
      let first : Bool = list_all is_defined (references (shown_as types s w)) in
      let others : Bool = list_all (λ x. list_all is_defined (references x)) (trees_of types ss ws) in
      joined (value schema is_defined (s, shown_as types s w)) (each (value schema is_defined) (zip ss (trees_of types ss ws))) w ws
      (value_again is_defined s w p.0 (first_holds first others all))
      (values_again is_defined ss ws p.1 (second_holds first others all))

  -- ---- what was read

  module _ (are : AreTypes types) (is_defined : ℕ → Bool) (s : Slot) (x : tree.Value) (w : Value) where
    good_derived : s.is_derived ≡ true → v.Indet ≡ w → Good types is_defined s x w
    good_derived is same =
        let shown : shown_as types s w ≡ t.Derived = ap (λ b. attribute_tree types b w) is in
        let flat : (spelling (shown_as types s w)).levels ≡ 0 = ap (λ x. (spelling x).levels) shown ∙ ap (λ (s : Spelling). s.levels) spelling-Derived in
        record {
          kept = record { unset = λ e. sym same; taken = λ e. let both : true ≡ false = sym is ∙ e in cc };
          refers = ap (λ x. list_all is_defined (references x)) shown ∙ ap (list_all is_defined) refers-Derived;
          spelled = λ e. ap (λ x. (spelling x).is_spelled) shown ∙ ap (λ (s : Spelling). s.is_spelled) spelling-Derived;
          levels = omega arith;
        }

    derived_by_test : s.is_derived ≡ true → (open_one : Bool) → (if open_one then Ok v.Indet else Err (misplaced x)) ≡ Ok w → Good types is_defined s x w
    derived_by_test is true e = good_derived is cc
    derived_by_test is false e = cc

    good_value : s.is_derived ≡ false → bound types s.data_type x ≡ Some w → list_all is_defined (references x) ≡ true → Good types is_defined s x w
    good_value is taken all =
        let shown : value_tree types w ≡ shown_as types s w = sym (ap (λ b. attribute_tree types b w) is) in
        let deep : (spelling (value_tree types w)).levels ≡ (spelling (shown_as types s w)).levels = ap (λ x. (spelling x).levels) shown in
        let less = bound_levels types are s.data_type x w taken in
        record {
          kept = record { unset = λ e. let both : true ≡ false = sym e ∙ is in cc; taken = λ e. bound_again types are s.data_type x w taken };
          refers = ap (λ x. list_all is_defined (references x)) (sym shown) ∙ ap (list_all is_defined) (refers_again types s.data_type x w taken) ∙ all;
          spelled = λ e. ap (λ x. (spelling x).is_spelled) (sym shown) ∙ bound_spelled types are s.data_type x w taken e;
          levels = omega arith;
        }

    value_by_both : s.is_derived ≡ false → (o : Option Value) (all : Bool) → bound types s.data_type x ≡ o → list_all is_defined (references x) ≡ all → defined schema is_defined o all ≡ Ok w → Good types is_defined s x w
    value_by_both is None all taken there e = cc
    value_by_both is (Some u) true taken there e = let same : u ≡ w = cc in good_value is (taken ∙ ap (λ u. Some u) same) there
    value_by_both is (Some u) false taken there e = cc

    value_by_star : s.is_derived ≡ false → (star : Bool)
        → (if star then Err NotDerived else defined schema is_defined (bound types s.data_type x) (list_all is_defined (references x))) ≡ Ok w → Good types is_defined s x w
    value_by_star is true e = cc
    value_by_star is false e = value_by_both is (bound types s.data_type x) (list_all is_defined (references x)) refl refl e

    read_by : (test : Bool) → s.is_derived ≡ test
        → (if test then derived_value x else if has_star x then Err NotDerived else defined schema is_defined (bound types s.data_type x) (list_all is_defined (references x))) ≡ Ok w → Good types is_defined s x w
    read_by true is e = derived_by_test is (is_left_out x) e
    read_by false is e = value_by_star is (has_star x) e

    pub value_read : value schema is_defined (s, x) ≡ Ok w → Good types is_defined s x w
    value_read e = read_by s.is_derived refl e

  module _ (is_defined : ℕ → Bool) (P : Slot → Value → Type 0) (Q : tree.Value → Type 0) (reads : (s : Slot) (x : tree.Value) (w : Value) → value schema is_defined (s, x) ≡ Ok w → Q x → P s w) where
    pub values_read : (ss : List Slot) (xs : List tree.Value) (ws : List Value) → length ss ≡ length xs → each (value schema is_defined) (zip ss xs) ≡ Ok ws → AllByRecursion Q xs → AllBoth P ss ws
    values_read [] xs ws many e q = let same : [] ≡ ws = cc in subst (AllBoth P []) same tt
    values_read (s ∷ ss) [] ws many e q = absurd (omega arith)
    values_read (s ∷ ss) (x ∷ xs) ws many e q =
        let parts = split (value schema is_defined (s, x)) (each (value schema is_defined) (zip ss xs)) ws e in
        subst (AllBoth P (s ∷ ss)) parts.1.1.1.1 (reads s x parts.0 parts.1.1.0 q.0, values_read ss xs parts.1.0 (omega arith) parts.1.1.1.0 q.1)
