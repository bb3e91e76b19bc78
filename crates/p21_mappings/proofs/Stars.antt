-- No type takes a value with a `*`.
use Rattle.std.proofs.Common.{◌≡◌, ℕ, Bool, true, false, if◌then◌else◌, List, [], ◌∷◌, map, Option, Some, None, Ok, Err, option_map, ⊎_elim, refl, sym, ◌∙◌, ap, subst}
use Rattle.std.proofs.lemmas.Bool.{cases_Bool}
use Rattle.std.specs.List.{filter_map, list_all, list_any}
use Rattle.plain_data.specs.Numbers.{is_among}
use Rattle.ex_named.specs.declared.declaration.NamedType.{NamedType}
use Rattle.ex_layouts.specs.declared.read_slot.ReadSlot.{ReadSlot}
use Rattle.ex_schemas.specs.Schemas.{Checked}
use Rattle.p21_instances.specs.Instances.{references}
use Rattle.p21_tree.specs.declared.fault.InstanceFaultKind.TheVariants.{Undefined}
use Rattle.p21_tree.specs.declared.value.Value as tree
use Rattle.p21_tree.specs.declared.value.Value.TheFolds as trees
use Rattle.p21_tree.specs.declared.value.Value.TheOpen.{Value-F}
use Rattle.p21_tree.specs.declared.value.Value.TheViews as views
use Rattle.ex_selects.specs.Ends.{Base, Aggregate, Select, Target, base_of, choices, inside, target}
use Rattle.p21_values.specs.Taking as taking
use Rattle.p21_values.specs.Taking.{Meaning, all_there, bare_at, by_choice, chosen, is_that, meaning, named_by, of_list, only, place, with_first}
use Rattle.ex_selects.specs.Items.{type_named}
use Rattle.rp_value.specs.declared.value.Value.{Value}
use Rattle.rp_value.specs.declared.value.Value.TheVariants as v
use Rattle.p21_mappings.specs.Instances.{star_layer, has_star}
use Rattle.p21_mappings.specs.ReadSlots.{slot_value}

-- a meaning that no type takes
abbrev pub Never : Meaning → Type 0
Never m = (m.is_unset ≡ false) × ((t : Target) → m.fit t ≡ None)

never_placed : (m : Meaning) → Never m → (t : Target) → place m t ≡ None
never_placed m never t = rw never.0 (never.1 t)

module _ (types : List NamedType) where
  -- ---- without a keyword

  none_chosen : (plain : Base → Option Value) → ((base : Base) → plain base ≡ None) → (ks : List ℕ) → filter_map (by_choice types plain) ks ≡ []
  none_chosen plain never [] = refl
  none_chosen plain never (k ∷ ks) = rw (never (base_of types k)) (none_chosen plain never ks)

  never_bare : (plain : Base → Option Value) → ((base : Base) → plain base ≡ None) → (base : Base) → bare_at types plain base ≡ None
  never_bare plain never (Select number) = ap only (none_chosen plain never (choices types number))
  never_bare plain never base = never base

  -- ---- lists

  none_behind : (o : Option Value) → with_first o None ≡ None
  none_behind None = refl
  none_behind (Some x) = refl

  abbrev HasNever : List Meaning → Type 0
  HasNever ms = (t : Target) → all_there (map (λ m. place m t) ms) ≡ None

  never_list : (ms : List Meaning) → HasNever ms → (base : Base) → of_list types ms base ≡ None
  never_list ms never (Aggregate kind low element) = rw (never (target types element)) refl
  never_list ms never _ = refl

  -- ---- keywords

  module _ (m : Meaning) (never : Never m) where
    chosen_by : (k : ℕ) (t : Bool) → (if t then option_map (v.Named k) (m.fit (inside types k)) else None) ≡ None
    chosen_by k true = ap (option_map (v.Named k)) (never.1 (inside types k))
    chosen_by k false = refl

    never_chosen : (k : ℕ) (base : Base) → chosen types m k base ≡ None
    never_chosen k (Select number) = chosen_by k (is_among (choices types number) k)
    never_chosen k _ = refl

    named_test : (k : ℕ) (t : Target) (own : Bool) → (if own then m.fit (inside types k) else chosen types m k t.base) ≡ None
    named_test k t true = never.1 (inside types k)
    named_test k t false = never_chosen k t.base

    never_named : (o : Option ℕ) (t : Target) → named_by types m o t ≡ None
    never_named None t = refl
    never_named (Some k) t = named_test k t (is_that types t.name k)

  -- ---- any

  abbrev IsGood : tree.Value → Type 0
  IsGood x = has_star x ≡ true → Never (meaning types x)

  abbrev LayerGood : Value-F tree.Value → Type 0
  LayerGood z = star_layer (trees.map-Value tree.Value Bool has_star z) ≡ true → Never (taking.layer types (trees.map-Value tree.Value Meaning (meaning types) z))

  abbrev trees_of : List ((x : tree.Value) × IsGood x) → List tree.Value
  trees_of qs = map (λ q. q.0) qs

  some_never : (qs : List ((x : tree.Value) × IsGood x)) → list_any (λ b. b) (map has_star (trees_of qs)) ≡ true → HasNever (map (meaning types) (trees_of qs))
  some_never [] e = cc
  some_never (q ∷ qs) e = λ t. ⊎_elim
      (λ (here : has_star q.0 ≡ true). rw (never_placed (meaning types q.0) (q.1 here) t) refl)
      (λ (later : has_star q.0 ≡ false). let others = rw later at e in ap (with_first (place (meaning types q.0) t)) (some_never qs others t) ∙ none_behind (place (meaning types q.0) t))
      (cases_Bool (has_star q.0))

  layer_good : (y : Value-F ((x : tree.Value) × IsGood x)) → LayerGood (trees.map-Value ((x : tree.Value) × IsGood x) tree.Value (λ q. q.0) y)
  layer_good Value-F.Unset = λ e. cc
  layer_good Value-F.Derived = λ e. (refl, λ t. refl)
  layer_good (Value-F.Integer token) = λ e. cc
  layer_good (Value-F.Real token) = λ e. cc
  layer_good (Value-F.Text token) = λ e. cc
  layer_good (Value-F.Item token) = λ e. cc
  layer_good (Value-F.Binary token) = λ e. cc
  layer_good (Value-F.Reference n) = λ e. cc
  layer_good (Value-F.List qs) = λ e.
      (refl, λ t. never_bare (of_list types (map (meaning types) (trees_of qs))) (never_list (map (meaning types) (trees_of qs)) (some_never qs e)) t.base)
  layer_good (Value-F.Typed keyword q) = λ e. (refl, λ t. never_named (meaning types q.0) (q.1 e) (type_named types keyword) t)

  meaning_roll : (z : Value-F tree.Value) → meaning types (views.roll-Value z) ≡ taking.layer types (trees.map-Value tree.Value Meaning (meaning types) z)
  unfolding meaning
  meaning_roll z = trees.fold-roll-Value Meaning (taking.layer types) z

  star_roll : (z : Value-F tree.Value) → has_star (views.roll-Value z) ≡ star_layer (trees.map-Value tree.Value Bool has_star z)
  star_roll z = trees.fold-roll-Value Bool star_layer z

  rolled : (z : Value-F tree.Value) → LayerGood z → IsGood (views.roll-Value z)
  rolled z good e = subst Never (sym (meaning_roll z)) (good (sym (star_roll z) ∙ e))

  is_good : (x : tree.Value) → IsGood x
  is_good = trees.ind-Value IsGood (λ z y is. rolled z (subst LayerGood is (layer_good y)))

  -- a value that a type takes has none
  pub no_star : (t : Target) (x : tree.Value) (w : Value) → place (meaning types x) t ≡ Some w → has_star x ≡ false
  no_star t x w e = ⊎_elim
      (λ (star : has_star x ≡ true). let none = sym (never_placed (meaning types x) (is_good x star) t) ∙ e in cc)
      (λ (none : has_star x ≡ false). none)
      (cases_Bool (has_star x))

-- the value of a slot that no entity of the instance derives, where its type takes what is spelled
pub by_type : (schema : Checked) (is_defined : ℕ → Bool) (slot : ReadSlot) (x : tree.Value) (w : Value) → slot.is_derived ≡ false → place (meaning schema.named.schema.types x) slot.expected ≡ Some w
    → slot_value schema is_defined (slot, x) ≡ (if list_all is_defined (references x) then Ok w else Err Undefined)
by_type schema is_defined slot x w own taken = rw (own, no_star schema.named.schema.types slot.expected x w taken, taken) refl
