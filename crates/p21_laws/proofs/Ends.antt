-- What stands behind a type's name is in the end what the type is.
use Rattle.std.proofs.Common.{◌≡◌, ℕ, zero, suc, pos, ◌^◌, nat_lt, if◌then◌else◌, Bool, true, false, List, [], ◌∷◌, length, map, Option, Some, None, slice_get, get_or, ◌⊎◌, inl, inr, refl, sym, ◌∙◌, ap, subst}
use Rattle.std.specs.Option.{option_map_or}
use Rattle.ex_named.specs.declared.declaration.NamedType.{NamedType}
use Rattle.ex_named.specs.declared.declaration.NamedUnderlying.{NamedUnderlying}
use Rattle.ex_named.specs.declared.declaration.NamedUnderlying.TheVariants as u
use Rattle.ex_named.specs.declared.expression.NamedDataType.{NamedDataType, NamedDataType-F, out-NamedDataType}
use Rattle.ex_named.specs.declared.expression.NamedDataType.TheFolds.{fold_out-NamedDataType, map-NamedDataType}
use Rattle.ex_named.specs.declared.reference.TypeName.TheVariants as t
use Rattle.ex_resolve.specs.Proved.{held_by, held_in, held_in_layer, held_types}
use Rattle.ex_renamings.specs.Renamings.{end, renamed, renamed_by, renamed_by_data, renamed_times, lists_members, is_listed}
use Rattle.ex_renamings.specs.Renamings as selects
use Rattle.graphs.specs.Graphs.{IsAcyclic, line_within, joined, joined_at, supertypes}
use Rattle.graphs.proofs.Lines.{line_is, line_of}
use Rattle.rp_value.specs.declared.value.AggregateKind.TheVariants as aggregate
use Rattle.ex_selects.specs.Ends.{Base, Plain, Instance, Aggregate, Enumeration, Select, Nothing, Target, base_by, base_by_form, base_at, base_of, beneath, target, target_by, inside, inside_by}

-- whether a type is a SELECT in the end
abbrev pub is_select : Base → Bool
is_select (Select number) = true
is_select _ = false

pub at_or : {A B : Type 0} (f : A → B) (xs : List A) (k : ℕ) (d : B) → get_or (map f xs) k d ≡ option_map_or f (slice_get xs k) d
at_or f [] k d = refl
at_or f (x ∷ xs) zero d = refl
at_or f (x ∷ xs) (suc k) d = at_or f xs k d

length-map : {A B : Type 0} (f : A → B) (xs : List A) → length (map f xs) ≡ length xs
length-map f [] = refl
length-map f (x ∷ xs) = ap suc (length-map f xs)

-- ---- one step from a type to what it renames

-- a type renames none, or the one that it holds, of which no values are written
abbrev IsStep : ℕ → ℕ → List ℕ → Base → Type 0
IsStep k next held base = (next ≡ k) ⊎ ((held ≡ next ∷ []) × (base ≡ Nothing))

form_step : (k : ℕ) (f : NamedDataType-F NamedDataType) → IsStep k (renamed_by_data k f) (held_in_layer (map-NamedDataType NamedDataType (List ℕ) held_in f)) (base_by_form f)
form_step k (NamedDataType-F.Named (t.Defined j)) = inr (refl, refl)
form_step k (NamedDataType-F.Named (t.Entity e)) = inl refl
form_step k (NamedDataType-F.Simple simple) = inl refl
form_step k (NamedDataType-F.Array bounds optional unique element) = inl refl
form_step k (NamedDataType-F.List bounds unique element) = inl refl
form_step k (NamedDataType-F.Bag bounds element) = inl refl
form_step k (NamedDataType-F.Set bounds element) = inl refl
form_step k (NamedDataType-F.Aggregate element) = inl refl
form_step k NamedDataType-F.Generic = inl refl

held_out : (d : NamedDataType) → held_in d ≡ held_in_layer (map-NamedDataType NamedDataType (List ℕ) held_in (out-NamedDataType d))
unfolding held_in
held_out d = fold_out-NamedDataType (List ℕ) held_in_layer d

data_step : (k : ℕ) (d : NamedDataType) → IsStep k (renamed_by_data k (out-NamedDataType d)) (held_in d) (base_by_form (out-NamedDataType d))
data_step k d = rw (held_out d) (form_step k (out-NamedDataType d))

declared_step : (k : ℕ) (x : NamedUnderlying) → IsStep k (renamed_by k x) (held_by x) (base_by k x)
declared_step k (u.Enumeration items) = inl refl
declared_step k (u.Select members) = inl refl
declared_step k (u.Data d) = data_step k d

number_step : (k : ℕ) (o : Option NamedType)
    → IsStep k (option_map_or (λ x. renamed_by k x.underlying) o k) (option_map_or (λ x. held_by x.underlying) o []) (option_map_or (λ x. base_by k x.underlying) o Nothing)
number_step k None = inl refl
number_step k (Some x) = declared_step k x.underlying

module _ (types : List NamedType) where
  renamed_is : (k : ℕ) → renamed types k ≡ option_map_or (λ x. renamed_by k x.underlying) (slice_get types k) k
  renamed_is k = at_or (λ x. renamed_by k x.underlying) types k k

  holds : (k : ℕ) → supertypes (held_types types) k ≡ option_map_or (λ x. held_by x.underlying) (slice_get types k) []
  unfolding held_types
  holds k = at_or (λ x. held_by x.underlying) types k []

  step : (k : ℕ) → IsStep k (renamed types k) (supertypes (held_types types) k) (base_at types k)
  step k =
      let P : ℕ → List ℕ → Type 0 = λ next held. IsStep k next held (base_at types k) in
      subst (λ next. P next (supertypes (held_types types) k)) (sym (renamed_is k)) (subst (P (option_map_or (λ x. renamed_by k x.underlying) (slice_get types k) k)) (sym (holds k)) (number_step k (slice_get types k)))

  -- ---- the end

  -- a type that renames none stays
  stays : (n k : ℕ) → renamed types k ≡ k → renamed_times n types k ≡ k
  stays zero k is = refl
  stays (suc n) k is = ap (renamed types) (stays n k is) ∙ is

  turned : (n k : ℕ) → renamed_times n types (renamed types k) ≡ renamed types (renamed_times n types k)
  turned zero k = refl
  turned (suc n) k = ap (renamed types) (turned n k)

  abbrev IsEnd : ℕ → ℕ → Type 0
  IsEnd n k = renamed types (renamed_times n types k) ≡ renamed_times n types k

  first_there : (a b : Option (List ℕ)) (l : List ℕ) → joined a b ≡ Some l → (m : List ℕ) × (a ≡ Some m)
  first_there None b l e = cc
  first_there (Some m) b l e = (m, refl)

  line_above : (n k j : ℕ) (l : List ℕ) → supertypes (held_types types) k ≡ j ∷ [] → line_within (suc n) (held_types types) k ≡ Some l → (m : List ℕ) × (line_within n (held_types types) j ≡ Some m)
  line_above n k j l is e =
      let above = first_there (joined_at (line_within n (held_types types)) (supertypes (held_types types) k)) (Some (k ∷ [])) l e in
      let first = first_there (line_within n (held_types types) j) (Some []) above.0 (ap (joined_at (line_within n (held_types types))) (sym is) ∙ above.1) in
      (first.0, first.1)

  -- as far as a line goes, renaming ends
  abbrev Ends : ℕ → Type 0
  Ends n = (k : ℕ) (l : List ℕ) → line_within (suc n) (held_types types) k ≡ Some l → IsEnd n k

  last : (k : ℕ) (l : List ℕ) → line_within 1 (held_types types) k ≡ Some l → IsStep k (renamed types k) (supertypes (held_types types) k) (base_at types k) → IsEnd zero k
  last k l e (inl is) = is
  last k l e (inr there) = let above = line_above zero k (renamed types k) l there.0 e in let no = above.1 in cc

  further : (n : ℕ) → Ends n → (k : ℕ) (l : List ℕ) → line_within (suc (suc n)) (held_types types) k ≡ Some l
      → IsStep k (renamed types k) (supertypes (held_types types) k) (base_at types k) → IsEnd (suc n) k
  further n ended k l e (inl is) = ap (renamed types) (stays (suc n) k is) ∙ is ∙ sym (stays (suc n) k is)
  further n ended k l e (inr there) =
      let above = line_above (suc n) k (renamed types k) l there.0 e in
      let next = ended (renamed types k) above.0 above.1 in
      ap (renamed types) (sym (turned n k)) ∙ next ∙ turned n k

  ends : (n : ℕ) → Ends n
  ends zero k l e = last k l e (step k)
  ends (suc n) k l e = further n (ends n) k l e (step k)

  length-held : length (held_types types) ≡ length types
  unfolding held_types
  length-held = length-map (λ x. held_by x.underlying) types

  -- ---- what stands behind a name

  base-beneath : (x : Target) → (beneath x).base ≡ x.base
  base-beneath x = by_base x.base refl
    where
      by_base : (base : Base) → x.base ≡ base → (beneath x).base ≡ x.base
      by_base (Select number) is = rw is refl
      by_base (Plain simple) is = rw is refl
      by_base Instance is = rw is refl
      by_base (Aggregate kind low element) is = rw is refl
      by_base (Enumeration number) is = rw is refl
      by_base Nothing is = rw is refl

  -- a type whose name may stand before a value is what is behind the name
  abbrev pub IsTarget : Target → Type 0
  IsTarget x = (k : ℕ) → x.name ≡ Some k → x.base ≡ base_of types k

  form_is : (f : NamedDataType-F NamedDataType) → IsTarget (target_by types f)
  form_is (NamedDataType-F.Named (t.Defined j)) k e = let same : j ≡ k = cc in ap (base_of types) same
  form_is (NamedDataType-F.Named (t.Entity entity)) k e = cc
  form_is (NamedDataType-F.Simple simple) k e = cc
  form_is (NamedDataType-F.Array bounds optional unique element) k e = cc
  form_is (NamedDataType-F.List bounds unique element) k e = cc
  form_is (NamedDataType-F.Bag bounds element) k e = cc
  form_is (NamedDataType-F.Set bounds element) k e = cc
  form_is (NamedDataType-F.Aggregate element) k e = cc
  form_is NamedDataType-F.Generic k e = cc

  pub target_is : (d : NamedDataType) → IsTarget (target types d)
  unfolding target
  target_is d = form_is (out-NamedDataType d)

  beneath_is : (x : Target) → IsTarget x → IsTarget (beneath x)
  beneath_is x is = by_base x.base refl
    where
      by_base : (base : Base) → x.base ≡ base → IsTarget (beneath x)
      by_base (Select number) same k e = let no : None ≡ Some k = ap (λ (b : Base). (beneath (record { name = x.name; base = b })).name) (sym same) ∙ e in cc
      by_base (Plain simple) same k e = base-beneath x ∙ is k (ap (λ (b : Base). (beneath (record { name = x.name; base = b })).name) (sym same) ∙ e)
      by_base Instance same k e = base-beneath x ∙ is k (ap (λ (b : Base). (beneath (record { name = x.name; base = b })).name) (sym same) ∙ e)
      by_base (Aggregate kind low element) same k e = base-beneath x ∙ is k (ap (λ (b : Base). (beneath (record { name = x.name; base = b })).name) (sym same) ∙ e)
      by_base (Enumeration number) same k e = base-beneath x ∙ is k (ap (λ (b : Base). (beneath (record { name = x.name; base = b })).name) (sym same) ∙ e)
      by_base Nothing same k e = base-beneath x ∙ is k (ap (λ (b : Base). (beneath (record { name = x.name; base = b })).name) (sym same) ∙ e)

  declared_is : (k : ℕ) (x : NamedUnderlying) → IsTarget (inside_by types k x)
  declared_is k (u.Data d) j e = beneath_is (target types d) (target_is d) j e
  declared_is k (u.Enumeration items) j e = cc
  declared_is k (u.Select members) j e = cc

  inside_of : (k : ℕ) (o : Option NamedType) → IsTarget (option_map_or (λ x. inside_by types k x.underlying) o (record { name = None; base = Nothing }))
  inside_of k None j e = cc
  inside_of k (Some x) j e = declared_is k x.underlying j e

  pub inside_is : (k : ℕ) → IsTarget (inside types k)
  unfolding inside
  inside_is k = inside_of k (slice_get types k)

  module _ (held : IsAcyclic (held_types types)) where
    ended : (k : ℕ) → renamed types (end types k) ≡ end types k
    unfolding end
    ended k = ends (length types) k (line_of (held_types types) k) (ap (λ n. line_within (suc n) (held_types types) k) (sym length-held) ∙ line_is (held_types types) held k)

    -- a type has the end of the one that it renames
    end_again : (k : ℕ) → end types (renamed types k) ≡ end types k
    unfolding end
    end_again k = turned (length types) k ∙ ended k

    own_end : (k : ℕ) → renamed types k ≡ k → end types k ≡ k
    unfolding end
    own_end k is = stays (length types) k is

    own_base : (k : ℕ) → renamed types k ≡ k → base_of types k ≡ base_at types k
    own_base k is = ap (base_at types) (own_end k is)

    abbrev BaseIs : ℕ → Option NamedType → Type 0
    BaseIs k o = (option_map_or (λ x. inside_by types k x.underlying) o (record { name = None; base = Nothing })).base ≡ base_of types k

    form_base : (k : ℕ) (f : NamedDataType-F NamedDataType) → renamed types k ≡ renamed_by_data k f → base_at types k ≡ base_by_form f → (target_by types f).base ≡ base_of types k
    form_base k (NamedDataType-F.Named (t.Defined j)) next at = ap (base_at types) (ap (end types) (sym next) ∙ end_again k)
    form_base k (NamedDataType-F.Named (t.Entity entity)) next at = sym (own_base k next ∙ at)
    form_base k (NamedDataType-F.Simple simple) next at = sym (own_base k next ∙ at)
    form_base k (NamedDataType-F.Array bounds optional unique element) next at = sym (own_base k next ∙ at)
    form_base k (NamedDataType-F.List bounds unique element) next at = sym (own_base k next ∙ at)
    form_base k (NamedDataType-F.Bag bounds element) next at = sym (own_base k next ∙ at)
    form_base k (NamedDataType-F.Set bounds element) next at = sym (own_base k next ∙ at)
    form_base k (NamedDataType-F.Aggregate element) next at = sym (own_base k next ∙ at)
    form_base k NamedDataType-F.Generic next at = sym (own_base k next ∙ at)

    target_base : (k : ℕ) (d : NamedDataType) → renamed types k ≡ renamed_by_data k (out-NamedDataType d) → base_at types k ≡ base_by_form (out-NamedDataType d) → (target types d).base ≡ base_of types k
    unfolding target
    target_base k d next at = form_base k (out-NamedDataType d) next at

    declared_base : (k : ℕ) (x : NamedUnderlying) → renamed types k ≡ renamed_by k x → base_at types k ≡ base_by k x → (inside_by types k x).base ≡ base_of types k
    declared_base k (u.Enumeration items) next at = sym (own_base k next ∙ at)
    declared_base k (u.Select members) next at = sym (own_base k next ∙ at)
    declared_base k (u.Data d) next at = base-beneath (target types d) ∙ target_base k d next at

    number_base : (k : ℕ) (o : Option NamedType) → slice_get types k ≡ o → BaseIs k o
    number_base k None is = sym (own_base k (renamed_is k ∙ rw is refl) ∙ rw is refl)
    number_base k (Some x) is = declared_base k x.underlying (renamed_is k ∙ rw is refl) (rw is refl)

    pub inside-base : (k : ℕ) → (inside types k).base ≡ base_of types k
    unfolding inside
    inside-base k = number_base k (slice_get types k) refl

    pub none_there : (k : ℕ) → slice_get types k ≡ None → base_of types k ≡ Nothing
    none_there k is = own_base k (renamed_is k ∙ rw is refl) ∙ rw is refl

  -- ---- SELECTs

  by_test : (b : Bool) (low : ℕ) (element : NamedDataType) → is_select (if b then Aggregate aggregate.Array (pos low) element else Nothing) ≡ false
  by_test true low element = refl
  by_test false low element = refl

  underlying_select : (k : ℕ) (x : NamedUnderlying) → is_listed x ≡ false → is_select (base_by k x) ≡ false
  underlying_select k (u.Enumeration items) none = refl
  underlying_select k (u.Select members) none = cc
  underlying_select k (u.Data d) none = form_select (out-NamedDataType d)
    where
      form_select : (f : NamedDataType-F NamedDataType) → is_select (base_by_form f) ≡ false
      form_select (NamedDataType-F.Named (t.Defined j)) = refl
      form_select (NamedDataType-F.Named (t.Entity entity)) = refl
      form_select (NamedDataType-F.Simple simple) = refl
      form_select (NamedDataType-F.Array bounds optional unique element) = by_test (nat_lt bounds.low (2 ^ 63)) bounds.low element
      form_select (NamedDataType-F.List bounds unique element) = refl
      form_select (NamedDataType-F.Bag bounds element) = refl
      form_select (NamedDataType-F.Set bounds element) = refl
      form_select (NamedDataType-F.Aggregate element) = refl
      form_select NamedDataType-F.Generic = refl

  number_select : (k : ℕ) (o : Option NamedType) → option_map_or (λ x. is_listed x.underlying) o false ≡ false → is_select (option_map_or (λ x. base_by k x.underlying) o Nothing) ≡ false
  number_select k None none = refl
  number_select k (Some x) none = underlying_select k x.underlying none

  pub no_select : (k : ℕ) → selects.is_select types k ≡ false → is_select (base_of types k) ≡ false
  unfolding end
  no_select k none = number_select (end types k) (slice_get types (end types k)) (sym (at_or (λ x. is_listed x.underlying) types (end types k) false) ∙ none)
