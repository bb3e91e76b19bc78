-- What a type is behind all names, where no type holds itself.
use Rattle.std.proofs.Common.{◌≡◌, ℕ, zero, suc, List, [], ◌∷◌, length, map, Option, Some, None, slice_get, get_or, ◌⊎◌, inl, inr, refl, sym, ◌∙◌, ap, subst}
use Rattle.std.specs.Option.{option_map_or}
use Rattle.ex_named.specs.declared.declaration.NamedType.{NamedType}
use Rattle.ex_named.specs.declared.declaration.NamedUnderlying.{NamedUnderlying}
use Rattle.ex_named.specs.declared.declaration.NamedUnderlying.TheVariants as u
use Rattle.ex_named.specs.declared.expression.NamedDataType.{NamedDataType, NamedDataType-F, out-NamedDataType}
use Rattle.ex_named.specs.declared.expression.NamedDataType.TheFolds.{fold_out-NamedDataType, map-NamedDataType}
use Rattle.ex_named.specs.declared.reference.TypeName.TheVariants as t
use Rattle.ex_resolve.specs.Proved.{held_by, held_in, held_in_layer, held_types}
use Rattle.ex_renamings.specs.Renamings.{end, renamed, renamed_by, renamed_by_data, renamed_times}
use Rattle.graphs.specs.Graphs.{IsAcyclic, line_within, joined, joined_at, supertypes}
use Rattle.graphs.proofs.Lines.{line_is, line_of}

pub at_or : {A B : Type 0} (f : A → B) (xs : List A) (k : ℕ) (d : B) → get_or (map f xs) k d ≡ option_map_or f (slice_get xs k) d
at_or f [] k d = refl
at_or f (x ∷ xs) zero d = refl
at_or f (x ∷ xs) (suc k) d = at_or f xs k d

pub length-map : {A B : Type 0} (f : A → B) (xs : List A) → length (map f xs) ≡ length xs
length-map f [] = refl
length-map f (x ∷ xs) = ap suc (length-map f xs)

pub first_there : (a b : Option (List ℕ)) (l : List ℕ) → joined a b ≡ Some l → (m : List ℕ) × (a ≡ Some m)
first_there None b l e = cc
first_there (Some m) b l e = (m, refl)

-- ---- one step from a type to what it renames

-- a type renames none, or the one that it holds
abbrev IsStep : ℕ → ℕ → List ℕ → Type 0
IsStep k next held = (next ≡ k) ⊎ (held ≡ next ∷ [])

form_step : (k : ℕ) (f : NamedDataType-F NamedDataType) → IsStep k (renamed_by_data k f) (held_in_layer (map-NamedDataType NamedDataType (List ℕ) held_in f))
form_step k (NamedDataType-F.Named (t.Defined j)) = inr refl
form_step k _ = inl refl

pub held_out : (d : NamedDataType) → held_in d ≡ held_in_layer (map-NamedDataType NamedDataType (List ℕ) held_in (out-NamedDataType d))
unfolding held_in
held_out d = fold_out-NamedDataType (List ℕ) held_in_layer d

declared_step : (k : ℕ) (x : NamedUnderlying) → IsStep k (renamed_by k x) (held_by x)
declared_step k (u.Enumeration items) = inl refl
declared_step k (u.Select members) = inl refl
declared_step k (u.Data d) = rw (held_out d) (form_step k (out-NamedDataType d))

number_step : (k : ℕ) (o : Option NamedType) → IsStep k (option_map_or (λ x. renamed_by k x.underlying) o k) (option_map_or (λ x. held_by x.underlying) o [])
number_step k None = inl refl
number_step k (Some x) = declared_step k x.underlying

module _ (types : List NamedType) where
  pub renamed_is : (k : ℕ) → renamed types k ≡ option_map_or (λ x. renamed_by k x.underlying) (slice_get types k) k
  renamed_is k = at_or (λ x. renamed_by k x.underlying) types k k

  pub holds : (k : ℕ) → supertypes (held_types types) k ≡ option_map_or (λ x. held_by x.underlying) (slice_get types k) []
  unfolding held_types
  holds k = at_or (λ x. held_by x.underlying) types k []

  step : (k : ℕ) → IsStep k (renamed types k) (supertypes (held_types types) k)
  step k =
      subst (λ next. IsStep k next (supertypes (held_types types) k)) (sym (renamed_is k))
      (subst (IsStep k (option_map_or (λ x. renamed_by k x.underlying) (slice_get types k) k)) (sym (holds k)) (number_step k (slice_get types k)))

  -- a type that renames none stays
  stays : (n k : ℕ) → renamed types k ≡ k → renamed_times n types k ≡ k
  stays zero k is = refl
  stays (suc n) k is = ap (renamed types) (stays n k is) ∙ is

  turned : (n k : ℕ) → renamed_times n types (renamed types k) ≡ renamed types (renamed_times n types k)
  turned zero k = refl
  turned (suc n) k = ap (renamed types) (turned n k)

  abbrev IsEnd : ℕ → ℕ → Type 0
  IsEnd n k = renamed types (renamed_times n types k) ≡ renamed_times n types k

  line_above : (n k j : ℕ) (l : List ℕ) → supertypes (held_types types) k ≡ j ∷ [] → line_within (suc n) (held_types types) k ≡ Some l → (m : List ℕ) × (line_within n (held_types types) j ≡ Some m)
  line_above n k j l is e =
      let above = first_there (joined_at (line_within n (held_types types)) (supertypes (held_types types) k)) (Some (k ∷ [])) l e in
      let first = first_there (line_within n (held_types types) j) (Some []) above.0 (ap (joined_at (line_within n (held_types types))) (sym is) ∙ above.1) in
      (first.0, first.1)

  -- as far as a line goes, renaming ends
  abbrev Ends : ℕ → Type 0
  Ends n = (k : ℕ) (l : List ℕ) → line_within (suc n) (held_types types) k ≡ Some l → IsEnd n k

  last : (k : ℕ) (l : List ℕ) → line_within 1 (held_types types) k ≡ Some l → IsStep k (renamed types k) (supertypes (held_types types) k) → IsEnd zero k
  last k l e (inl is) = is
  last k l e (inr there) = let above = line_above zero k (renamed types k) l there e in let no = above.1 in cc

  further : (n : ℕ) → Ends n → (k : ℕ) (l : List ℕ) → line_within (suc (suc n)) (held_types types) k ≡ Some l → IsStep k (renamed types k) (supertypes (held_types types) k) → IsEnd (suc n) k
  further n ended k l e (inl is) = ap (renamed types) (stays (suc n) k is) ∙ is ∙ sym (stays (suc n) k is)
  further n ended k l e (inr there) =
      let above = line_above (suc n) k (renamed types k) l there e in
      let next = ended (renamed types k) above.0 above.1 in
      ap (renamed types) (sym (turned n k)) ∙ next ∙ turned n k

  ends : (n : ℕ) → Ends n
  ends zero k l e = last k l e (step k)
  ends (suc n) k l e = further n (ends n) k l e (step k)

  length-held : length (held_types types) ≡ length types
  unfolding held_types
  length-held = length-map (λ x. held_by x.underlying) types

  pub own_end : (k : ℕ) → renamed types k ≡ k → end types k ≡ k
  unfolding end
  own_end k is = stays (length types) k is

  module _ (acyclic : IsAcyclic (held_types types)) where
    ended : (k : ℕ) → renamed types (end types k) ≡ end types k
    unfolding end
    ended k = ends (length types) k (line_of (held_types types) k) (ap (λ n. line_within (suc n) (held_types types) k) (sym length-held) ∙ line_is (held_types types) acyclic k)

    -- a type has the end of the one that it renames
    pub end_again : (k : ℕ) → end types (renamed types k) ≡ end types k
    unfolding end
    end_again k = turned (length types) k ∙ ended k
