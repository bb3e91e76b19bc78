-- The attributes of a name by where they stand, and those of one entity among them, found by halving.
use Rattle.std.proofs.Common.{◌≡◌, ℕ, suc, ◌<◌, ◌==◌, Bool, true, false, List, [], ◌∷◌, ◌++◌, map, length, if◌then◌else◌, refl, sym, ◌∙◌, ap, arith}
use Rattle.std.specs.Prelude.{filter}
use Rattle.std.specs.BTreeMap.{BTreeMap}
use Rattle.std.specs.Global.{Vec}
use Rattle.std.specs.List.{flat_map}
use Rattle.std.specs.List.Sorted.{IsNonDecreasingBy, IsStrictlyIncreasing}
use Rattle.std.specs.Option.{option_map_or}
use Rattle.std.specs.Str.{bytes_eq}
use Rattle.std.proofs.lemmas.Bool.Decides.{nat_tests}
use Rattle.std.proofs.lemmas.List.{get_or-map, length-map}
use Rattle.std.proofs.lemmas.List.Kept.{IsNonDecreasingBy-filter}
use Rattle.plain_data.specs.Numbers.{is_among}
use Rattle.ancestors.proofs.InTurn.{of_members}
use Rattle.ex_attributes.specs.declared.attribute.Attribute.{Attribute}
use Rattle.ex_attributes.specs.Attributes.{named}
use Rattle.ex_attributes.specs.Tables.{rows_at, places_at, places_from, HasNames, declarer_at}
use Rattle.ex_attributes.proofs.Places.{stands, moved, longer, rows_from}

-- ---- numbers along a list

mapped : {X : Type 0} (n : X → ℕ) (xs : List X) → IsNonDecreasingBy n xs → IsNonDecreasingBy (λ k. k) (map n xs)
mapped n [] rise = λ i j d le within. absurd (omega (arith, within))
mapped n (x ∷ xs) rise = λ i j d le within.
    let inside : j < length (x ∷ xs) = omega (arith, within, length-map (x ∷ xs) n) in
    rw (get_or-map n (x ∷ xs) i x d (omega (arith, le, inside)), get_or-map n (x ∷ xs) j x d inside) (rise i j x le inside)

unmapped : (g : ℕ → ℕ) (ps : List ℕ) → IsNonDecreasingBy (λ k. k) (map g ps) → IsNonDecreasingBy g ps
unmapped g ps rise = λ i j d le within.
    let up = rise i j d le (omega (arith, within, length-map ps g)) in
    rw (get_or-map g ps i d d (omega (arith, le, within)), get_or-map g ps j d d within) at up

-- ---- the attributes of a name

module _ (name : List ℕ) where
  declarers_from : (before xs : List Attribute) → map (declarer_at (before ++ xs)) (places_from name (length before) (map (λ a. a.name) xs)) ≡ map (λ a. a.place.entity) (filter (λ a. bytes_eq a.name name) xs)
  declarers_from before [] = refl
  declarers_from before (x ∷ xs) = by (bytes_eq x.name name)
      (ap (λ l. map (declarer_at l) (places_from name (suc (length before)) (map (λ a. a.name) xs))) (sym (moved (λ a. a.name) name before x xs))
      ∙ ap (λ n. map (declarer_at ((before ++ x ∷ []) ++ xs)) (places_from name n (map (λ a. a.name) xs))) (sym (longer (λ a. a.name) name before x))
      ∙ declarers_from (before ++ x ∷ []) xs)
    where
      by : (b : Bool) → map (declarer_at (before ++ x ∷ xs)) (places_from name (suc (length before)) (map (λ a. a.name) xs)) ≡ map (λ a. a.place.entity) (filter (λ a. bytes_eq a.name name) xs)
          → map (declarer_at (before ++ x ∷ xs)) (if b then length before ∷ places_from name (suc (length before)) (map (λ a. a.name) xs) else places_from name (suc (length before)) (map (λ a. a.name) xs))
          ≡ map (λ a. a.place.entity) (if b then x ∷ filter (λ a. bytes_eq a.name name) xs else filter (λ a. bytes_eq a.name name) xs)
      by true later = ap (λ o. option_map_or (λ (a : Attribute). a.place.entity) o 0 ∷ map (declarer_at (before ++ x ∷ xs)) (places_from name (suc (length before)) (map (λ a. a.name) xs))) (stands (λ a. a.name) name before x xs) ∙ ap (λ l. x.place.entity ∷ l) later
      by false later = later

module _ (rows : List Attribute) (table : BTreeMap (Vec ℕ) (Vec ℕ)) (name : List ℕ) (has : HasNames rows table) where
  pub named_rows : rows_at rows (places_at name table) ≡ named name rows
  named_rows = ap (rows_at rows) (has name) ∙ rows_from (λ a. a.name) name [] rows

  pub places_rise : IsNonDecreasingBy (λ (a : Attribute). a.place.entity) rows → IsNonDecreasingBy (declarer_at rows) (places_at name table)
  places_rise rise =
      let kept = mapped (λ (a : Attribute). a.place.entity) (named name rows) (IsNonDecreasingBy-filter (λ (a : Attribute). a.place.entity) (λ a. bytes_eq a.name name) rows rise) in
      rw (has name) (unmapped (declarer_at rows) (places_from name 0 (map (λ a. a.name) rows)) (rw (declarers_from name [] rows) kept))

  one_member : (e : ℕ) (places : List ℕ) → rows_at rows (filter (λ p. e == declarer_at rows p) places) ≡ filter (λ a. e == a.place.entity) (rows_at rows places)
  one_member e [] = refl
  one_member e (p ∷ places) = grind (arith, nat_tests, one_member e places)

  each_member : (places members : List ℕ) → flat_map (λ e. rows_at rows (filter (λ p. e == declarer_at rows p) places)) members ≡ flat_map (λ e. filter (λ a. e == a.place.entity) (rows_at rows places)) members
  each_member places [] = refl
  each_member places (e ∷ members) =
      ap (λ l. l ++ flat_map (λ e. rows_at rows (filter (λ p. e == declarer_at rows p) places)) members) (one_member e places)
      ∙ ap (λ l. filter (λ a. e == a.place.entity) (rows_at rows places) ++ l) (each_member places members)

  -- where members and rows ascend, the rows of the members are those of the family
  pub of_each_member : (members fam : List ℕ) → members ≡ fam → IsStrictlyIncreasing members → IsNonDecreasingBy (λ (a : Attribute). a.place.entity) rows
      → flat_map (λ e. rows_at rows (filter (λ p. e == declarer_at rows p) (places_at name table))) members ≡ filter (λ a. is_among fam a.place.entity) (named name rows)
  of_each_member members fam same ascend rise =
      each_member (places_at name table) members
      ∙ ap (λ l. flat_map (λ e. filter (λ a. e == a.place.entity) l) members) named_rows
      ∙ of_members (λ (a : Attribute). a.place.entity) members fam (named name rows) same ascend (IsNonDecreasingBy-filter (λ (a : Attribute). a.place.entity) (λ a. bytes_eq a.name name) rows rise)
