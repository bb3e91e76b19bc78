-- What a search by halving finds among names in order.
use Rattle.std.proofs.Common.{◌≡◌, ℕ, ◌+◌, ◌<◌, List, length, get_or, Some, None, Result, Ok, Err, MatchResult, Bor, sym, ◌∙◌, ap, subst, arith}
use Rattle.std.specs.Cmp.{IsTotalOrder}
use Rattle.std.specs.Cmp.Lexicographic.{on_texts}
use Rattle.std.specs.List.Sorted.{IsStrictlySortedBy, IsSortedBy, IsNonDecreasingBy, IsSearchInRange, IsBinarySearchResult}
use Rattle.std.specs.Map.{lookup, keys_of}
use Rattle.std.specs.declared.cmp.Ordering.TheVariants.{Less, Equal, Greater}
use Rattle.std.specs.Ordering.{is_lt, is_eq, ordering_index, ordering_reverse}
use Rattle.std.proofs.lemmas.Cmp.{eq_by_cmp_equiv}
use Rattle.std.proofs.lemmas.List.{get_or-map, length-map}
use Rattle.std.proofs.lemmas.List.Sorted.{searchable_from_sorted}
use Rattle.std.proofs.lemmas.Map.Entries.{lookup_from_place, lookup_at_gap}
use Rattle.std.proofs.lemmas.Map.Keys.{Less-from_sorted, IsDistinct-from_sorted}
use Rattle.std.proofs.lemmas.Map.Text.{is_eq-slice_cmp}
use Rattle.std.proofs.lemmas.Option.{slice_get-get_or, get_or_from_slice_get, slice_get_within}
use Rattle.std.proofs.lemmas.Slice.Eq.{bytes_eq-Decides}
use Rattle.name_tables.specs.Names.{by_lent_bytes, is_name}

name_order : IsTotalOrder by_lent_bytes
name_order = on_texts (λ n. n.now)

-- names in one order either way round
flipped : (a b : Bor (List ℕ)) → by_lent_bytes a b ≡ Less → by_lent_bytes b a ≡ Greater
flipped a b below = name_order.antisymm b a ∙ ap ordering_reverse below

flipped_back : (a b : Bor (List ℕ)) → by_lent_bytes a b ≡ Greater → by_lent_bytes b a ≡ Less
flipped_back a b above = name_order.antisymm b a ∙ ap ordering_reverse above

module _ (es : List (Bor (List ℕ) × ℕ)) (ordered : IsStrictlySortedBy by_lent_bytes (keys_of es)) (name : Bor (List ℕ)) where
  rises : IsSortedBy (λ a b. is_lt (by_lent_bytes a.0 b.0)) es
  rises k d _ within =
      let key = λ (e : Bor (List ℕ) × ℕ). e.0 in
      let below = Less-from_sorted by_lent_bytes (keys_of es) k (k + 1) d.0 ordered (omega arith) (omega (arith, length-map es key)) in
      ap is_lt (flipped (get_or es k d).0 (get_or es (k + 1) d).0 (rw (get_or-map key es k d d.0 (omega arith), get_or-map key es (k + 1) d d.0 within) at below))

  comparisons_rise : IsNonDecreasingBy (λ e. ordering_index (by_lent_bytes e.0 name)) es
  comparisons_rise = searchable_from_sorted name_order (λ e. e.0) es name rises

  found : (at : ℕ) (d : Bor (List ℕ) × ℕ) → at < length es → by_lent_bytes (get_or es at d).0 name ≡ Equal → lookup (is_name name.now) es ≡ Some (get_or es at d).1
  found at d within equal =
      let same = (bytes_eq-Decides (get_or es at d).0.now name.now).0 (sym (is_eq-slice_cmp (get_or es at d).0.now name.now) ∙ ap is_eq equal) in
      let stands = lookup_from_place (eq_by_cmp_equiv name_order) es at (get_or es at d).0 (get_or es at d).1 (IsDistinct-from_sorted by_lent_bytes (keys_of es) ordered) (slice_get-get_or es at d within) in
      subst (λ bytes. lookup (is_name bytes) es ≡ Some (get_or es at d).1) same stands

  pub halved : (d : Bor (List ℕ) × ℕ) (r : Result ℕ ℕ) → IsSearchInRange r (length es) → IsBinarySearchResult (λ e. by_lent_bytes e.0 name) es r → MatchResult r (λ at. lookup (is_name name.now) es ≡ Some (get_or es at d).1) (λ _. lookup (is_name name.now) es ≡ None)
  halved d (Ok at) within equal = found at d within (equal d)
  halved d (Err at) within parted =
      let split = parted comparisons_rise in
      lookup_at_gap name_order name es at ordered
      (λ j e before is. flipped e.0 name (rw (get_or_from_slice_get es j e e is) at (split.0 j e (omega arith) before)))
      (λ e is. flipped_back e.0 name (rw (get_or_from_slice_get es at e e is) at (split.1 at e (omega arith) (slice_get_within es at e is))))
