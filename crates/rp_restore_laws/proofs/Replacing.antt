-- A row of a table that is put in the place of the row of its key.
use Rattle.std.proofs.Common.{◌≡◌, Bool, true, false, List, [], ◌∷◌, ◌++◌, Option, Some, None, refl, ◌∙◌, ap, append-nil}
use Rattle.std.specs.Prelude.{filter, option_to_list}
use Rattle.std.specs.List.{find}
use Rattle.std.specs.Option.{option_or}
use Rattle.std.specs.declared.cmp.Ordering.{Ordering}
use Rattle.std.specs.Ordering.{is_lt, is_eq, is_gt}
use Rattle.std.specs.Cmp.{IsTotalOrder}
use Rattle.std.proofs.lemmas.Cmp.{tied_itself}
use Rattle.std.proofs.lemmas.List.Elements.{filter-append}
use Rattle.std.proofs.lemmas.List.Folds.{find-append}
use Rattle.sorted_tables.specs.Table.{is_at, is_before, is_after, with_row}
use Rattle.sorted_tables.proofs.Ascending.{is_gt-true, filter_all}
use Rattle.rp_restore_laws.proofs.Behind.{is_lt-true, all_stay, none_stay, each, put, not_there}

-- three parts of a list by a test
of_three : {X : Type 0} (p : X → Bool) (xs ys zs us vs ws : List X) → filter p xs ≡ us → filter p ys ≡ vs → filter p zs ≡ ws → filter p (xs ++ ys ++ zs) ≡ us ++ vs ++ ws
of_three p xs ys zs us vs ws a b c =
    filter-append p (xs ++ ys) zs ∙ ap (λ ts. ts ++ filter p zs) (filter-append p xs ys) ∙ (λ i. a i ++ b i ++ c i)

module _ {K X : Type 0} (cmp : K → K → Ordering) (key : X → K) (total : IsTotalOrder cmp) where
  -- what was put is found
  pub found_put : (x : X) (xs : List X) → find (is_at cmp key (key x)) (put cmp key x xs) ≡ Some x
  found_put x xs =
      let k = key x in
      let before = filter (is_before cmp key k) xs in
      let after = filter (is_after cmp key k) xs in
      let none : find (is_at cmp key k) before ≡ None = not_there cmp key k before (filter_all cmp key total (is_before cmp key k) xs) in
      let here : find (is_at cmp key k) (x ∷ []) ≡ Some x = rw (ap is_eq (tied_itself total k)) refl in
      find-append (is_at cmp key k) (before ++ (x ∷ [])) after
      ∙ ap (λ o. option_or o (find (is_at cmp key k) after)) (find-append (is_at cmp key k) before (x ∷ []) ∙ (λ i. option_or (none i) (here i)))

  -- another row in its place leaves nothing of it
  pub put_again : (o : Option X) (x : X) (xs : List X) → with_row cmp key (key x) o (put cmp key x xs) ≡ with_row cmp key (key x) o xs
  put_again o x xs =
      let k = key x in
      let before = filter (is_before cmp key k) xs in
      let after = filter (is_after cmp key k) xs in
      let are_before = filter_all cmp key total (is_before cmp key k) xs in
      let are_after = filter_all cmp key total (is_after cmp key k) xs in
      let tied = tied_itself total k in
      let no_before : filter (is_before cmp key k) (x ∷ []) ≡ [] = rw (ap is_lt tied) refl in
      let no_after : filter (is_after cmp key k) (x ∷ []) ≡ [] = rw (ap is_gt tied) refl in
      let not_before = each (λ y. is_after cmp key k y ≡ true) (λ y. is_before cmp key k y ≡ false) (λ y past. ap is_lt (is_gt-true (cmp (key y) k) past)) after are_after in
      let not_after = each (λ y. is_before cmp key k y ≡ true) (λ y. is_after cmp key k y ≡ false) (λ y less. ap is_gt (is_lt-true (cmp (key y) k) less)) before are_before in
      let firsts : filter (is_before cmp key k) (put cmp key x xs) ≡ before =
      of_three (is_before cmp key k) before (x ∷ []) after before [] [] (all_stay (is_before cmp key k) before are_before) no_before (none_stay (is_before cmp key k) after not_before)
      ∙ append-nil (before ++ []) ∙ append-nil before in
      let lasts : filter (is_after cmp key k) (put cmp key x xs) ≡ after =
      of_three (is_after cmp key k) before (x ∷ []) after [] [] after (none_stay (is_after cmp key k) before not_after) no_after (all_stay (is_after cmp key k) after are_after) in
      (λ i. firsts i ++ option_to_list o ++ lasts i)
