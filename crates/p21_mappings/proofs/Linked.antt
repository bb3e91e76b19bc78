-- The names that references may have: those of a file, and those that are linked.
use Rattle.std.proofs.Common.{◌≡◌, ℕ, Bool, ◌||◌, ◌==◌, List, ◌++◌, sym, ◌∙◌}
use Rattle.std.proofs.lemmas.List.Folds.{list_any-append}
use Rattle.std.proofs.lemmas.List.Sorted.{list_any-IsPermutation}
use Rattle.std.specs.List.Sorted.{IsPermutation}
use Rattle.plain_data.specs.Numbers.{is_among}

-- in any order they are the same
pub same_names : (xs ys ls ms : List ℕ) → IsPermutation xs ys → IsPermutation ls ms → (n : ℕ) → is_among (xs ++ ls) n ≡ is_among (ys ++ ms) n
same_names xs ys ls ms file linked n =
    let is : ℕ → Bool = λ m. m == n in
    list_any-append is xs ls
    ∙ (λ i. list_any-IsPermutation is xs ys file i || list_any-IsPermutation is ls ms linked i)
    ∙ sym (list_any-append is ys ms)
