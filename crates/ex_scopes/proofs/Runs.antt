-- Rows of names in the order of a number that each has: those of one name.
use Rattle.std.proofs.Common.{◌≡◌, ℕ, ◌<◌, Bool, true, List, [], length, arith, rules}
use Rattle.std.specs.Prelude.{IsTrue, filter}
use Rattle.std.specs.List.Sorted.{IsNonDecreasingBy, IsSortedByKey}
use Rattle.std.specs.Ordering.{nat_cmp, is_lt}
use Rattle.std.specs.Str.{bytes_eq}
use Rattle.std.proofs.lemmas.List.{get_or-map, length-map}
use Rattle.std.proofs.lemmas.List.Kept.{IsSortedBy-filter}
use Rattle.std.proofs.lemmas.List.MinMax.{ranks_by}
use Rattle.std.proofs.lemmas.List.Sorted.{IsNonDecreasingBy-from_sort}
use Rattle.std.proofs.lemmas.Cmp.{nat_cmp_total}
use Rattle.name_tables.specs.Names.{named}
use Rattle.ex_scopes.specs.Attributes.{AscendIf}

module _ {X : Type 0} (n : X → ℕ) where
  -- what stands beside one name rises where all does
  named_rise : (name : List ℕ) (rows : List (List ℕ × X)) → IsSortedByKey (λ r. n r.1) nat_cmp rows → IsNonDecreasingBy n (named name rows)
  named_rise name rows order =
      let key = λ (r : List ℕ × X). n r.1 in
      let own = filter (λ (r : List ℕ × X). bytes_eq r.0 name) rows in
      let value = λ (r : List ℕ × X). r.1 in
      let kept = IsSortedBy-filter (λ x y. is_lt (nat_cmp (key x) (key y))) (ranks_by nat_cmp_total key) (λ r. bytes_eq r.0 name) rows order in
      let rising = IsNonDecreasingBy-from_sort key own kept in
      λ i j d le within.
      let inside : j < length own = omega (arith, length-map own value) in
      rw (get_or-map value own i ([], d) d (omega arith), get_or-map value own j ([], d) d inside) (rising i j ([], d) le inside)

-- where it is said that rows ascend, those of one name do
pub if_said : {A : Type 0} (number : A → ℕ) (is_said : Bool) (last : ℕ) (rows : List (List ℕ × A)) (name : List ℕ) → AscendIf number is_said last rows → IsTrue is_said → IsNonDecreasingBy number (named name rows)
if_said number is_said last rows name ascend said = named_rise number name rows (ascend said).0

pub said_to_rise : {A : Type 0} (number : A → ℕ) (is_said : Bool) (last : ℕ) (rows : List (List ℕ × A)) (name : List ℕ) → AscendIf number is_said last rows → is_said ≡ true → IsNonDecreasingBy number (named name rows)
said_to_rise number is_said last rows name ascend said = if_said number is_said last rows name ascend (search (rules, said))
