-- Links in the order of their names, and the names that they may not have.
use Rattle.std.proofs.Common.{◌≡◌, ◌≤◌, ◌<◌, ℕ, Bool, ◌||◌, ◌==◌, true, false, List, [], ◌∷◌, Some, refl, sym, subst, arith}
use Rattle.std.specs.List.{AllByRecursion, slice_get}
use Rattle.std.proofs.lemmas.Bool.Decides.{nat_tests}
use Rattle.plain_data.specs.Numbers.{is_among}
use Rattle.p21_instances.proofs.SortedBy.{Rises, rises_in_order}
use Rattle.rp_content.specs.declared.link.Link.{Link}
use Rattle.rp_rows.specs.declared.rows.Key.{Key}
use Rattle.rp_rows.specs.Rows.{Text}
use Rattle.rp_rows.specs.Contents.{link_name, link_names}
use Rattle.rp_plain.specs.Readers.{Readers}
use Rattle.rp_plain.specs.Links.{links_in_order, first_fault}
use Rattle.rp_file_plans.specs.Links.{AreInOrder}

from_rises : (ls : List Link) → Rises link_name ls → AreInOrder ls
from_rises [] up = tt
from_rises (l ∷ ls) up = (up.0, from_rises ls up.1)

pub ordered : (ls : List Link) → AreInOrder (links_in_order ls)
ordered ls = from_rises (links_in_order ls) (rises_in_order link_name ls)

-- a name below all others is none of them
none_below : (n : ℕ) (ls : List Link) → AllByRecursion (λ (m : Link). n < m.name) ls → is_among (link_names ls) n ≡ false
none_below n [] all = refl
none_below n (l ∷ ls) all =
    let apart : (l.name == n) ≡ false = (let less : n < l.name = all.0 in grind (arith, nat_tests)) in
    rw (apart, none_below n ls all.1) refl

all_above : (n : ℕ) (m : ℕ) (ls : List Link) → n < m → AllByRecursion (λ (l : Link). m ≤ l.name) ls → AllByRecursion (λ (l : Link). n < l.name) ls
all_above n m [] less all = tt
all_above n m (l ∷ ls) less all = (let least : m ≤ l.name = all.0 in omega arith, all_above n m ls less all.1)

-- a name stands among those behind it exactly if the next one has it
stands_next : (l m : Link) (ls : List Link) → AreInOrder (l ∷ m ∷ ls) → (m.name == l.name) ≡ is_among (link_names (m ∷ ls)) l.name
stands_next l m ls order = by (m.name == l.name) refl
  where
    by : (t : Bool) → (m.name == l.name) ≡ t → t ≡ (t || is_among (link_names ls) l.name)
    by true e = refl
    by false e =
        let least : l.name ≤ m.name = order.0.0 in
        let less : l.name < m.name = grind (arith, nat_tests) in
        sym (none_below l.name ls (all_above l.name m.name ls less order.1.0))

pub next_again : (l m : Link) (others : List Link) → AreInOrder (l ∷ others) → Some m ≡ slice_get others 0 → (m.name == l.name) ≡ is_among (link_names others) l.name
next_again l m [] order e = cc
next_again l m (k ∷ ks) order e =
    let same : k ≡ m = cc in
    subst (λ x. (x.name == l.name) ≡ is_among (link_names (k ∷ ks)) l.name) same (stands_next l k ks order)

-- which names the instances have is all that is asked of them
module _ (a : Readers) (k : Key) (schema : Text) (xs ys : List ℕ) (same : (n : ℕ) → is_among xs n ≡ is_among ys n) where
  pub same_faults : (ls : List Link) → first_fault a k schema xs ls ≡ first_fault a k schema ys ls
  same_faults [] = refl
  same_faults (l ∷ ls) = rw (same l.name, same_faults ls) refl
