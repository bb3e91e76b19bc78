-- What is found under a key, if it is seen.
use Rattle.std.proofs.Common.{◌≡◌, Bool, ◌&&◌, true, false, List, Option, Some, None, refl, sym, ◌∙◌, ap}
use Rattle.std.specs.Prelude.{if◌then◌else◌}
use Rattle.std.specs.List.{find}
use Rattle.sorted_tables.specs.Table.{IsAscending}
use Rattle.sorted_tables.proofs.Searching.{found_passing, chosen}
use Rattle.rp_rows.specs.declared.rows.Right.{Right}
use Rattle.rp_rows.specs.declared.rows.Right.TheVariants.{Unseen, Reads, Groups, Writes, Owns}
use Rattle.rp_rows.specs.declared.rows.Key.{Key}
use Rattle.rp_rows.specs.Rows.{Text, key_cmp, Row, row_key, is_row, Model, GroupRow}
use Rattle.rp_rows.specs.Sight.{at_least, level, sees}
use Rattle.rp_plain.specs.Readers.{right_at}
use Rattle.rp_rows.proofs.Keys.{key_total}

-- what was found at the key, which is seen or not
pub seen_found : {A : Type 0} (k : Key) (p : Row A → Bool) (rows : List (Row A)) (found : Option (Row A)) → IsAscending key_cmp row_key rows → found ≡ find (is_row k) rows → chosen p found ≡ find (λ x. is_row k x && p x) rows
seen_found k p rows found order is = ap (chosen p) is ∙ sym (found_passing key_cmp row_key key_total p k rows order)

pub chosen_seen : {X : Type 0} (p : X → Bool) (x : X) → p x ≡ true → chosen p (Some x) ≡ Some x
chosen_seen p x h = rw h refl

pub chosen_unseen : {X : Type 0} (p : X → Bool) (x : X) → p x ≡ false → chosen p (Some x) ≡ None
chosen_unseen p x h = rw h refl

-- a level that is less than Reads is none
too_low : (t : Right) → at_least Reads t ≡ false → Unseen ≡ t
too_low Unseen h = refl
too_low Reads h = cc
too_low Groups h = cc
too_low Writes h = cc
too_low Owns h = cc

-- the level on what is seen is the level on what is there
pub right_there : (gs : List GroupRow) (c : Text) (m : Model) → right_at gs c (chosen (sees gs c) (Some m)) ≡ level gs c m
right_there gs c m = by (sees gs c m) refl
  where
    by : (t : Bool) → sees gs c m ≡ t → right_at gs c (chosen (sees gs c) (Some m)) ≡ level gs c m
    by true e = rw e refl
    by false e = rw e (too_low (level gs c m) e)

-- what is found and chosen is what was found
chosen_found : {X : Type 0} (p : X → Bool) (x : X) (o : Option X) → chosen p o ≡ Some x → o ≡ Some x
chosen_found p x None e = cc
chosen_found p x (Some y) e = by (p y) e
  where
    by : (t : Bool) → (if t then Some y else None) ≡ Some x → Some y ≡ Some x
    by true f = f
    by false f = cc

-- what is seen at a key is what stands there
pub found_seen : {A : Type 0} (k : Key) (p : Row A → Bool) (rows : List (Row A)) (x : Row A) → IsAscending key_cmp row_key rows → find (λ y. is_row k y && p y) rows ≡ Some x → find (is_row k) rows ≡ Some x
found_seen k p rows x order seen = chosen_found p x (find (is_row k) rows) (seen_found k p rows (find (is_row k) rows) order refl ∙ seen)
