-- What is told of rows that were looked at, one after another.
use Rattle.std.proofs.Common.{◌≡◌, List, [], ◌∷◌, map, Option, Some, None, refl, sym, ◌∙◌, ap}
use Rattle.std.specs.Prelude.{Result, Ok, Err, IfOk}
use Rattle.std.specs.List.{find}
use Rattle.sorted_tables.specs.Table.{IsAscending}
use Rattle.rp_rows.specs.declared.rows.Key.{Key}
use Rattle.rp_rows.specs.Rows.{key_cmp, row_key, is_row, Model, GroupRow}
use Rattle.rp_rows.specs.declared.rows.ModelContent.{ModelContent}
use Rattle.rp_sight.specs.declared.rows.RowRef.{RowRef}
use Rattle.rp_sight.specs.Stored.{row_of}
use Rattle.rp_readers.specs.Listed.{counted_of}
use Rattle.rp_plain.specs.Readers.{as_counted, counted_in}
use Rattle.rp_plain.specs.Populations.{member, counts_among}
use Rattle.rp_sight.specs.Listed.{is_counting, member_in}
use Rattle.rp_readers.specs.Told.{member_told}
use Rattle.rp_readers.proofs.Counts.{counts_found, counts_chosen}

map_twice : {X Y Z : Type 0} (f : Y → Z) (g : X → Y) (xs : List X) → map (λ x. f (g x)) xs ≡ map f (map g xs)
map_twice f g [] = refl
map_twice f g (x ∷ xs) = ap (λ zs. f (g x) ∷ zs) (map_twice f g xs)

-- told of what they are
pub told_by : {X Y Z W : Type 0} (f : Y → Z) (g : X → Y) (h : W → Y) (xs : List X) (ws : List W) → map g xs ≡ map h ws → map (λ x. f (g x)) xs ≡ map (λ w. f (h w)) ws
told_by f g h xs ws same = map_twice f g xs ∙ ap (map f) same ∙ sym (map_twice f h ws)

same_map : {X Y : Type 0} (f g : X → Y) → ((x : X) → f x ≡ g x) → (xs : List X) → map f xs ≡ map g xs
same_map f g same [] = refl
same_map f g same (x ∷ xs) = λ i. same x i ∷ same_map f g same xs i

counting_is : (ms : List Model) (g : GroupRow) (k : Key) → IsAscending key_cmp row_key ms → is_counting g (find (is_row k) ms) ≡ counts_among (counted_in ms (Some g)) k
counting_is ms g k order = by (find (is_row k) ms) refl
  where
    by : (o : Option Model) → find (is_row k) ms ≡ o → is_counting g o ≡ counts_among (counted_in ms (Some g)) k
    by None e = counts_found k g ms None order (sym e)
    by (Some m) e = sym (counts_chosen g m) ∙ counts_found k g ms (Some m) order (sym e)

pub members_told : (ms : List Model) (g : GroupRow) (ks : List Key) → IsAscending key_cmp row_key ms → map (λ k. member_told (member_in ms g k)) ks ≡ map (member (counted_in ms (Some g))) ks
members_told ms g ks order = same_map (λ k. member_told (member_in ms g k)) (member (counted_in ms (Some g))) (λ k. ap (λ t. member_told (k, t)) (counting_is ms g k order)) ks

-- what holds of a result holds of it in other words
pub in_other_words : {A E : Type 0} (P Q : A → Type 0) → ((x : A) → P x → Q x) → (r : Result A E) → IfOk r P → IfOk r Q
in_other_words P Q says (Ok x) holds = says x holds
in_other_words P Q says (Err e) holds = tt

pub counted_told : (ms : List (RowRef ModelContent)) (xs : List Model) → map row_of ms ≡ xs → map counted_of ms ≡ map as_counted xs
counted_told ms xs same = map_twice as_counted row_of ms ∙ ap (map as_counted) same
