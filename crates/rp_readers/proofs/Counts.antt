-- Which models count in a group, told by a look at its members alone.
use Rattle.std.proofs.Common.{◌≡◌, Bool, ◌&&◌, true, false, List, [], ◌∷◌, map, Option, Some, None, is_some, refl, sym, ◌∙◌, ap}
use Rattle.std.specs.Prelude.{filter, if◌then◌else◌}
use Rattle.std.specs.List.{find}
use Rattle.std.specs.Cmp.{tied_then}
use Rattle.std.proofs.lemmas.Map.Text.{is_eq-slice_cmp}
use Rattle.sorted_tables.specs.Table.{IsAscending}
use Rattle.sorted_tables.proofs.Searching.{chosen}
use Rattle.rp_rows.specs.declared.rows.Key.{Key}
use Rattle.rp_rows.specs.Rows.{text_cmp, key_cmp, same_key, row_key, is_row, Model, GroupRow}
use Rattle.rp_rows.specs.Sight.{counts}
use Rattle.rp_plain.specs.Readers.{as_counted, counted_in}
use Rattle.rp_plain.specs.Populations.{counts_among}
use Rattle.rp_readers.proofs.Looking.{seen_found}

-- ---- a model at a key

pub same_at : (k : Key) (m : Model) → same_key k (row_key m) ≡ is_row k m
same_at k m =
    let owner = sym (is_eq-slice_cmp m.owner k.owner) in
    let name = sym (is_eq-slice_cmp m.name k.name) in
    (λ i. owner i && name i) ∙ tied_then (text_cmp m.owner k.owner) (text_cmp m.name k.name)

any_counted : (k : Key) (g : GroupRow) (ms : List Model) → counts_among (counted_in ms (Some g)) k ≡ is_some (find (λ m. is_row k m && counts m g) ms)
any_counted k g [] = refl
any_counted k g (m ∷ ms) = by (any_counted k g ms) (counts m g) (is_row k m) (same_at k m)
  where
    by : counts_among (counted_in ms (Some g)) k ≡ is_some (find (λ n. is_row k n && counts n g) ms) → (t u : Bool) → same_key k (row_key m) ≡ u
        → counts_among (map as_counted (if t then m ∷ filter (λ n. counts n g) ms else filter (λ n. counts n g) ms)) k ≡ is_some (if u && t then Some m else find (λ n. is_row k n && counts n g) ms)
    by rest true true e = rw e refl
    by rest true false e = rw e rest
    by rest false true e = rest
    by rest false false e = rest

-- what was found at the key counts exactly if the key is among those that count
pub counts_found : (k : Key) (g : GroupRow) (ms : List Model) (found : Option Model) → IsAscending key_cmp row_key ms → found ≡ find (is_row k) ms → is_some (chosen (λ m. counts m g) found) ≡ counts_among (counted_in ms (Some g)) k
counts_found k g ms found order is = ap is_some (seen_found k (λ m. counts m g) ms found order is) ∙ sym (any_counted k g ms)

pub counts_chosen : (g : GroupRow) (m : Model) → is_some (chosen (λ n. counts n g) (Some m)) ≡ counts m g
counts_chosen g m = by (counts m g)
  where
    by : (t : Bool) → is_some (if t then Some m else None) ≡ t
    by true = refl
    by false = refl
