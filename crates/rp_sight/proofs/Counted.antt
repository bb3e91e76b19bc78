-- Which models count in a group, told by a look at its members alone.
use Rattle.std.proofs.Common.{◌≡◌, Bool, ◌&&◌, ◌||◌, true, false, List, [], ◌∷◌, ◌++◌, None, refl, sym, ◌∙◌, ap}
use Rattle.std.specs.Prelude.{filter, if◌then◌else◌}
use Rattle.std.specs.List.{find, list_any, flat_map, AllByRecursion}
use Rattle.std.specs.Str.{bytes_eq}
use Rattle.std.specs.declared.cmp.Ordering.{Ordering}
use Rattle.std.specs.declared.cmp.Ordering.TheVariants.{Less, Equal, Greater}
use Rattle.std.specs.Ordering.{is_lt, is_eq, is_gt, ordering_reverse}
use Rattle.std.specs.Cmp.{tied_then}
use Rattle.std.proofs.lemmas.Map.Text.{is_eq-slice_cmp}
use Rattle.std.proofs.lemmas.Slice.Eq.{bytes_eq-Decides}
use Rattle.sorted_tables.specs.Table.{IsAscending}
use Rattle.sorted_tables.proofs.Ascending.{is_gt-true, follows_all, none_there}
use Rattle.rp_rows.specs.declared.rows.Key.{Key}
use Rattle.rp_rows.specs.Rows.{Text, text_cmp, key_cmp, same_key, row_key, is_row, Model, GroupRow}
use Rattle.rp_rows.specs.Sight.{counts, lists, may_group}
use Rattle.rp_rows.proofs.Keys.{key_total}
use Rattle.rp_rows.specs.Listings.{itself}
use Rattle.rp_sight.specs.Listed.{counted_at, fits}

same_at : (k : Key) (m : Model) → same_key k (row_key m) ≡ is_row k m
same_at k m =
    let owner = sym (is_eq-slice_cmp m.owner k.owner) in
    let name = sym (is_eq-slice_cmp m.name k.name) in
    (λ i. owner i && name i) ∙ tied_then (text_cmp m.owner k.owner) (text_cmp m.name k.name)

-- ---- a walk over the members

bytes_swap : (a b : Text) → bytes_eq a b ≡ bytes_eq b a
bytes_swap a b = by (bytes_eq a b) refl (bytes_eq b a) refl
  where
    by : (t : Bool) → bytes_eq a b ≡ t → (u : Bool) → bytes_eq b a ≡ u → t ≡ u
    by true e true f = refl
    by true e false f = let wrong : bytes_eq b a ≡ true = (bytes_eq-Decides b a).1 (sym ((bytes_eq-Decides a b).0 e)) in cc
    by false e true f = let wrong : bytes_eq a b ≡ true = (bytes_eq-Decides a b).1 (sym ((bytes_eq-Decides b a).0 f)) in cc
    by false e false f = refl

-- a model's key stands among some keys
abbrev has_key : List Key → Model → Bool
has_key ks m = list_any (λ k. is_row k m) ks

has_listed : (ks : List Key) (m : Model) → list_any (same_key (row_key m)) ks ≡ has_key ks m
has_listed [] m = refl
has_listed (k ∷ ks) m =
    let owner = bytes_swap k.owner m.owner in
    let name = bytes_swap k.name m.name in
    let here : same_key (row_key m) k ≡ is_row k m = (λ i. owner i && name i) ∙ same_at k m in
    λ i. here i || has_listed ks m i

-- keys after one that a model's isn't behind
not_later : (k : Key) (m : Model) (ks : List Key) → is_gt (key_cmp (row_key m) k) ≡ false → AllByRecursion (λ (j : Key). is_gt (key_cmp j k) ≡ true) ks → has_key ks m ≡ false
not_later k m [] low all = refl
not_later k m (j ∷ ks) low all = rw (ap is_eq (less (key_cmp (row_key m) k) refl low), not_later k m ks low all.1) refl
  where
    after : key_cmp k j ≡ Less
    after = key_total.antisymm k j ∙ ap ordering_reverse (is_gt-true (key_cmp j k) all.0)

    less : (t : Ordering) → key_cmp (row_key m) k ≡ t → is_gt t ≡ false → key_cmp (row_key m) j ≡ Less
    less Less e h = key_total.trans (row_key m) k j e after
    less Equal e h = key_total.congr (row_key m) k j e ∙ after
    less Greater e h = cc

-- one model more is found under its own key alone
one_more : (g : GroupRow) (m : Model) (ms : List Model) (ks : List Key) → IsAscending key_cmp row_key (m ∷ ms) → IsAscending key_cmp itself ks
    → flat_map (counted_at (m ∷ ms) g) ks ≡ (if has_key ks m && counts m g then m ∷ [] else []) ++ flat_map (counted_at ms g) ks
one_more g m ms [] order listed = refl
one_more g m ms (k ∷ ks) order listed = by (one_more g m ms ks order listed.1) (key_cmp (row_key m) k) refl
  where
    no_more : is_lt (key_cmp (row_key m) k) ≡ false → find (is_row k) ms ≡ None
    no_more past = none_there key_cmp row_key key_total k ms (follows_all key_cmp row_key key_total k (row_key m) ms past order.0)

    by : flat_map (counted_at (m ∷ ms) g) ks ≡ (if has_key ks m && counts m g then m ∷ [] else []) ++ flat_map (counted_at ms g) ks → (t : Ordering) → key_cmp (row_key m) k ≡ t
        → flat_map (counted_at (m ∷ ms) g) (k ∷ ks) ≡ (if has_key (k ∷ ks) m && counts m g then m ∷ [] else []) ++ flat_map (counted_at ms g) (k ∷ ks)
    by rest Less e =
        let none = not_later k m ks (ap is_gt e) listed.0 in
        rw (ap is_eq e, none) (ap (λ xs. counted_at ms g k ++ xs) (rw none at rest))
    by rest Equal e =
        let none = not_later k m ks (ap is_gt e) listed.0 in
        rw (ap is_eq e, no_more (ap is_lt e)) (ap (λ xs. (if counts m g then m ∷ [] else []) ++ xs) (rw none at rest))
    by rest Greater e = rw (ap is_eq e, no_more (ap is_lt e)) rest

walked : (g : GroupRow) (ms : List Model) (ks : List Key) → IsAscending key_cmp row_key ms → IsAscending key_cmp itself ks → flat_map (counted_at ms g) ks ≡ filter (λ m. has_key ks m && counts m g) ms
walked g [] ks order listed = nothing ks
  where
    nothing : (ks : List Key) → flat_map (counted_at [] g) ks ≡ []
    nothing [] = refl
    nothing (k ∷ ks) = nothing ks
walked g (m ∷ ms) ks order listed = one_more g m ms ks order listed ∙ by (has_key ks m && counts m g) (walked g ms ks order.1 listed)
  where
    by : (t : Bool) → flat_map (counted_at ms g) ks ≡ filter (λ n. has_key ks n && counts n g) ms
        → (if t then m ∷ [] else []) ++ flat_map (counted_at ms g) ks ≡ (if t then m ∷ filter (λ n. has_key ks n && counts n g) ms else filter (λ n. has_key ks n && counts n g) ms)
    by true rest = ap (λ xs. m ∷ xs) rest
    by false rest = rest

-- what counts in a group is listed there, and fits
pub listed_fits : (g : GroupRow) (m : Model) → (has_key g.holds.members m && fits g m) ≡ counts m g
listed_fits g m = ap (λ t. t && fits g m) (sym (has_listed g.holds.members m))

-- what counts in a group is listed there
pub listed_counts : (g : GroupRow) (m : Model) → (has_key g.holds.members m && counts m g) ≡ counts m g
listed_counts g m = ap (λ t. t && counts m g) (sym (has_listed g.holds.members m)) ∙ twice (lists (row_key m) g) (bytes_eq m.holds.schema g.holds.schema && may_group g.owner m)
  where
    twice : (a b : Bool) → (a && (a && b)) ≡ (a && b)
    twice true b = refl
    twice false b = refl

same_filter : (p q : Model → Bool) → ((m : Model) → p m ≡ q m) → (ms : List Model) → filter p ms ≡ filter q ms
same_filter p q same [] = refl
same_filter p q same (m ∷ ms) = (λ i. if same m i then m ∷ filter p ms else filter p ms) ∙ ap (λ ns. if q m then m ∷ ns else ns) (same_filter p q same ms)

-- the models that count are found by a walk over the members
pub counted_walk : (g : GroupRow) (ms : List Model) → IsAscending key_cmp row_key ms → IsAscending key_cmp itself g.holds.members → flat_map (counted_at ms g) g.holds.members ≡ filter (λ m. counts m g) ms
counted_walk g ms order listed = walked g ms g.holds.members order listed ∙ (same_filter (λ m. has_key g.holds.members m && counts m g) (λ m. counts m g) (listed_counts g) ms)
