-- The names of groups that partners are granted, as grants and groups change.
use Rattle.std.proofs.Common.{◌≡◌, Bool, true, false, ◌&&◌, ◌||◌, List, [], ◌∷◌, ◌++◌, Option, Some, None, is_some, refl, sym, ◌∙◌, ap, arith}
use Rattle.std.specs.Prelude.{filter, if◌then◌else◌, option_map, option_to_list}
use Rattle.std.specs.List.{find, list_any}
use Rattle.std.specs.Str.{bytes_eq}
use Rattle.std.specs.declared.cmp.Ordering.{Ordering}
use Rattle.std.specs.declared.cmp.Ordering.TheVariants.{Less, Equal, Greater}
use Rattle.std.specs.Ordering.{is_lt, is_eq, is_gt}
use Rattle.std.proofs.lemmas.Bool.{false≢true}
use Rattle.std.proofs.lemmas.Slice.Eq.{bytes_eq-Decides}
use Rattle.std.proofs.lemmas.Map.Text.{is_eq-slice_cmp}
use Rattle.std.specs.Cmp.{tied_then}
use Rattle.std.proofs.lemmas.Cmp.{nat_list_cmp_total}
use Rattle.sorted_tables.specs.Table.{is_before, is_after, with_row}
use Rattle.sorted_tables.proofs.Tables.{list_any-append}
use Rattle.sorted_tables.proofs.Altered.{any-with_row}
use Rattle.rp_rows.specs.declared.rows.Grant.{Grant}
use Rattle.rp_rows.specs.declared.rows.Level.{Level}
use Rattle.rp_rows.specs.declared.rows.Listing.{Listing}
use Rattle.rp_rows.specs.declared.rows.Key.{Key}
use Rattle.rp_rows.specs.Rows.{Text, text_cmp, grant_key, key_cmp, same_key, Row, row_key, is_row, GroupRow, key_of}
use Rattle.rp_rows.specs.Sight.{is_grant_to}
use Rattle.rp_rows.specs.Alterations.{Holds, altered, grants_of, grant_for}
use Rattle.rp_rows.proofs.Keys.{key_total, key_at, found_at}
use Rattle.rp_store.specs.Entries.{entry_key, is_entry, revalued, standing, with_name, without_name}
use Rattle.rp_sight.specs.Stored.{granted_row, rewritten}
use Rattle.rp_store.proofs.Finding.{entry_at, standing_key}
use Rattle.rp_sight.proofs.Changed.{find-kept, find_other, find_same}
use Rattle.rp_sight.specs.Granted.{Names, has_name, value_of, names_at, relisted, is_granted_at, KeepsGranted, granted_of, tells, TellsGranted}

-- ---- names

has_append : (n : Text) (xs ys : List Text) → has_name n (xs ++ ys) ≡ (has_name n xs || has_name n ys)
has_append n [] ys = refl
has_append n (x ∷ xs) ys = by (bytes_eq x n) (has_append n xs ys)
  where
    by : (t : Bool) → has_name n (xs ++ ys) ≡ (has_name n xs || has_name n ys) → (t || has_name n (xs ++ ys)) ≡ ((t || has_name n xs) || has_name n ys)
    by true rest = refl
    by false rest = rest

-- another name is among them as before
has_without : (n d : Text) (names : List Text) → bytes_eq d n ≡ false → has_name n (without_name d names) ≡ has_name n names
has_without n d [] other = refl
has_without n d (m ∷ names) other = by (has_without n d names other) (bytes_eq m d) refl
  where
    same : bytes_eq m d ≡ true → bytes_eq m n ≡ false
    same e = ap (λ t. bytes_eq t n) ((bytes_eq-Decides m d).0 e) ∙ other

    by : has_name n (without_name d names) ≡ has_name n names → (t : Bool) → bytes_eq m d ≡ t → has_name n (without_name d (m ∷ names)) ≡ has_name n (m ∷ names)
    by rest true e = rw (e, same e) rest
    by rest false e = rw e (ap (λ t. bytes_eq m n || t) rest)

itself : (n : Text) → bytes_eq n n ≡ true
itself n = (bytes_eq-Decides n n).1 refl

or_true : (t : Bool) → (t || true) ≡ true
or_true true = refl
or_true false = refl

-- a name that is taken away is no longer among them
gone_without : (n : Text) (names : List Text) → has_name n (without_name n names) ≡ false
gone_without n [] = refl
gone_without n (m ∷ names) = by (gone_without n names) (bytes_eq m n) refl
  where
    by : has_name n (without_name n names) ≡ false → (t : Bool) → bytes_eq m n ≡ t → has_name n (without_name n (m ∷ names)) ≡ false
    by rest true e = rw e rest
    by rest false e = rw e (ap (λ t. t || has_name n (without_name n names)) e ∙ rest)

-- other names are among them as before
relisted_others : (n d : Text) (l : Option Level) (names : List Text) → bytes_eq d n ≡ false → has_name n (relisted d l names) ≡ has_name n names
relisted_others n d None names other = has_without n d names other
relisted_others n d (Some l) names other =
    has_append n (without_name d names) (d ∷ [])
    ∙ (λ i. has_without n d names other i || (other i || false))
    ∙ or_false (has_name n names)
  where
    or_false : (t : Bool) → (t || false) ≡ t
    or_false true = refl
    or_false false = refl

-- and this one exactly where there is a level
relisted_there : (n : Text) (l : Option Level) (names : List Text) → has_name n (relisted n l names) ≡ is_some l
relisted_there n None names = gone_without n names
relisted_there n (Some l) names = has_append n (without_name n names) (n ∷ []) ∙ ap (λ t. has_name n (without_name n names) || (t || false)) (itself n) ∙ or_true (has_name n (without_name n names))

-- ---- keys

-- whether two keys are one
pub key_is : (j k : Key) (t : Bool) → is_eq (key_cmp j k) ≡ t → t ≡ true → j ≡ k
key_is j k t e h =
    let row : Row Listing = record { owner = j.owner; name = j.name; holds = record { schema = []; members = [] }; grants = [] } in
    key_at k row (e ∙ h)

keyed_option : (j : Key) (f : List Text → List Text) (es : List Names) (x : Names) → option_map (revalued f) (find (is_entry j) es) ≡ Some x → entry_key x ≡ j
keyed_option j f es x is = by (find (is_entry j) es) refl is
  where
    by : (o : Option Names) → find (is_entry j) es ≡ o → option_map (revalued f) o ≡ Some x → entry_key x ≡ j
    by None e h = cc
    by (Some y) e h =
        let same : revalued f y ≡ x = cc in
        ap entry_key (sym same) ∙ entry_at j y (found_at (is_entry j) es y e)

keyed_row : (j : Key) (names : List Text) (x : Names) → Some (record { key = j; value = names }) ≡ Some x → entry_key x ≡ j
keyed_row j names x is = let e : Names = record { key = j; value = names } in let same : e ≡ x = cc in ap entry_key (sym same)

-- ---- a name that is dropped under one partner and owner

value_mapped : (f : List Text → List Text) (none : f [] ≡ []) (o : Option Names) → value_of (option_map (revalued f) o) ≡ f (value_of o)
value_mapped f none None = sym none
value_mapped f none (Some e) = refl

abbrev pub dropped_at : Key → Text → List Names → List Names
dropped_at j n es = with_row key_cmp entry_key j (option_map (revalued (without_name n)) (find (is_entry j) es)) es

-- the names of another group stay
pub drop_keeps : (q : Text) (key k : Key) (p : Text) (es : List Names) → same_key key k ≡ false → has_name k.name (names_at (key_of p k.owner) (dropped_at (key_of q key.owner) key.name es)) ≡ has_name k.name (names_at (key_of p k.owner) es)
drop_keeps q key k p es other = by (is_eq (key_cmp (key_of p k.owner) (key_of q key.owner))) refl
  where
    j : Key
    j = key_of q key.owner

    keyed : (x : Names) → option_map (revalued (without_name key.name)) (find (is_entry j) es) ≡ Some x → entry_key x ≡ j
    keyed x is = keyed_option j (without_name key.name) es x is

    by : (t : Bool) → is_eq (key_cmp (key_of p k.owner) (key_of q key.owner)) ≡ t → has_name k.name (names_at (key_of p k.owner) (dropped_at (key_of q key.owner) key.name es)) ≡ has_name k.name (names_at (key_of p k.owner) es)
    by false e = ap (λ o. has_name k.name (value_of o)) (find_other key_cmp entry_key key_total (key_of p k.owner) j (option_map (revalued (without_name key.name)) (find (is_entry j) es)) es keyed e)
    by true e =
        let at : (key_of p k.owner) ≡ j = key_is (key_of p k.owner) j true e refl in
        let owner : k.owner ≡ key.owner = ap (λ (i : Key). i.name) at in
        let name : bytes_eq key.name k.name ≡ false = other_name owner (bytes_eq key.name k.name) refl in
        ap (λ (i : Key). has_name k.name (names_at i (dropped_at j key.name es))) at
        ∙ ap (λ o. has_name k.name (value_of o)) (find_same key_cmp entry_key key_total j (option_map (revalued (without_name key.name)) (find (is_entry j) es)) es keyed)
        ∙ ap (has_name k.name) (value_mapped (without_name key.name) refl (find (is_entry j) es))
        ∙ has_without k.name key.name (names_at j es) name
        ∙ ap (λ (i : Key). has_name k.name (names_at i es)) (sym at)
      where
        other_name : k.owner ≡ key.owner → (t : Bool) → bytes_eq key.name k.name ≡ t → t ≡ false
        other_name owner false f = refl
        other_name owner true f =
            let names : key.name ≡ k.name = (bytes_eq-Decides key.name k.name).0 f in
            let one : same_key key k ≡ true = (λ i. bytes_eq (owner i) key.owner && bytes_eq (sym names i) key.name) ∙ (λ i. itself key.owner i && itself key.name i) in
            absurd (false≢true (sym other ∙ one))

-- the name of the group itself is gone under the partner
drop_gone : (q : Text) (key : Key) (es : List Names) → has_name key.name (names_at (key_of q key.owner) (dropped_at (key_of q key.owner) key.name es)) ≡ false
drop_gone q key es =
    let j : Key = (key_of q key.owner) in
    ap (λ o. has_name key.name (value_of o)) (find_same key_cmp entry_key key_total j (option_map (revalued (without_name key.name)) (find (is_entry j) es)) es (keyed_option j (without_name key.name) es))
    ∙ ap (has_name key.name) (value_mapped (without_name key.name) refl (find (is_entry j) es))
    ∙ gone_without key.name (names_at j es)

-- and under nobody is it new
pub drop_fewer : (q : Text) (key : Key) (p : Text) (es : List Names) → has_name key.name (names_at (key_of p key.owner) es) ≡ false → has_name key.name (names_at (key_of p key.owner) (dropped_at (key_of q key.owner) key.name es)) ≡ false
drop_fewer q key p es none = by (is_eq (key_cmp (key_of p key.owner) (key_of q key.owner))) refl
  where
    j : Key
    j = key_of q key.owner

    by : (t : Bool) → is_eq (key_cmp (key_of p key.owner) (key_of q key.owner)) ≡ t → has_name key.name (names_at (key_of p key.owner) (dropped_at j key.name es)) ≡ false
    by true e = ap (λ (i : Key). has_name key.name (names_at i (dropped_at j key.name es))) (key_is (key_of p key.owner) j true e refl) ∙ drop_gone q key es
    by false e =
        ap (λ o. has_name key.name (value_of o)) (find_other key_cmp entry_key key_total (key_of p key.owner) j (option_map (revalued (without_name key.name)) (find (is_entry j) es)) es (keyed_option j (without_name key.name) es) e)
        ∙ none

pub drop_of : (q : Text) (key : Key) (p : Text) (es : List Names) → bytes_eq q p ≡ true → has_name key.name (names_at (key_of p key.owner) (dropped_at (key_of q key.owner) key.name es)) ≡ false
drop_of q key p es same =
    let who : q ≡ p = (bytes_eq-Decides q p).0 same in
    ap (λ r. has_name key.name (names_at (key_of r key.owner) (dropped_at (key_of q key.owner) key.name es))) (sym who) ∙ drop_gone q key es

-- ---- a name that is added under one partner and owner

abbrev pub named_at : Key → Text → List Names → List Names
named_at j n es = with_row key_cmp entry_key j (Some (revalued (with_name n) (standing j [] (find (is_entry j) es)))) es

module _ (j : Key) (n : Text) (es : List Names) where
  named_key : (x : Names) → Some (revalued (with_name n) (standing j [] (find (is_entry j) es))) ≡ Some x → entry_key x ≡ j
  named_key x is =
      let same : revalued (with_name n) (standing j [] (find (is_entry j) es)) ≡ x = cc in
      ap entry_key (sym same) ∙ standing_key j [] es

  standing_value : (o : Option Names) → (standing j [] o).value ≡ value_of o
  standing_value None = refl
  standing_value (Some x) = refl

  named_there : names_at j (named_at j n es) ≡ with_name n (names_at j es)
  named_there =
      ap value_of (find_same key_cmp entry_key key_total j (Some (revalued (with_name n) (standing j [] (find (is_entry j) es)))) es named_key)
      ∙ ap (with_name n) (standing_value (find (is_entry j) es))

  named_elsewhere : (i : Key) → is_eq (key_cmp i j) ≡ false → names_at i (named_at j n es) ≡ names_at i es
  named_elsewhere i e = ap value_of (find_other key_cmp entry_key key_total i j (Some (revalued (with_name n) (standing j [] (find (is_entry j) es)))) es named_key e)

-- keys of one owner that aren't the same have other names
other_name : (key k : Key) → same_key key k ≡ false → k.owner ≡ key.owner → bytes_eq key.name k.name ≡ false
other_name key k other owner = by (bytes_eq key.name k.name) refl
  where
    by : (t : Bool) → bytes_eq key.name k.name ≡ t → t ≡ false
    by false f = refl
    by true f =
        let names : key.name ≡ k.name = (bytes_eq-Decides key.name k.name).0 f in
        let one : same_key key k ≡ true = (λ i. bytes_eq (owner i) key.owner && bytes_eq (sym names i) key.name) ∙ (λ i. itself key.owner i && itself key.name i) in
        absurd (false≢true (sym other ∙ one))

-- the names of another group stay
pub add_keeps : (q : Text) (key k : Key) (p : Text) (es : List Names) → same_key key k ≡ false → has_name k.name (names_at (key_of p k.owner) (named_at (key_of q key.owner) key.name es)) ≡ has_name k.name (names_at (key_of p k.owner) es)
add_keeps q key k p es other = by (is_eq (key_cmp (key_of p k.owner) (key_of q key.owner))) refl
  where
    j : Key
    j = key_of q key.owner

    or_no : (t u : Bool) → u ≡ false → (t || (u || false)) ≡ t
    or_no true u e = refl
    or_no false u e = ap (λ t. t || false) e

    by : (t : Bool) → is_eq (key_cmp (key_of p k.owner) (key_of q key.owner)) ≡ t → has_name k.name (names_at (key_of p k.owner) (named_at (key_of q key.owner) key.name es)) ≡ has_name k.name (names_at (key_of p k.owner) es)
    by false e = ap (has_name k.name) (named_elsewhere j key.name es (key_of p k.owner) e)
    by true e =
        let at : (key_of p k.owner) ≡ j = key_is (key_of p k.owner) j true e refl in
        let owner : k.owner ≡ key.owner = ap (λ (i : Key). i.name) at in
        ap (λ (i : Key). has_name k.name (names_at i (named_at j key.name es))) at
        ∙ ap (has_name k.name) (named_there j key.name es)
        ∙ has_append k.name (names_at j es) (key.name ∷ [])
        ∙ or_no (has_name k.name (names_at j es)) (bytes_eq key.name k.name) (other_name key k other owner)
        ∙ ap (λ (i : Key). has_name k.name (names_at i es)) (sym at)

-- and so do those of other partners
pub add_apart : (q : Text) (key : Key) (p : Text) (es : List Names) → bytes_eq q p ≡ false → has_name key.name (names_at (key_of p key.owner) (named_at (key_of q key.owner) key.name es)) ≡ has_name key.name (names_at (key_of p key.owner) es)
add_apart q key p es other = ap (has_name key.name) (named_elsewhere (key_of q key.owner) key.name es (key_of p key.owner) (apart (is_eq (key_cmp (key_of p key.owner) (key_of q key.owner))) refl))
  where
    apart : (t : Bool) → is_eq (key_cmp (key_of p key.owner) (key_of q key.owner)) ≡ t → t ≡ false
    apart false e = refl
    apart true e =
        let who : p ≡ q = ap (λ (i : Key). i.owner) (key_is (key_of p key.owner) (key_of q key.owner) true e refl) in
        absurd (false≢true (sym other ∙ (bytes_eq-Decides q p).1 (sym who)))

-- the name stands under the partner
pub add_of : (q : Text) (key : Key) (p : Text) (es : List Names) → bytes_eq q p ≡ true → has_name key.name (names_at (key_of p key.owner) (named_at (key_of q key.owner) key.name es)) ≡ true
add_of q key p es same =
    let who : q ≡ p = (bytes_eq-Decides q p).0 same in
    let j : Key = key_of q key.owner in
    ap (λ r. has_name key.name (names_at (key_of r key.owner) (named_at j key.name es))) (sym who)
    ∙ ap (has_name key.name) (named_there j key.name es)
    ∙ has_append key.name (names_at j es) (key.name ∷ [])
    ∙ ap (λ t. has_name key.name (names_at j es) || (t || false)) (itself key.name)
    ∙ or_true (has_name key.name (names_at j es))

-- ---- the rows of groups

pub same_as : (j k : Key) → same_key k j ≡ is_eq (key_cmp j k)
same_as j k =
    let owner = sym (is_eq-slice_cmp j.owner k.owner) in
    let name = sym (is_eq-slice_cmp j.name k.name) in
    (λ i. owner i && name i) ∙ tied_then (text_cmp j.owner k.owner) (text_cmp j.name k.name)

pub held_key : (k : Key) (a : Listing) (gs : List Grant) (x : GroupRow) → Some (record { owner = k.owner; name = k.name; holds = a; grants = gs }) ≡ Some x → row_key x ≡ k
held_key k a gs x is = let g : GroupRow = record { owner = k.owner; name = k.name; holds = a; grants = gs } in let same : g ≡ x = cc in ap row_key (sym same)

pub no_row : (k : Key) (x : GroupRow) → None ≡ Some x → row_key x ≡ k
no_row k x is = cc

-- the grants on what was looked up
granted_of_row : (p : Text) (o : Option GroupRow) → list_any (is_grant_to p) (grants_of o) ≡ is_granted_at p o
granted_of_row p None = refl
granted_of_row p (Some g) = refl

-- a group that is put keeps its grants
pub put_keeps : (k : Key) (a : Listing) (es : List Names) (gs : List GroupRow) → KeepsGranted es gs → KeepsGranted es (altered k (Holds (Some a)) gs)
put_keeps k a es gs kept p j = kept p j ∙ by (is_eq (key_cmp j k)) refl
  where
    row : GroupRow
    row = record { owner = k.owner; name = k.name; holds = a; grants = grants_of (find (is_row k) gs) }

    held : (x : GroupRow) → Some row ≡ Some x → row_key x ≡ k
    held = held_key k a (grants_of (find (is_row k) gs))

    by : (t : Bool) → is_eq (key_cmp j k) ≡ t → is_granted_at p (find (is_row j) gs) ≡ is_granted_at p (find (is_row j) (altered k (Holds (Some a)) gs))
    by false e = ap (is_granted_at p) (sym (find_other key_cmp row_key key_total j k (Some row) gs held e))
    by true e =
        let at : j ≡ k = key_is j k true e refl in
        ap (λ i. is_granted_at p (find (is_row i) gs)) at
        ∙ sym (granted_of_row p (find (is_row k) gs))
        ∙ ap (is_granted_at p) (sym (find_same key_cmp row_key key_total k (Some row) gs held))
        ∙ ap (λ i. is_granted_at p (find (is_row i) (altered k (Holds (Some a)) gs))) (sym at)

-- of a group that is gone the name is with nobody, where it is gone from those who were granted it, and new with none
module _ (k : Key) (es fs : List Names) (gs : List GroupRow) (kept : KeepsGranted es gs)
    (others : (p : Text) (j : Key) → same_key k j ≡ false → has_name j.name (names_at (key_of p j.owner) fs) ≡ has_name j.name (names_at (key_of p j.owner) es))
    (fewer : (p : Text) → has_name k.name (names_at (key_of p k.owner) es) ≡ false → has_name k.name (names_at (key_of p k.owner) fs) ≡ false)
    (gone : (p : Text) → list_any (is_grant_to p) (grants_of (find (is_row k) gs)) ≡ true → has_name k.name (names_at (key_of p k.owner) fs) ≡ false) where
  with_nobody : (p : Text) → has_name k.name (names_at (key_of p k.owner) fs) ≡ false
  with_nobody p = by (list_any (is_grant_to p) (grants_of (find (is_row k) gs))) refl
    where
      by : (t : Bool) → list_any (is_grant_to p) (grants_of (find (is_row k) gs)) ≡ t → has_name k.name (names_at (key_of p k.owner) fs) ≡ false
      by true e = gone p e
      by false e = fewer p (kept p k ∙ sym (granted_of_row p (find (is_row k) gs)) ∙ e)

  pub remove_keeps : KeepsGranted fs (altered k (Holds None) gs)
  remove_keeps p j = by (is_eq (key_cmp j k)) refl
    where
      by : (t : Bool) → is_eq (key_cmp j k) ≡ t → has_name j.name (names_at (key_of p j.owner) fs) ≡ is_granted_at p (find (is_row j) (altered k (Holds None) gs))
      by false e =
          others p j (same_as j k ∙ e)
          ∙ kept p j
          ∙ ap (is_granted_at p) (sym (find_other key_cmp row_key key_total j k None gs (no_row k) e))
      by true e =
          let at : j ≡ k = key_is j k true e refl in
          ap (λ (i : Key). has_name i.name (names_at (key_of p i.owner) fs)) at
          ∙ with_nobody p
          ∙ ap (is_granted_at p) (sym (find_same key_cmp row_key key_total k None gs (no_row k)))
          ∙ ap (λ i. is_granted_at p (find (is_row i) (altered k (Holds None) gs))) (sym at)

-- a group that there wasn't: the names under its owner are as before but for its own
module _ (k : Key) (es fs : List Names) (gs : List GroupRow) (kept : KeepsGranted es gs) (none : find (is_row k) gs ≡ None)
    (others : (p : Text) (j : Key) → same_key k j ≡ false → has_name j.name (names_at (key_of p j.owner) fs) ≡ has_name j.name (names_at (key_of p j.owner) es)) where
  -- it isn't held, and its name is with nobody
  pub unheld_keeps : ((p : Text) → has_name k.name (names_at (key_of p k.owner) fs) ≡ false) → KeepsGranted fs gs
  unheld_keeps unlisted p j = by (is_eq (key_cmp j k)) refl
    where
      by : (t : Bool) → is_eq (key_cmp j k) ≡ t → has_name j.name (names_at (key_of p j.owner) fs) ≡ is_granted_at p (find (is_row j) gs)
      by false e = others p j (same_as j k ∙ e) ∙ kept p j
      by true e =
          let at : j ≡ k = key_is j k true e refl in
          ap (λ (i : Key). has_name i.name (names_at (key_of p i.owner) fs)) at
          ∙ unlisted p
          ∙ ap (is_granted_at p) (sym none)
          ∙ ap (λ i. is_granted_at p (find (is_row i) gs)) (sym at)

  -- it is held, and its name is with those who are granted it
  pub held_keeps : (a : Listing) (grants : List Grant) → ((p : Text) → has_name k.name (names_at (key_of p k.owner) fs) ≡ list_any (is_grant_to p) grants) → KeepsGranted fs (with_row key_cmp row_key k (Some (granted_row k a grants)) gs)
  held_keeps a grants listed p j = by (is_eq (key_cmp j k)) refl
    where
      row : GroupRow
      row = granted_row k a grants

      by : (t : Bool) → is_eq (key_cmp j k) ≡ t → has_name j.name (names_at (key_of p j.owner) fs) ≡ is_granted_at p (find (is_row j) (with_row key_cmp row_key k (Some row) gs))
      by false e =
          others p j (same_as j k ∙ e)
          ∙ kept p j
          ∙ ap (is_granted_at p) (sym (find_other key_cmp row_key key_total j k (Some row) gs (held_key k a grants) e))
      by true e =
          let at : j ≡ k = key_is j k true e refl in
          ap (λ (i : Key). has_name i.name (names_at (key_of p i.owner) fs)) at
          ∙ listed p
          ∙ ap (is_granted_at p) (sym (find_same key_cmp row_key key_total k (Some row) gs (held_key k a grants)))
          ∙ ap (λ i. is_granted_at p (find (is_row i) (with_row key_cmp row_key k (Some row) gs))) (sym at)

-- ---- grants

at_partner : (to : Text) (x : Grant) → is_eq (text_cmp (grant_key x) to) ≡ bytes_eq x.partner to
at_partner to x = is_eq-slice_cmp x.partner to

other_partner : (p to : Text) → bytes_eq to p ≡ false → (x : Grant) → is_eq (text_cmp (grant_key x) to) ≡ true → is_grant_to p x ≡ false
other_partner p to other x at = ap (λ q. bytes_eq q p) ((bytes_eq-Decides x.partner to).0 (sym (at_partner to x) ∙ at)) ∙ other

new_other : (p to : Text) (l : Option Level) → bytes_eq to p ≡ false → list_any (is_grant_to p) (option_to_list (grant_for to l)) ≡ false
new_other p to None other = refl
new_other p to (Some l) other = rw other refl

-- no grant to a partner is left where he gets none
none_left : (to : Text) (gs : List Grant) (q : Grant → Bool) → ((x : Grant) → q x ≡ true → is_eq (text_cmp (grant_key x) to) ≡ false) → list_any (is_grant_to to) (filter q gs) ≡ false
none_left to [] q apart = refl
none_left to (x ∷ gs) q apart = by (none_left to gs q apart) (q x) refl
  where
    by : list_any (is_grant_to to) (filter q gs) ≡ false → (t : Bool) → q x ≡ t → list_any (is_grant_to to) (if t then x ∷ filter q gs else filter q gs) ≡ false
    by rest true e = (λ i. (sym (at_partner to x) ∙ apart x e) i || rest i)
    by rest false e = rest

is_lt-apart : (t : Ordering) → is_lt t ≡ true → is_eq t ≡ false
is_lt-apart Less h = refl
is_lt-apart Equal h = cc
is_lt-apart Greater h = cc

is_gt-apart : (t : Ordering) → is_gt t ≡ true → is_eq t ≡ false
is_gt-apart Less h = cc
is_gt-apart Equal h = cc
is_gt-apart Greater h = refl

any_append : (q : Grant → Bool) (xs ys : List Grant) → list_any q xs ≡ false → list_any q ys ≡ false → list_any q (xs ++ ys) ≡ false
any_append q xs ys first last = list_any-append q xs ys first last

revoked : (to : Text) (gs : List Grant) → list_any (is_grant_to to) (with_row text_cmp grant_key to None gs) ≡ false
revoked to gs =
    let before = filter (is_before text_cmp grant_key to) gs in
    let after = filter (is_after text_cmp grant_key to) gs in
    any_append (is_grant_to to) (before ++ []) after
    (any_append (is_grant_to to) before [] (none_left to gs (is_before text_cmp grant_key to) (λ x h. is_lt-apart (text_cmp (grant_key x) to) h)) refl)
    (none_left to gs (is_after text_cmp grant_key to) (λ x h. is_gt-apart (text_cmp (grant_key x) to) h))

granted_self : (to : Text) (l : Level) (gs : List Grant) → list_any (is_grant_to to) (with_row text_cmp grant_key to (Some (record { partner = to; level = l })) gs) ≡ true
granted_self to l gs =
    let before = filter (is_before text_cmp grant_key to) gs in
    let after = filter (is_after text_cmp grant_key to) gs in
    any_left (is_grant_to to) (before ++ record { partner = to; level = l } ∷ []) after (any_last (is_grant_to to) before (record { partner = to; level = l }) (itself to))
  where
    any_left : (q : Grant → Bool) (xs ys : List Grant) → list_any q xs ≡ true → list_any q (xs ++ ys) ≡ true
    any_left q [] ys h = cc
    any_left q (x ∷ xs) ys h = grind (arith, any_left q xs ys)

    any_last : (q : Grant → Bool) (xs : List Grant) (x : Grant) → q x ≡ true → list_any q (xs ++ x ∷ []) ≡ true
    any_last q [] x h = ap (λ t. t || false) h
    any_last q (y ∷ xs) x h = ap (λ t. q y || t) (any_last q xs x h) ∙ or_true (q y)

-- one partner's grant is there exactly where there is a level
regranted_self : (to : Text) (l : Option Level) (gs : List Grant) → list_any (is_grant_to to) (with_row text_cmp grant_key to (grant_for to l) gs) ≡ is_some l
regranted_self to None gs = revoked to gs
regranted_self to (Some l) gs = granted_self to l gs

pub regranted_key : (k : Key) (gs : List Grant) (rows : List GroupRow) (x : GroupRow) → option_map (λ (y : GroupRow). record y { grants = gs }) (find (is_row k) rows) ≡ Some x → row_key x ≡ k
regranted_key k gs rows x is = by (find (is_row k) rows) refl is
  where
    by : (o : Option GroupRow) → find (is_row k) rows ≡ o → option_map (λ (y : GroupRow). record y { grants = gs }) o ≡ Some x → row_key x ≡ k
    by None e h = cc
    by (Some y) e h =
        let z : GroupRow = record y { grants = gs } in
        let same : z ≡ x = cc in
        ap row_key (sym same) ∙ key_at k y (found_at (is_row k) rows y e)

-- rows of which one has other grants
module _ (k : Key) (gs : List Grant) (rows : List GroupRow) where
  abbrev pub changed : Option GroupRow
  changed = option_map (λ (y : GroupRow). record y { grants = gs }) (find (is_row k) rows)

  abbrev pub regranted_rows : List GroupRow
  regranted_rows = rewritten k (λ x. record x { grants = gs }) rows

  row_there : find (is_row k) regranted_rows ≡ changed
  row_there = find_same key_cmp row_key key_total k changed rows (regranted_key k gs rows)

  row_elsewhere : (j : Key) → is_eq (key_cmp j k) ≡ false → find (is_row j) regranted_rows ≡ find (is_row j) rows
  row_elsewhere j e = find_other key_cmp row_key key_total j k changed rows (regranted_key k gs rows) e

-- where there is no such group, all stays
pub none_regranted : (k : Key) (gs : List Grant) (es : List Names) (rows : List GroupRow) → find (is_row k) rows ≡ None → KeepsGranted es rows → KeepsGranted es (regranted_rows k gs rows)
none_regranted k gs es rows none kept p j = kept p j ∙ by (is_eq (key_cmp j k)) refl
  where
    by : (t : Bool) → is_eq (key_cmp j k) ≡ t → is_granted_at p (find (is_row j) rows) ≡ is_granted_at p (find (is_row j) (regranted_rows k gs rows))
    by false e = ap (is_granted_at p) (sym (row_elsewhere k gs rows j e))
    by true e =
        let at : j ≡ k = key_is j k true e refl in
        let left : find (is_row k) (regranted_rows k gs rows) ≡ None = row_there k gs rows ∙ ap (option_map (λ (y : GroupRow). record y { grants = gs })) none in
        ap (λ i. is_granted_at p (find (is_row i) rows)) at
        ∙ ap (is_granted_at p) (none ∙ sym left)
        ∙ ap (λ i. is_granted_at p (find (is_row i) (regranted_rows k gs rows))) (sym at)

-- one partner's grant on the group of a key, and the names under him and its owner
module _ (k : Key) (to : Text) (l : Option Level) (gs : List Grant) (names : List Text) (es : List Names) (rows : List GroupRow) (x : GroupRow) (there : find (is_row k) rows ≡ Some x)
    (grants : gs ≡ with_row text_cmp grant_key to (grant_for to l) x.grants) (listed : names ≡ relisted k.name l (names_at (key_of to k.owner) es)) (kept : KeepsGranted es rows) where
  abbrev under : Key
  under = key_of to k.owner

  abbrev fs : List Names
  fs = with_row key_cmp entry_key under (Some (record { key = under; value = names })) es

  under_is : names_at under fs ≡ names
  under_is = ap value_of (find_same key_cmp entry_key key_total under (Some (record { key = under; value = names })) es (keyed_row under names))

  elsewhere : (i : Key) → is_eq (key_cmp i under) ≡ false → names_at i fs ≡ names_at i es
  elsewhere i e = ap value_of (find_other key_cmp entry_key key_total i under (Some (record { key = under; value = names })) es (keyed_row under names) e)

  -- the name of another group stays as it was
  stays : (p : Text) (j : Key) → is_eq (key_cmp j k) ≡ false → has_name j.name (names_at (key_of p j.owner) fs) ≡ has_name j.name (names_at (key_of p j.owner) es)
  stays p j other = by (is_eq (key_cmp (key_of p j.owner) under)) refl
    where
      by : (t : Bool) → is_eq (key_cmp (key_of p j.owner) under) ≡ t → has_name j.name (names_at (key_of p j.owner) fs) ≡ has_name j.name (names_at (key_of p j.owner) es)
      by false e = ap (has_name j.name) (elsewhere (key_of p j.owner) e)
      by true e =
          let at : (key_of p j.owner) ≡ under = key_is (key_of p j.owner) under true e refl in
          let owner : j.owner ≡ k.owner = ap (λ (i : Key). i.name) at in
          ap (λ (i : Key). has_name j.name (names_at i fs)) at
          ∙ ap (has_name j.name) (under_is ∙ listed)
          ∙ relisted_others j.name k.name l (names_at under es) (apart owner (bytes_eq k.name j.name) refl)
          ∙ ap (λ (i : Key). has_name j.name (names_at i es)) (sym at)
        where
          apart : j.owner ≡ k.owner → (t : Bool) → bytes_eq k.name j.name ≡ t → t ≡ false
          apart owner false f = refl
          apart owner true f =
              let name : k.name ≡ j.name = (bytes_eq-Decides k.name j.name).0 f in
              let one : same_key k j ≡ true = (λ i. bytes_eq (owner i) k.owner && bytes_eq (sym name i) k.name) ∙ (λ i. itself k.owner i && itself k.name i) in
              absurd (false≢true (sym (same_as j k ∙ other) ∙ one))

  -- the name of this one stands with those who are granted it from now on
  stands : (p : Text) → has_name k.name (names_at (key_of p k.owner) fs) ≡ list_any (is_grant_to p) gs
  stands p = by (bytes_eq to p) refl
    where
      by : (t : Bool) → bytes_eq to p ≡ t → has_name k.name (names_at (key_of p k.owner) fs) ≡ list_any (is_grant_to p) gs
      by true e =
          let same : to ≡ p = (bytes_eq-Decides to p).0 e in
          ap (λ q. has_name k.name (names_at (key_of q k.owner) fs)) (sym same)
          ∙ ap (has_name k.name) (under_is ∙ listed)
          ∙ relisted_there k.name l (names_at under es)
          ∙ sym (regranted_self to l x.grants)
          ∙ ap (list_any (is_grant_to to)) (sym grants)
          ∙ ap (λ q. list_any (is_grant_to q) gs) same
      by false e =
          ap (has_name k.name) (elsewhere (key_of p k.owner) (apart (is_eq (key_cmp (key_of p k.owner) under)) refl))
          ∙ kept p k
          ∙ ap (is_granted_at p) there
          ∙ sym (any-with_row text_cmp grant_key nat_list_cmp_total (is_grant_to p) to (other_partner p to e) (grant_for to l) x.grants (new_other p to l e))
          ∙ ap (list_any (is_grant_to p)) (sym grants)
        where
          apart : (t : Bool) → is_eq (key_cmp (key_of p k.owner) under) ≡ t → t ≡ false
          apart false f = refl
          apart true f =
              let who : p ≡ to = ap (λ (i : Key). i.owner) (key_is (key_of p k.owner) under true f refl) in
              absurd (false≢true (sym e ∙ (bytes_eq-Decides to p).1 (sym who)))

  pub regrant_keeps : KeepsGranted fs (regranted_rows k gs rows)
  regrant_keeps p j = by (is_eq (key_cmp j k)) refl
    where
      by : (t : Bool) → is_eq (key_cmp j k) ≡ t → has_name j.name (names_at (key_of p j.owner) fs) ≡ is_granted_at p (find (is_row j) (regranted_rows k gs rows))
      by false e = stays p j e ∙ kept p j ∙ ap (is_granted_at p) (sym (row_elsewhere k gs rows j e))
      by true e =
          let at : j ≡ k = key_is j k true e refl in
          ap (λ (i : Key). has_name i.name (names_at (key_of p i.owner) fs)) at
          ∙ stands p
          ∙ ap (is_granted_at p) (ap (option_map (λ (y : GroupRow). record y { grants = gs })) (sym there) ∙ sym (row_there k gs rows))
          ∙ ap (λ i. is_granted_at p (find (is_row i) (regranted_rows k gs rows))) (sym at)

-- ---- one partner's part

pub any_found : {X : Type 0} (q r : X → Bool) (xs : List X) (x : X) → find q xs ≡ Some x → r x ≡ true → list_any r xs ≡ true
any_found q r [] x found holds = cc
any_found {X = X} q r (y ∷ ys) x found holds = by (q y) refl found (any_found q r ys x)
  where
    by : (t : Bool) → q y ≡ t → (if t then Some y else find q ys) ≡ Some x → (find q ys ≡ Some x → r x ≡ true → list_any r ys ≡ true) → (r y || list_any r ys) ≡ true
    by true e f rest = let same : y ≡ x = cc in ap (λ t. t || list_any r ys) (ap r same ∙ holds)
    by false e f rest = ap (λ t. r y || t) (rest f holds) ∙ or_true (r y)

pub tells_whole : (p : Text) (es : List Names) (gs : List GroupRow) → KeepsGranted es gs → TellsGranted p (granted_of p es) gs
tells_whole p es gs kept k g found granted = by (find (is_entry (key_of p k.owner)) es) refl
  where
    has : has_name k.name (names_at (key_of p k.owner) es) ≡ true
    has = kept p k ∙ ap (is_granted_at p) found ∙ granted

    his : (x : Names) → is_entry (key_of p k.owner) x ≡ true → bytes_eq x.key.owner p ≡ true
    his x at = ap (λ (i : Key). bytes_eq i.owner p) (entry_at (key_of p k.owner) x at) ∙ itself p

    by : (o : Option Names) → find (is_entry (key_of p k.owner)) es ≡ o → list_any (tells k) (granted_of p es) ≡ true
    by None e = let none : false ≡ true = sym (ap (λ o. has_name k.name (value_of o)) e) ∙ has in absurd (false≢true none)
    by (Some x) e =
        let there = find-kept (is_entry (key_of p k.owner)) (λ y. bytes_eq y.key.owner p) his es ∙ e in
        let at : entry_key x ≡ (key_of p k.owner) = entry_at (key_of p k.owner) x (found_at (is_entry (key_of p k.owner)) es x e) in
        let owner : bytes_eq x.key.name k.owner ≡ true = ap (λ (i : Key). bytes_eq i.name k.owner) at ∙ itself k.owner in
        let name : has_name k.name x.value ≡ true = ap (λ o. has_name k.name (value_of o)) (sym e) ∙ has in
        any_found (is_entry (key_of p k.owner)) (tells k) (granted_of p es) x there (λ i. owner i && name i)
