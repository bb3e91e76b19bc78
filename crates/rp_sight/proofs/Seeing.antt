-- What a partner sees through groups, he sees through those that he is granted.
use Rattle.std.proofs.Common.{◌≡◌, ℕ, zero, suc, ◌<◌, ◌+◌, Bool, true, false, ◌&&◌, ◌||◌, cond, List, [], ◌∷◌, ◌++◌, length, get_or, take, map, arith, Option, Some, None, refl, sym, ◌∙◌, ap, subst}
use Rattle.std.specs.Prelude.{filter, if◌then◌else◌}
use Rattle.std.proofs.lemmas.List.Elements.{filter_more}
use Rattle.sorted_tables.proofs.Tables.{map-append}
use Rattle.std.specs.List.{find, list_any, AllByRecursion}
use Rattle.std.specs.Str.{bytes_eq}
use Rattle.std.specs.declared.cmp.Ordering.{Ordering}
use Rattle.std.specs.declared.cmp.Ordering.TheVariants.{Less, Equal, Greater}
use Rattle.std.specs.Ordering.{is_eq, is_gt, ordering_reverse}
use Rattle.std.proofs.lemmas.Bool.{false≢true, and_parts}
use Rattle.std.proofs.lemmas.Slice.Eq.{bytes_eq-Decides}
use Rattle.std.proofs.lemmas.Cmp.{tied_itself}
use Rattle.sorted_tables.specs.Table.{IsAscending}
use Rattle.rp_rows.specs.declared.rows.Grant.{Grant}
use Rattle.rp_rows.specs.declared.rows.Right.{Right}
use Rattle.rp_rows.specs.declared.rows.Right.TheVariants.{Reads, Owns}
use Rattle.rp_rows.specs.declared.rows.Key.{Key}
use Rattle.rp_rows.specs.Rows.{Text, key_cmp, same_key, row_key, is_row, Model, GroupRow, key_of}
use Rattle.rp_rows.specs.Sight.{is_grant_to, is_group_grant, is_granted, owns, may_group, sees_group, lists, counts, is_counted, granted_right, level, at_least, sees}
use Rattle.rp_rows.proofs.Keys.{key_total}
use Rattle.rp_sight.specs.Seen.{level_by, seen_model}
use Rattle.rp_sight.specs.Granted.{Names, has_name, tells, TellsGranted, shows, counts_under, counts_in_any}
use Rattle.rp_listers.specs.Kept.{KeptListers, number_of, first_at, others_at, is_first, has_key, tells as is_told}
use Rattle.rp_listers.proofs.Among.{same_is}
use Rattle.rp_sight.specs.Told.{KeepsListed, shows_at, shows_first, counts_told}
use Rattle.rp_sight.proofs.Names.{any_found}
use Rattle.rp_sight.proofs.Told.{told_member}

-- ---- tests of lists

any_weaker : {X : Type 0} (p q : X → Bool) → ((x : X) → p x ≡ true → q x ≡ true) → (xs : List X) → list_any p xs ≡ true → list_any q xs ≡ true
any_weaker p q weaker [] h = h
any_weaker {X = X} p q weaker (x ∷ xs) h = by (any_weaker p q weaker xs) (p x) refl (q x) refl h
  where
    by : (list_any p xs ≡ true → list_any q xs ≡ true) → (t : Bool) → p x ≡ t → (u : Bool) → q x ≡ u → (t || list_any p xs) ≡ true → (u || list_any q xs) ≡ true
    by rest t e true f g = refl
    by rest true e false f g = absurd (false≢true (sym f ∙ weaker x e))
    by rest false e false f g = rest g

any_to : {X : Type 0} (p : X → Bool) (b : Bool) → ((x : X) → p x ≡ true → b ≡ true) → (xs : List X) → list_any p xs ≡ true → b ≡ true
any_to p b to [] h = absurd (false≢true h)
any_to {X = X} p b to (x ∷ xs) h = by (any_to p b to xs) (p x) refl h
  where
    by : (list_any p xs ≡ true → b ≡ true) → (t : Bool) → p x ≡ t → (t || list_any p xs) ≡ true → b ≡ true
    by rest true e g = to x e
    by rest false e g = rest g

all_found : {X : Type 0} (P : X → Type 0) (q : X → Bool) (xs : List X) (x : X) → find q xs ≡ Some x → AllByRecursion P xs → P x
all_found P q [] x found all = cc
all_found {X = X} P q (y ∷ ys) x found all = by (λ e. all_found P q ys x e all.1) (q y) found
  where
    by : (find q ys ≡ Some x → P x) → (t : Bool) → (if t then Some y else find q ys) ≡ Some x → P x
    by rest true e = let same : y ≡ x = cc in subst P same all.0
    by rest false e = rest e

-- of a list in order each element that passes is found under its key
any_row : (q : GroupRow → Bool) (b : Bool) (gs : List GroupRow) → IsAscending key_cmp row_key gs → ((g : GroupRow) → q g ≡ true → find (is_row (row_key g)) gs ≡ Some g → b ≡ true) → list_any q gs ≡ true → b ≡ true
any_row q b [] order to h = absurd (false≢true h)
any_row q b (g ∷ gs) order to h = by (any_row q b gs order.1) (q g) refl h
  where
    here : find (is_row (row_key g)) (g ∷ gs) ≡ Some g
    here = rw (ap is_eq (tied_itself key_total (row_key g))) refl

    later : (x : GroupRow) → find (is_row (row_key x)) gs ≡ Some x → find (is_row (row_key x)) (g ∷ gs) ≡ Some x
    later x found = rw (apart (key_cmp (row_key g) (row_key x)) refl) found
      where
        after : is_gt (key_cmp (row_key x) (row_key g)) ≡ true
        after = all_found (λ y. is_gt (key_cmp (row_key y) (row_key g)) ≡ true) (is_row (row_key x)) gs x found order.0

        apart : (t : Ordering) → key_cmp (row_key g) (row_key x) ≡ t → is_row (row_key x) g ≡ false
        apart Less e = ap is_eq e
        apart Equal e =
            let turned : key_cmp (row_key x) (row_key g) ≡ Equal = key_total.antisymm (row_key x) (row_key g) ∙ ap ordering_reverse e in
            absurd (false≢true (sym (ap is_gt turned) ∙ after))
        apart Greater e = ap is_eq e

    by : (((x : GroupRow) → q x ≡ true → find (is_row (row_key x)) gs ≡ Some x → b ≡ true) → list_any q gs ≡ true → b ≡ true) → (t : Bool) → q g ≡ t → (t || list_any q gs) ≡ true → b ≡ true
    by rest true e f = to g e here
    by rest false e f = rest (λ x passes found. to x passes (later x found)) f

both : (a b : Bool) → (a ≡ true → b ≡ true) → (b ≡ true → a ≡ true) → a ≡ b
both true b f g = sym (f refl)
both false true f g = g refl
both false false f g = refl

either : (a b r : Bool) → (a ≡ true → r ≡ true) → (b ≡ true → r ≡ true) → (a || b) ≡ true → r ≡ true
either true b r f g h = f refl
either false b r f g h = g h

-- ---- groups of one's own

group_grants : (c : Text) (gs : List Grant) → find (is_grant_to c) gs ≡ None → list_any (is_group_grant c) gs ≡ false
group_grants c [] none = refl
group_grants c (x ∷ gs) none = by (group_grants c gs) (is_grant_to c x) refl none
  where
    by : (find (is_grant_to c) gs ≡ None → list_any (is_group_grant c) gs ≡ false) → (t : Bool) → is_grant_to c x ≡ t → (if t then Some x else find (is_grant_to c) gs) ≡ None → list_any (is_group_grant c) (x ∷ gs) ≡ false
    by rest true e f = cc
    by rest false e f = rw e (rest f)

module _ (c : Text) (m : Model) (own : owns c m ≡ false) (none : find (is_grant_to c) m.grants ≡ None) where
  -- nothing counts there but what is the owner's or granted to him
  not_his : (g : GroupRow) → counts m g ≡ true → owns c g ≡ true → false ≡ true
  not_his g counted his =
      let who : g.owner ≡ c = (bytes_eq-Decides g.owner c).0 his in
      let may = (and_parts (bytes_eq m.holds.schema g.holds.schema) (may_group g.owner m) (and_parts (lists (row_key m) g) (bytes_eq m.holds.schema g.holds.schema && may_group g.owner m) counted).1).1 in
      sym (λ i. own i || group_grants c m.grants none i) ∙ ap (λ p. may_group p m) (sym who) ∙ may

  granted_there : (g : GroupRow) → (sees_group c g && counts m g) ≡ true → (is_granted c g && counts m g) ≡ true
  granted_there g h = by (owns c g) refl (is_granted c g) refl h
    where
      by : (t : Bool) → owns c g ≡ t → (u : Bool) → is_granted c g ≡ u → ((t || u) && counts m g) ≡ true → (u && counts m g) ≡ true
      by true e u f h = absurd (false≢true (not_his g h e))
      by false e u f h = h

  seen_there : (g : GroupRow) → (is_granted c g && counts m g) ≡ true → (sees_group c g && counts m g) ≡ true
  seen_there g h = by (owns c g) (is_granted c g) h
    where
      by : (t u : Bool) → (u && counts m g) ≡ true → ((t || u) && counts m g) ≡ true
      by true true h = h
      by true false h = absurd (false≢true h)
      by false u h = h

  shown : (gs : List GroupRow) (o : Option GroupRow) (k : Key) → find (is_row k) gs ≡ o → shows c m o ≡ true → is_counted gs c m ≡ true
  shown gs None k found h = absurd (false≢true h)
  shown gs (Some g) k found h = any_found (is_row k) (λ x. sees_group c x && counts m x) gs g found (seen_there g h)

  named : (gs : List GroupRow) (g : GroupRow) (e : Names) → find (is_row (row_key g)) gs ≡ Some g → (is_granted c g && counts m g) ≡ true → tells (row_key g) e ≡ true → counts_under c gs e m ≡ true
  named gs g e found h told =
      let parts = and_parts (bytes_eq e.key.name g.owner) (has_name g.name e.value) told in
      let owner : e.key.name ≡ g.owner = (bytes_eq-Decides e.key.name g.owner).0 parts.0 in
      any_weaker (λ n. bytes_eq n g.name) (λ n. shows c m (find (is_row (key_of e.key.name n)) gs))
      (λ n is. ap (λ (k : Key). shows c m (find (is_row k) gs)) (λ i. key_of (owner i) ((bytes_eq-Decides n g.name).0 is i)) ∙ ap (shows c m) found ∙ h)
      e.value parts.1

  -- told by the groups that c is granted
  pub counted_known : (gs : List GroupRow) (es : List Names) → IsAscending key_cmp row_key gs → TellsGranted c es gs → counts_in_any c gs es m ≡ is_counted gs c m
  counted_known gs es order whole = both (counts_in_any c gs es m) (is_counted gs c m) forth back
    where
      forth : counts_in_any c gs es m ≡ true → is_counted gs c m ≡ true
      forth = any_to (λ e. counts_under c gs e m) (is_counted gs c m) (λ e. any_to (λ n. shows c m (find (is_row (key_of e.key.name n)) gs)) (is_counted gs c m) (λ n. shown gs (find (is_row (key_of e.key.name n)) gs) (key_of e.key.name n) refl) e.value) es

      back : is_counted gs c m ≡ true → counts_in_any c gs es m ≡ true
      back = any_row (λ g. sees_group c g && counts m g) (counts_in_any c gs es m) gs order
          (λ g h found. let granted = granted_there g h in
          any_weaker (tells (row_key g)) (λ e. counts_under c gs e m) (λ e. named gs g e found granted) es
          (whole (row_key g) g found (and_parts (is_granted c g) (counts m g) granted).0))

  -- ---- and by those that may list the model

  told_shows : (gs : List GroupRow) (listers : KeptListers) (k : Key) → is_told k (row_key m) listers ≡ true → shows_at c gs m k ≡ true → counts_told c gs listers m ≡ true
  told_shows gs listers k told shown_there =
      let n = number_of (row_key m) in
      either (is_first k (first_at n listers.firsts)) (has_key k (others_at n listers.others)) (counts_told c gs listers m)
      (first (first_at n listers.firsts)) rest told
    where
      first : (o : Option Key) → is_first k o ≡ true → (shows_first c gs m o || list_any (shows_at c gs m) (others_at (number_of (row_key m)) listers.others)) ≡ true
      first None is = absurd (false≢true is)
      first (Some j) is = ap (λ t. t || list_any (shows_at c gs m) (others_at (number_of (row_key m)) listers.others)) (ap (shows_at c gs m) (same_is k j is) ∙ shown_there)

      rest : has_key k (others_at (number_of (row_key m)) listers.others) ≡ true → counts_told c gs listers m ≡ true
      rest has =
          or_right (shows_first c gs m (first_at (number_of (row_key m)) listers.firsts))
          (any_weaker (same_key k) (shows_at c gs m) (λ j is. ap (shows_at c gs m) (same_is k j is) ∙ shown_there) (others_at (number_of (row_key m)) listers.others) has)
        where
          or_right : (t : Bool) {u : Bool} → u ≡ true → (t || u) ≡ true
          or_right true e = refl
          or_right false e = e

  pub counted_told : (gs : List GroupRow) (listers : KeptListers) → IsAscending key_cmp row_key gs → KeepsListed listers gs → counts_told c gs listers m ≡ is_counted gs c m
  counted_told gs listers order whole = both (counts_told c gs listers m) (is_counted gs c m) forth back
    where
      one : (o : Option Key) → shows_first c gs m o ≡ true → is_counted gs c m ≡ true
      one None h = absurd (false≢true h)
      one (Some k) h = shown gs (find (is_row k) gs) k refl h

      forth : counts_told c gs listers m ≡ true → is_counted gs c m ≡ true
      forth =
          let n = number_of (row_key m) in
          either (shows_first c gs m (first_at n listers.firsts)) (list_any (shows_at c gs m) (others_at n listers.others)) (is_counted gs c m)
          (one (first_at n listers.firsts))
          (any_to (shows_at c gs m) (is_counted gs c m) (λ k. shown gs (find (is_row k) gs) k refl) (others_at n listers.others))

      back : is_counted gs c m ≡ true → counts_told c gs listers m ≡ true
      back = any_row (λ g. sees_group c g && counts m g) (counts_told c gs listers m) gs order
          (λ g h found.
          let granted = granted_there g h in
          let counted = (and_parts (is_granted c g) (counts m g) granted).1 in
          let listed = (and_parts (lists (row_key m) g) (bytes_eq m.holds.schema g.holds.schema && may_group g.owner m) counted).0 in
          told_shows gs listers (row_key g) (told_member (row_key g) (row_key m) g.holds.members listers (whole (row_key g) g found) listed) (ap (shows c m) found ∙ granted))

-- the level on a model, by the groups that c is granted
pub level_known : (c : Text) (m : Model) (gs : List GroupRow) (es : List Names) → IsAscending key_cmp row_key gs → TellsGranted c es gs
    → (if owns c m then Owns else granted_right (find (is_grant_to c) m.grants) (counts_in_any c gs es m)) ≡ level gs c m
level_known c m gs es order whole = by (owns c m) refl (find (is_grant_to c) m.grants) refl
  where
    by : (t : Bool) → owns c m ≡ t → (o : Option Grant) → find (is_grant_to c) m.grants ≡ o → (if t then Owns else granted_right o (counts_in_any c gs es m)) ≡ (if t then Owns else granted_right o (is_counted gs c m))
    by true e o f = refl
    by false e (Some x) f = refl
    by false e None f = ap (granted_right None) (counted_known c m e f gs es order whole)

-- ---- models that are seen, one after another

get-map : {X Y : Type 0} (f : X → Y) (xs : List X) (i : ℕ) (x : X) (y : Y) → i < length xs → get_or (map f xs) i y ≡ f (get_or xs i x)
get-map f [] i x y h = absurd (omega arith)
get-map f (z ∷ xs) zero x y h = refl
get-map f (z ∷ xs) (suc i) x y h = get-map f xs i x y (omega arith)

-- the level on the model beside a mark
pub level_marked : (c : Text) (gs : List GroupRow) (es : List Names) (ms : List Model) (marks : List Bool) (i : ℕ) (m : Model) (t : Bool) → IsAscending key_cmp row_key gs → TellsGranted c es gs
    → marks ≡ map (counts_in_any c gs es) ms → i < length ms → get_or ms i m ≡ m → t ≡ get_or marks i t → level_by c m t ≡ level gs c m
level_marked c gs es ms marks i m t order whole are within here at =
    let mark : t ≡ counts_in_any c gs es m = at ∙ ap (λ ts. get_or ts i t) are ∙ get-map (counts_in_any c gs es) ms i m t within ∙ ap (counts_in_any c gs es) here in
    ap (level_by c m) mark ∙ level_known c m gs es order whole

pub seen_more : (c : Text) (gs : List GroupRow) (ms : List Model) (i : ℕ) (m : Model) (r : Right) (old new : List (Model × Right)) → i < length ms → get_or ms i m ≡ m → r ≡ level gs c m
    → old ≡ map (seen_model gs c) (filter (sees gs c) (take i ms)) → new ≡ old ++ (if at_least Reads r then (m, r) ∷ [] else []) → new ≡ map (seen_model gs c) (filter (sees gs c) (take (i + 1) ms))
seen_more c gs ms i m r old new within here is were are =
    are
    ∙ (λ j. were j ++ (if at_least Reads (is j) then (m, is j) ∷ [] else []))
    ∙ one (sees gs c m)
    ∙ sym (map-append (seen_model gs c) (filter (sees gs c) (take i ms)) (cond (sees gs c m) (m ∷ []) []))
    ∙ ap (map (seen_model gs c)) ((λ j. filter (sees gs c) (take i ms) ++ cond (sees gs c (sym here j)) (sym here j ∷ []) []) ∙ sym (filter_more (sees gs c) ms i m within))
  where
    one : (t : Bool) → map (seen_model gs c) (filter (sees gs c) (take i ms)) ++ (if t then (m, level gs c m) ∷ [] else []) ≡ map (seen_model gs c) (filter (sees gs c) (take i ms)) ++ map (seen_model gs c) (cond t (m ∷ []) [])
    one true = refl
    one false = refl
