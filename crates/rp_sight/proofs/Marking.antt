-- Marks beside models.
use Rattle.std.proofs.lemmas.List.Folds.{list_any-append}
use Rattle.std.proofs.Common.{◌≡◌, ℕ, zero, suc, ◌<◌, Bool, true, false, ◌&&◌, ◌||◌, List, [], ◌∷◌, ◌++◌, ◌+◌, ◌≤◌, length, set, get_or, drop, map, replicate, Option, Some, None, Result, Ok, Err, OnOk, refl, sym, ◌∙◌, ap, arith}
use Rattle.std.specs.Prelude.{filter, if◌then◌else◌}
use Rattle.std.specs.List.{find, list_any, AllByRecursion}
use Rattle.std.specs.declared.cmp.Ordering.{Ordering}
use Rattle.std.specs.declared.cmp.Ordering.TheVariants.{Less, Equal, Greater}
use Rattle.std.specs.Ordering.{is_lt, is_eq, is_gt}
use Rattle.sorted_tables.specs.Table.{is_before, IsAscending}
use Rattle.sorted_tables.proofs.Ascending.{follows_all, none_before, none_there}
use Rattle.sorted_tables.specs.Places.{IsThere}
use Rattle.sorted_tables.proofs.Finding.{found_is}
use Rattle.rp_rows.specs.declared.rows.Key.{Key}
use Rattle.rp_rows.specs.Rows.{key_cmp, row_key, is_row, Model, GroupRow}
use Rattle.rp_rows.specs.Sight.{counts}
use Rattle.rp_rows.proofs.Keys.{key_total}
use Rattle.rp_rows.specs.Rows.{Text}
use Rattle.rp_rows.specs.Sight.{is_granted}
use Rattle.rp_sight.specs.Granted.{shows}
use Rattle.rp_sight.specs.Kept.{marked, unmarked as none_marked}
use Rattle.rp_sight.specs.Listed.{fits}
use Rattle.rp_sight.proofs.Counted.{listed_fits}

-- of a call that succeeds, where one thing makes another
pub on_ok : {T E P Q : Type 0} (r : Result T E) → OnOk r P → (P → Q) → OnOk r Q
on_ok (Ok x) p next = next p
on_ok (Err e) p next = tt

or_false : (t : Bool) → (t || false) ≡ t
or_false true = refl
or_false false = refl

pub length-marked : (b : Model → Bool) (ts : List Bool) (ms : List Model) → length ts ≡ length ms → length (marked b ts ms) ≡ length ts
length-marked b [] ms same = refl
length-marked b (t ∷ ts) [] same = refl
length-marked b (t ∷ ts) (m ∷ ms) same = ap suc (length-marked b ts ms (omega arith))

-- one test after another, and tests that say the same
pub marked_twice : (a b : Model → Bool) (ts : List Bool) (ms : List Model) → marked b (marked a ts ms) ms ≡ marked (λ m. a m || b m) ts ms
marked_twice a b [] ms = refl
marked_twice a b (t ∷ ts) [] = refl
marked_twice a b (t ∷ ts) (m ∷ ms) = λ i. or_assoc t (a m) (b m) i ∷ marked_twice a b ts ms i
  where
    or_assoc : (x y z : Bool) → ((x || y) || z) ≡ (x || (y || z))
    or_assoc true y z = refl
    or_assoc false y z = refl

pub marked_alike : (a b : Model → Bool) → ((m : Model) → a m ≡ b m) → (ts : List Bool) (ms : List Model) → marked a ts ms ≡ marked b ts ms
marked_alike a b same [] ms = refl
marked_alike a b same (t ∷ ts) [] = refl
marked_alike a b same (t ∷ ts) (m ∷ ms) = λ i. (t || same m i) ∷ marked_alike a b same ts ms i

-- a test that no model passes marks none
pub marked_none : (b : Model → Bool) (ts : List Bool) (ms : List Model) → AllByRecursion (λ m. b m ≡ false) ms → marked b ts ms ≡ ts
marked_none b [] ms none = refl
marked_none b (t ∷ ts) [] none = refl
marked_none b (t ∷ ts) (m ∷ ms) none = (λ i. (t || none.0 i) ∷ marked_none b ts ms none.1 i) ∙ ap (λ u. u ∷ ts) (or_false t)

pub marked_never : (ts : List Bool) (ms : List Model) → marked (λ m. false) ts ms ≡ ts
marked_never [] ms = refl
marked_never (t ∷ ts) [] = refl
marked_never (t ∷ ts) (m ∷ ms) = λ i. or_false t i ∷ marked_never ts ms i

-- ---- the model of a key

abbrev pub at_key : Key → (Model → Bool) → Model → Bool
at_key k b m = is_row k m && b m

later_apart : (k : Key) (b : Model → Bool) (ms : List Model) → AllByRecursion (λ y. is_gt (key_cmp (row_key y) k) ≡ true) ms → AllByRecursion (λ m. at_key k b m ≡ false) ms
later_apart k b [] all = tt
later_apart k b (m ∷ ms) all = (apart (key_cmp (row_key m) k) refl all.0, later_apart k b ms all.1)
  where
    apart : (t : Ordering) → key_cmp (row_key m) k ≡ t → is_gt t ≡ true → at_key k b m ≡ false
    apart Less e h = cc
    apart Equal e h = cc
    apart Greater e h = rw (ap is_eq e) refl

-- its mark is set where it passes
pub marked_there : (k : Key) (b : Model → Bool) (ts : List Bool) (ms : List Model) (x : Model) → length ts ≡ length ms → IsAscending key_cmp row_key ms → find (is_row k) ms ≡ Some x → b x ≡ true
    → set ts (length (filter (is_before key_cmp row_key k) ms)) true ≡ marked (at_key k b) ts ms
marked_there k b ts [] x same order found holds = cc
marked_there k b [] (m ∷ ms) x same order found holds = absurd (omega arith)
marked_there k b (t ∷ ts) (m ∷ ms) x same order found holds = by (λ f. marked_there k b ts ms x (omega arith) order.1 f holds) (key_cmp (row_key m) k) refl
  where
    by : (find (is_row k) ms ≡ Some x → set ts (length (filter (is_before key_cmp row_key k) ms)) true ≡ marked (at_key k b) ts ms) → (u : Ordering) → key_cmp (row_key m) k ≡ u
        → set (t ∷ ts) (length (filter (is_before key_cmp row_key k) (m ∷ ms))) true ≡ marked (at_key k b) (t ∷ ts) (m ∷ ms)
    by rest Less e = rw (ap is_lt e, ap is_eq e) (λ i. sym (or_false t) i ∷ rest (rw (ap is_eq e) at found) i)
    by rest Equal e =
        let later = follows_all key_cmp row_key key_total k (row_key m) ms (ap is_lt e) order.0 in
        let here : m ≡ x = some_is (rw (ap is_eq e) at found) in
        rw (ap is_lt e, ap is_eq e, none_before key_cmp row_key key_total k ms later) (λ i. sym (or_true t ∙ refl) i ∷ sym (marked_none (at_key k b) ts ms (later_apart k b ms later)) i)
      where
        some_is : Some m ≡ Some x → m ≡ x
        some_is h = cc

        or_true : (u : Bool) → (u || b m) ≡ true
        or_true true = refl
        or_true false = ap b (some_is (rw (ap is_eq e) at found)) ∙ holds
    by rest Greater e =
        let later = follows_all key_cmp row_key key_total k (row_key m) ms (ap is_lt e) order.0 in
        let none = none_there key_cmp row_key key_total k ms later in
        let wrong : None ≡ Some x = sym none ∙ rw (ap is_eq e) at found in
        cc

-- and nothing is marked where it fails, or where there is none
all_unmarked : (k : Key) (b : Model → Bool) (ms : List Model) → IsAscending key_cmp row_key ms → ((x : Model) → find (is_row k) ms ≡ Some x → b x ≡ false) → AllByRecursion (λ m. at_key k b m ≡ false) ms
all_unmarked k b [] order fails = tt
all_unmarked k b (m ∷ ms) order fails = (first (is_row k m) refl, rest (all_unmarked k b ms order.1) (key_cmp (row_key m) k) refl)
  where
    first : (t : Bool) → is_row k m ≡ t → at_key k b m ≡ false
    first true e = rw e (fails m (rw e refl))
    first false e = rw e refl

    rest : (((x : Model) → find (is_row k) ms ≡ Some x → b x ≡ false) → AllByRecursion (λ y. at_key k b y ≡ false) ms) → (t : Ordering) → key_cmp (row_key m) k ≡ t → AllByRecursion (λ y. at_key k b y ≡ false) ms
    rest others Less e = others (λ x found. fails x (rw (ap is_eq e) found))
    rest others Equal e = later_apart k b ms (follows_all key_cmp row_key key_total k (row_key m) ms (ap is_lt e) order.0)
    rest others Greater e = later_apart k b ms (follows_all key_cmp row_key key_total k (row_key m) ms (ap is_lt e) order.0)

pub unmarked : (k : Key) (b : Model → Bool) (ts : List Bool) (ms : List Model) → IsAscending key_cmp row_key ms → ((x : Model) → find (is_row k) ms ≡ Some x → b x ≡ false) → ts ≡ marked (at_key k b) ts ms
unmarked k b ts ms order fails = sym (marked_none (at_key k b) ts ms (all_unmarked k b ms order fails))

-- ---- the same, where this is its place

there_is : (k : Key) (ms : List Model) (i : ℕ) (x : Model) → IsThere key_cmp row_key k ms i → get_or ms i x ≡ x → find (is_row k) ms ≡ Some x
there_is k ms i x there here = found_is key_cmp row_key key_total k ms i x there here

pub marked_at : (k : Key) (b : Model → Bool) (ts : List Bool) (ms : List Model) (i : ℕ) (x : Model) → length ts ≡ length ms → IsThere key_cmp row_key k ms i → get_or ms i x ≡ x → b x ≡ true → set ts i true ≡ marked (at_key k b) ts ms
marked_at k b ts ms i x same there here holds = ap (λ n. set ts n true) there.is ∙ marked_there k b ts ms x same there.order (there_is k ms i x there here) holds

pub unmarked_at : (k : Key) (b : Model → Bool) (ts : List Bool) (ms : List Model) (i : ℕ) (x : Model) → IsThere key_cmp row_key k ms i → get_or ms i x ≡ x → b x ≡ false → ts ≡ marked (at_key k b) ts ms
unmarked_at k b ts ms i x there here fails =
    unmarked k b ts ms there.order (λ y found. let same : x ≡ y = some_is x y (sym (there_is k ms i x there here) ∙ found) in ap b (sym same) ∙ fails)
  where
    some_is : (y z : Model) → Some y ≡ Some z → y ≡ z
    some_is y z h = cc

none_at : (k : Key) (b : Model → Bool) (ms : List Model) → find (is_row k) ms ≡ None → AllByRecursion (λ m. at_key k b m ≡ false) ms
none_at k b [] none = tt
none_at k b (m ∷ ms) none = by (none_at k b ms) (is_row k m) refl none
  where
    by : (find (is_row k) ms ≡ None → AllByRecursion (λ y. at_key k b y ≡ false) ms) → (t : Bool) → is_row k m ≡ t → (if t then Some m else find (is_row k) ms) ≡ None → (at_key k b m ≡ false) × AllByRecursion (λ y. at_key k b y ≡ false) ms
    by rest true e f = cc
    by rest false e f = (rw e refl, rest f)

pub unmarked_none : (k : Key) (b : Model → Bool) (ts : List Bool) (ms : List Model) → find (is_row k) ms ≡ None → ts ≡ marked (at_key k b) ts ms
unmarked_none k b ts ms none = sym (marked_none (at_key k b) ts ms (none_at k b ms none))

-- ---- one thing after another

-- a model passes a test of one of some things
abbrev pub any_of : {X : Type 0} → (X → Model → Bool) → List X → Model → Bool
any_of t xs m = list_any (λ x. t x m) xs

-- what is marked once those that are left have marked as well is what all mark
pub record IsMarking {X : Type 0} (t : X → Model → Bool) (ms : List Model) (before now : List Bool) (xs left : List X) : Type 0 where
  pub long : length now ≡ length ms
  pub marks : marked (any_of t left) now ms ≡ marked (any_of t xs) before ms

pub more : {X : Type 0} (t : X → Model → Bool) (ms : List Model) (before now next : List Bool) (x : X) (xs left rest : List X) → IsMarking t ms before now xs left → left ≡ x ∷ rest → next ≡ marked (t x) now ms → IsMarking t ms before next xs rest
more t ms before now next x xs left rest is same are =
    record {
      long = ap length are ∙ length-marked (t x) now ms is.long ∙ is.long;
      marks =
          ap (λ ts. marked (any_of t rest) ts ms) are
          ∙ marked_twice (t x) (any_of t rest) now ms
          ∙ ap (λ ys. marked (any_of t ys) now ms) (sym same)
          ∙ is.marks;
    }

pub end : {X : Type 0} (t : X → Model → Bool) (ms : List Model) (before now : List Bool) (xs left : List X) → IsMarking t ms before now xs left → left ≡ [] → now ≡ marked (any_of t xs) before ms
end t ms before now xs left is none =
    sym (marked_never now ms) ∙ ap (λ ys. marked (any_of t ys) now ms) (sym none) ∙ is.marks

-- what counts in a group is one of its members
members_count : (ks : List Key) (m : Model) (u : Bool) → list_any (λ k. is_row k m && u) ks ≡ (list_any (λ k. is_row k m) ks && u)
members_count ks m true = by ks
  where
    by : (js : List Key) → list_any (λ k. is_row k m && true) js ≡ (list_any (λ k. is_row k m) js && true)
    by js = and_true (list_any (λ k. is_row k m && true) js) ∙ ap (λ t. t && true) (each js)
      where
        and_true : (t : Bool) → t ≡ (t && true)
        and_true true = refl
        and_true false = refl

        each : (is : List Key) → list_any (λ k. is_row k m && true) is ≡ list_any (λ k. is_row k m) is
        each [] = refl
        each (i ∷ is) = λ h. sym (and_true (is_row i m)) h || each is h
members_count ks m false = none ks ∙ sym (and_false (list_any (λ k. is_row k m) ks))
  where
    and_false : (t : Bool) → (t && false) ≡ false
    and_false true = refl
    and_false false = refl

    none : (js : List Key) → list_any (λ k. is_row k m && false) js ≡ false
    none [] = refl
    none (j ∷ js) = (λ h. and_false (is_row j m) h || none js h)

pub marks_members : (g : GroupRow) (ts : List Bool) (ms : List Model) → marked (any_of (λ k. at_key k (fits g)) g.holds.members) ts ms ≡ marked (λ m. counts m g) ts ms
marks_members g ts ms = marked_alike (any_of (λ k. at_key k (fits g)) g.holds.members) (λ m. counts m g) (λ m. members_count g.holds.members m (fits g m) ∙ listed_fits g m) ts ms

pub drop_more : {X : Type 0} (xs : List X) (i : ℕ) (d : X) → i < length xs → drop i xs ≡ get_or xs i d ∷ drop (suc i) xs
drop_more [] i d h = absurd (omega arith)
drop_more (x ∷ xs) zero d h = refl
drop_more (x ∷ xs) (suc i) d h = drop_more xs i d (omega arith)

pub drop_past : {X : Type 0} (xs : List X) (i : ℕ) → length xs ≤ i → drop i xs ≡ []
drop_past [] zero h = refl
drop_past [] (suc i) h = refl
drop_past (x ∷ xs) zero h = absurd (omega arith)
drop_past (x ∷ xs) (suc i) h = drop_past xs i (omega arith)

-- what is left from a place on begins with what stands there
pub left_from : {X : Type 0} (xs : List X) (i : ℕ) (x : X) → i < length xs → x ≡ get_or xs i x → drop i xs ≡ x ∷ drop (i + 1) xs
left_from xs i x within is =
    let one : suc i ≡ i + 1 = omega arith in
    drop_more xs i x within ∙ (λ j. sym is j ∷ drop (one j) xs)

-- a loop over things, from its first turn to its last
pub turn : {X : Type 0} (t : X → Model → Bool) (ms : List Model) (before now next : List Bool) (xs : List X) (i : ℕ) (x : X) → IsMarking t ms before now xs (drop i xs) → i < length xs → get_or xs i x ≡ x → next ≡ marked (t x) now ms → IsMarking t ms before next xs (drop (i + 1) xs)
turn t ms before now next xs i x is within here are =
    let one : suc i ≡ i + 1 = omega arith in
    more t ms before now next x xs (drop i xs) (drop (i + 1) xs) is (drop_more xs i x within ∙ (λ j. here j ∷ drop (one j) xs)) are

pub done : {X : Type 0} (t : X → Model → Bool) (ms : List Model) (before now : List Bool) (xs : List X) (i : ℕ) → IsMarking t ms before now xs (drop i xs) → length xs ≤ i → now ≡ marked (any_of t xs) before ms
done t ms before now xs i is past = end t ms before now xs (drop i xs) is (drop_past xs i past)

-- what is marked beside nothing is each model that passes
pub marked_new : (b : Model → Bool) (ms : List Model) → marked b (none_marked ms) ms ≡ map b ms
marked_new b [] = refl
marked_new b (m ∷ ms) = ap (λ ts. b m ∷ ts) (marked_new b ms)

pub shown_marks : (c : Text) (o : Option GroupRow) (g : GroupRow) (t : Bool) (ts : List Bool) (ms : List Model) → o ≡ Some g → is_granted c g ≡ t → marked (λ m. shows c m o) ts ms ≡ marked (λ m. t && counts m g) ts ms
shown_marks c o g t ts ms found is = marked_alike (λ m. shows c m o) (λ m. t && counts m g) (λ m. ap (shows c m) found ∙ ap (λ u. u && counts m g) is) ts ms

pub no_marks : (c : Text) (o : Option GroupRow) (ts : List Bool) (ms : List Model) → o ≡ None → ts ≡ marked (λ m. shows c m o) ts ms
no_marks c o ts ms none = sym (marked_alike (λ m. shows c m o) (λ m. false) (λ m. ap (shows c m) none) ts ms ∙ marked_never ts ms)

pub false_marks : (g : GroupRow) (ts : List Bool) (ms : List Model) → marked (λ m. false && counts m g) ts ms ≡ ts
false_marks g ts ms = marked_never ts ms

marks_of : (ms : List Model) → replicate (length ms) false ≡ none_marked ms
marks_of [] = refl
marks_of (m ∷ ms) = ap (λ ts. false ∷ ts) (marks_of ms)

length-none : (ms : List Model) → length (none_marked ms) ≡ length ms
length-none [] = refl
length-none (m ∷ ms) = ap suc (length-none ms)

-- ---- things in two parts

-- what both parts mark beside nothing
pub marked_in_two : {X : Type 0} (t : X → Model → Bool) (ms : List Model) (now : List Bool) (xs ys : List X) → now ≡ replicate (length ms) false → marked (any_of t ys) (marked (any_of t xs) now ms) ms ≡ map (any_of t (xs ++ ys)) ms
marked_in_two t ms now xs ys are =
    marked_twice (any_of t xs) (any_of t ys) now ms
    ∙ marked_alike (λ m. any_of t xs m || any_of t ys m) (any_of t (xs ++ ys)) (λ m. sym (list_any-append (λ x. t x m) xs ys)) now ms
    ∙ ap (λ ts. marked (any_of t (xs ++ ys)) ts ms) (are ∙ marks_of ms)
    ∙ marked_new (any_of t (xs ++ ys)) ms

pub long_still : (b : Model → Bool) (ms : List Model) (now next : List Bool) → now ≡ replicate (length ms) false → next ≡ marked b now ms → length next ≡ length ms
long_still b ms now next are is =
    let long : length now ≡ length ms = ap length (are ∙ marks_of ms) ∙ length-none ms in
    ap length is ∙ length-marked b now ms long ∙ long
