-- What is kept of values and of members.
use Rattle.std.proofs.Common.{◌≡◌, ◌<◌, ◌-◌, ℕ, List, length, [], ◌∷◌, Bool, true, false, true≢false, cond, is_some, codes, bytes_eq, Option, Some, None, MatchOption, option_map, option_and_then, refl, ap, ap₂, sym, ◌∙◌, arith, rules}
use Rattle.std.proofs.lemmas.Slice.Eq.{bytes_eq-Decides}
use Rattle.json.specs.Token as spec
use Rattle.json.specs.Json.{parse_map, items, value}
use Rattle.json.proofs.Grammar.{value-begin_array}
use Rattle.serde_json.specs.Data.{Num, Data, null, number, array, Items, Members, put}
use Rattle.serde_json.specs.Find.{as_array, get_member}
use Rattle.serde_json.specs.Read.{number_of, of_json, of_items, converted}
use Rattle.serde_json.specs.View.{view}
use Rattle.serde_json.specs.declared.value.Value.{Value, Null, the_lemmas}
use Rattle.serde_json.proofs.Views.{get_member-put, get_member-put_other}
use Rattle.rp_content.specs.declared.link.Link.{Link}
use Rattle.rp_population.specs.declared.place.Place.{Place}
use Rattle.shallow_json.specs.Passing.{scalar_of}
use Rattle.shallow_json.specs.Shallow.{plain, shallow}
use Rattle.shallow_json.proofs.Passes.{list_refused}
use Rattle.shallow_json.proofs.Reading.{pick, converted-array}
use Rattle.rp_requests.specs.declared.lines.Lists.{Lists}
use Rattle.rp_requests.specs.Asks.{links_of, links_if_any, links_in, place_of, place_in, lists_in}
use Rattle.rp_requests.specs.Kept.{seen, with_list, items_read, lists_at, kept_at, kept}

pub mapped_none : {A B : Type 0} (f : A → B) (o : Option (A × List spec.Token)) → parse_map f o ≡ None → o ≡ None
mapped_none f None e = refl
mapped_none f (Some p) e = absurd (cc)

-- a list begins here
list_opened : (ts r : List spec.Token) (o : Option Value) → o ≡ None
    → MatchOption o (ts ≡ spec.begin_array ∷ r) (λ v. parse_map seen (converted of_json (value 126 ts)) ≡ Some ((view v, None), r)) → ts ≡ spec.begin_array ∷ r
list_opened ts r None is told = told
list_opened ts r (Some v) is told = absurd (cc)

-- ---- lists

of_array : {A : Type 0} (make : Items → Option A) (o : Option (Items × List spec.Token)) → parse_map (with_list make) (parse_map array o) ≡ parse_map (λ made. (null, made)) (parse_map make o)
of_array make None = refl
of_array make (Some p) = refl

list_kept : {A : Type 0} (make : Items → Option A) (depth : ℕ) (ts r : List spec.Token) (made : Option A) → 0 < depth → parse_map make (converted of_items (items (value (depth - 1)) (length ts) ts)) ≡ Some (made, r)
    → parse_map (with_list make) (converted of_json (value depth (spec.begin_array ∷ ts))) ≡ Some ((null, made), r)
list_kept {A = A} make depth ts r made h read =
    let o = items (value (depth - 1)) (length ts) ts in
    ap (λ v. parse_map (with_list make) (converted of_json v)) (value-begin_array depth ts h) ∙ ap (parse_map (with_list make)) (converted-array o) ∙ of_array make (converted of_items o)
    ∙ ap (parse_map {B = Data × Option A} (λ m. (null, m))) read

-- what is made of a list of which the bracket is read
pub list_read : {A : Type 0} (make : Items → Option A) (ts rest r : List spec.Token) (o : Option Value) (made : Option A) → o ≡ None
    → MatchOption o (ts ≡ spec.begin_array ∷ rest) (λ v. parse_map seen (converted of_json (value 126 ts)) ≡ Some ((view v, None), rest))
    → parse_map make (items_read rest) ≡ Some (made, r) → parse_map (with_list make) (converted of_json (value 126 ts)) ≡ Some ((view Null, made), r)
list_read {A = A} make ts rest r o made is told read =
    let is_null : view Null ≡ null = search (rules, the_lemmas) in
    ap (λ all. parse_map (with_list make) (converted of_json (value 126 all))) (list_opened ts rest o is told) ∙ list_kept make 126 rest r made (omega arith) read
    ∙ ap {B = Option ((Data × Option A) × List spec.Token)} (λ d. Some ((d, made), r)) (sym is_null)

-- one whose items can't be read
pub list_unread : (ts rest : List spec.Token) (o : Option Value) → o ≡ None
    → MatchOption o (ts ≡ spec.begin_array ∷ rest) (λ v. parse_map seen (converted of_json (value 126 ts)) ≡ Some ((view v, None), rest))
    → items_read rest ≡ None → converted of_json (value 126 ts) ≡ None
list_unread ts rest o is told none = ap (λ all. converted of_json (value 126 all)) (list_opened ts rest o is told) ∙ list_refused 126 rest (omega arith) none

of_seen : {A : Type 0} (make : Items → Option A) (o : Option (Data × List spec.Token)) → parse_map (with_list make) o ≡ parse_map (λ q. (q.0, option_and_then make q.1)) (parse_map seen o)
of_seen make None = refl
of_seen make (Some p) = refl

-- what is no list
pub seen_kept : {A : Type 0} (make : Items → Option A) (o : Option (Data × List spec.Token)) (v : Data) (r : List spec.Token) → parse_map seen o ≡ Some ((v, None), r)
    → parse_map (with_list make) o ≡ Some ((v, None), r)
seen_kept {A = A} make o v r e = of_seen make o ∙ ap (parse_map {B = Data × Option A} (λ q. (q.0, option_and_then make q.1))) e

number_seen : (ts : List spec.Token) (n : Option Num)
    → parse_map seen (option_map {U = Data × List spec.Token} (λ d. (d, ts)) (option_map number n)) ≡ option_map (λ d. ((d, None), ts)) (option_map number n)
number_seen ts None = refl
number_seen ts (Some n) = refl

pub scalar_seen : (t : spec.Token) (ts : List spec.Token)
    → parse_map seen (option_map {U = Data × List spec.Token} (λ d. (d, ts)) (scalar_of t)) ≡ option_map (λ d. ((d, None), ts)) (scalar_of t)
scalar_seen spec.begin_object ts = refl
scalar_seen spec.end_object ts = refl
scalar_seen spec.begin_array ts = refl
scalar_seen spec.end_array ts = refl
scalar_seen (spec.key s) ts = refl
scalar_seen (spec.string s) ts = refl
scalar_seen (spec.number s) ts = number_seen ts (number_of s)
scalar_seen (spec.boolean b) ts = refl
scalar_seen spec.null ts = refl
scalar_seen spec.bad ts = refl

-- ---- members

pub read_elsewhere : (name : List ℕ) (lists : Lists) (o : Option (Data × List spec.Token)) (v : Data) (r : List spec.Token) → bytes_eq name (codes "links") ≡ false → bytes_eq name (codes "of") ≡ false
    → parse_map plain o ≡ Some (v, r) → parse_map (kept_at name lists) o ≡ Some ((v, lists), r)
read_elsewhere name lists None v r no_links no_place read = absurd (cc)
read_elsewhere name lists (Some p) v r no_links no_place read = let same = ap (pick (v, r)) read in rw (no_links, no_place) (ap (λ q. Some ((q.0, lists), q.1)) same)

abbrev with_links : Lists → Option (List Link) → Lists
with_links lists l = record lists { links = l }

abbrev with_place : Lists → Option Place → Lists
with_place lists p = record lists { place = p }

pub read_links_there : (name : List ℕ) (lists : Lists) (o : Option (Data × List spec.Token)) (v : Data) (l : Option (List Link)) (r : List spec.Token) → bytes_eq name (codes "links") ≡ true
    → parse_map (with_list links_of) o ≡ Some ((v, l), r) → parse_map (kept_at name lists) o ≡ Some ((v, record lists { links = l }), r)
read_links_there name lists None v l r is read = absurd (cc)
read_links_there name lists (Some p) v l r is read = let same = ap (pick ((v, l), r)) read in rw is (ap (λ q. Some ((q.0.0, with_links lists q.0.1), q.1)) same)

pub read_place_there : (name : List ℕ) (lists : Lists) (o : Option (Data × List spec.Token)) (v : Data) (l : Option Place) (r : List spec.Token) → bytes_eq name (codes "links") ≡ false → bytes_eq name (codes "of") ≡ true
    → parse_map (with_list place_of) o ≡ Some ((v, l), r) → parse_map (kept_at name lists) o ≡ Some ((v, record lists { place = l }), r)
read_place_there name lists None v l r no_links is read = absurd (cc)
read_place_there name lists (Some p) v l r no_links is read = let same = ap (pick ((v, l), r)) read in rw (no_links, is) (ap (λ q. Some ((q.0.0, with_place lists q.0.1), q.1)) same)

-- what is made of the member at a key, once another stands at a name
module _ {A : Type 0} (make : Option Data → A) (key : List ℕ) where
  by_name : (k : List ℕ) (d : Data) (ms : Members) (b : Bool) → bytes_eq k key ≡ b → make (get_member key (put k d ms)) ≡ cond b (make (Some d)) (make (get_member key ms))
  by_name k d ms true is = ap (λ l. make (get_member l (put k d ms))) (sym ((bytes_eq-Decides k key).0 is)) ∙ ap make (get_member-put k d ms)
  by_name k d ms false is = ap make (get_member-put_other key k d ms (λ e. true≢false (sym ((bytes_eq-Decides k key).1 (sym e)) ∙ is)))

abbrev both : Option (List Link) → Option Place → Lists
both l p = record { links = l; place = p }

by_both : (l more : Option (List Link)) (p other : Option Place) (a b : Bool) → (a ≡ true → b ≡ true → ⊥)
    → both (cond a more l) (cond b other p) ≡ cond a (both more p) (cond b (both l other) (both l p))
by_both l more p other true true apart = absurd (apart refl refl)
by_both l more p other true false apart = refl
by_both l more p other false true apart = refl
by_both l more p other false false apart = refl

one_name : (k : List ℕ) → bytes_eq k (codes "links") ≡ true → bytes_eq k (codes "of") ≡ true → ⊥
one_name k links place = true≢false (sym place ∙ ap (λ s. bytes_eq s (codes "of")) ((bytes_eq-Decides k (codes "links")).0 links))

abbrev place_if_any : Option Data → Option Place
place_if_any d = option_and_then place_of (option_and_then as_array d)

pub lists_in-put : (k : List ℕ) (d : Data) (ms : Members) → lists_in (put k d ms) ≡ lists_at k d (lists_in ms)
lists_in-put k d ms =
    ap₂ both (by_name links_if_any (codes "links") k d ms _ refl) (by_name place_if_any (codes "of") k d ms _ refl)
    ∙ by_both (links_in ms) (links_if_any (Some d)) (place_in ms) (place_if_any (Some d)) _ _ (one_name k)

-- ---- members that are strings alone

absent : (o : Option Data) → is_some o ≡ false → o ≡ None
absent None e = refl
absent (Some d) e = absurd (true≢false e)

pub texts_kept : (ms : Members) → shallow ms ≡ ms → is_some (get_member (codes "links") ms) ≡ false → is_some (get_member (codes "of") ms) ≡ false
    → option_map kept (Some ms) ≡ Some (ms, record { links = Some []; place = None })
texts_kept ms texts links place =
    λ i. Some (texts i, record { links = links_if_any (absent (get_member (codes "links") ms) links i); place = place_if_any (absent (get_member (codes "of") ms) place i) })
