-- The items of a place, one after another.
use Rattle.std.proofs.Common.{◌≡◌, ◌<◌, ◌≤◌, ◌-◌, ℕ, zero, suc, List, [], ◌∷◌, length, true≢false, false, Option, Some, None, MatchOption, is_some, option_and_then, refl, ap, sym, ◌∙◌, arith}
use Rattle.json.specs.Token as spec
use Rattle.json.specs.Json as json
use Rattle.json.specs.Json.{Parse, parse_map, after_end_array, items_step, items, value}
use Rattle.json.proofs.Grammar.{left, Takes, skip_value-shorter}
use Rattle.serde_json.specs.Data.{Data, Items, no_items, item}
use Rattle.serde_json.specs.Read.{of_json, of_items, converted}
use Rattle.serde_json.specs.View.{view}
use Rattle.shallow_json.specs.Shallow.{plain}
use Rattle.shallow_json.proofs.Reading.{pick, item_read}
use Rattle.rp_requests.specs.Asks.{place_of}
use Rattle.rp_requests.specs.declared.values.ListItem.{ListItem}
use Rattle.rp_requests.specs.Kept.{items_read, plain_items}
use Rattle.rp_requests.proofs.ShallowMembers.{as_str-plain, number_of-plain}

-- ---- the count of the tokens is enough to read a list

none_of_none : (o : Option (json.Json × List spec.Token)) → ((r : List spec.Token) → left o ≡ Some r → length r < 0) → o ≡ None
none_of_none None takes = refl
none_of_none (Some q) takes = let never : ⊥ = omega (arith, takes q.1 refl) in absurd never

same_rest : (f g : Parse json.Items) (k : ℕ) (o : Option (json.Json × List spec.Token)) → ((r : List spec.Token) → left o ≡ Some r → length r < k)
    → ((r : List spec.Token) → length r < k → f r ≡ g r) → option_and_then (λ q. parse_map (json.item q.0) (f q.1)) o ≡ option_and_then (λ q. parse_map (json.item q.0) (g q.1)) o
same_rest f g k None takes same = refl
same_rest f g k (Some q) takes same = ap (parse_map (json.item q.0)) (same q.1 (takes q.1 refl))

module _ (p : Parse json.Json) (takes : Takes p) where
  same_step : (f g : Parse json.Items) (ts : List spec.Token) (o : Option (List spec.Token)) → ((r : List spec.Token) → length r < length ts → f r ≡ g r) → items_step p f ts o ≡ items_step p g ts o
  same_step f g ts (Some r) same = refl
  same_step f g ts None same = same_rest f g (length ts) (p ts) (takes ts) same

  none_left : (n : ℕ) → items p zero [] ≡ items p n []
  unfolding items
  none_left zero = refl
  none_left (suc n) = sym (ap (option_and_then (λ q. parse_map (json.item q.0) (items p n q.1))) (none_of_none (p []) (takes [])))

  items_enough : (n m : ℕ) (ts : List spec.Token) → length ts ≤ n → length ts ≤ m → items p n ts ≡ items p m ts
  unfolding items
  items_enough zero m [] h k = none_left m
  items_enough zero m (t ∷ ts) h k = let never : ⊥ = omega (arith, h) in absurd never
  items_enough (suc n) zero [] h k = sym (none_left (suc n))
  items_enough (suc n) zero (t ∷ ts) h k = let never : ⊥ = omega (arith, k) in absurd never
  items_enough (suc n) (suc m) ts h k = same_step (items p n) (items p m) ts (after_end_array ts) (λ r less. items_enough n m r (omega (arith, h, less)) (omega (arith, k, less)))

-- ---- one item, and those that follow

plain_turn : (d : Data) (o : Option (Items × List spec.Token)) → parse_map plain_items (parse_map (item d) o) ≡ parse_map (item (plain d)) (parse_map plain_items o)
plain_turn d None = refl
plain_turn d (Some p) = refl

pub item_and_more : (ts r : List spec.Token) (d : Data) → after_end_array ts ≡ None → converted of_json (value 125 ts) ≡ Some (d, r) → length r < length ts
    → parse_map plain_items (items_read ts) ≡ parse_map (item (plain d)) (parse_map plain_items (items_read r))
item_and_more ts r d going read less =
    let p = value 125 in
    let rest : items p (length ts - 1) r ≡ items p (length r) r = items_enough p (skip_value-shorter 125) (length ts - 1) (length r) r (omega (arith, less)) (omega arith) in
    ap (parse_map plain_items) (item_read p (length ts) ts r d (omega (arith, less)) going read ∙ ap (λ o. parse_map (item d) (converted of_items o)) rest) ∙ plain_turn d (items_read r)

-- ---- the place

place_of-plain : (ds : Items) → place_of (plain_items ds) ≡ place_of ds
place_of-plain no_items = refl
place_of-plain (item a no_items) = refl
place_of-plain (item a (item b no_items)) = refl
place_of-plain (item a (item b (item c no_items))) = rw (as_str-plain a, as_str-plain b, number_of-plain c) refl
place_of-plain (item a (item b (item c (item d ds)))) = refl

-- a place is read of the items without their insides
pub read_plain : (o : Option (Items × List spec.Token)) → parse_map place_of o ≡ parse_map place_of (parse_map plain_items o)
read_plain None = refl
read_plain (Some p) = ap (λ q. Some (q, p.1)) (sym (place_of-plain p.0))

-- what is told of the next item: it stands here, or the list is over
abbrev NextItem : List spec.Token → List spec.Token → Option ListItem → Type 0
NextItem ts r o = MatchOption o (items_read ts ≡ Some (no_items, r)) (λ next. parse_map plain_items (items_read ts) ≡ parse_map (item (view next.value)) (parse_map plain_items (items_read r)))

pub item_found : (ts r : List spec.Token) (o : Option ListItem) (next : ListItem) → o ≡ Some next → NextItem ts r o
    → parse_map plain_items (items_read ts) ≡ parse_map (item (view next.value)) (parse_map plain_items (items_read r))
item_found ts r None next is told = absurd (cc)
item_found ts r (Some other) next is told = told ∙ ap (λ u. parse_map (item (view u.value)) (parse_map plain_items (items_read r))) (ap (pick other) is)

pub list_over : (ts r : List spec.Token) (o : Option ListItem) → is_some o ≡ false → NextItem ts r o → items_read ts ≡ Some (no_items, r)
list_over ts r None is told = told
list_over ts r (Some w) is told = absurd (true≢false is)

-- three items, and the bracket that closes the list
pub three_items : (first second third rest : Option (Items × List spec.Token)) (a b c : Data) (r : List spec.Token)
    → parse_map plain_items first ≡ parse_map (item a) (parse_map plain_items second) → parse_map plain_items second ≡ parse_map (item b) (parse_map plain_items third)
    → parse_map plain_items third ≡ parse_map (item c) (parse_map plain_items rest) → rest ≡ Some (no_items, r)
    → parse_map place_of first ≡ Some (place_of (item a (item b (item c no_items))), r)
three_items first second third rest a b c r one two three end =
    read_plain first
    ∙ ap (parse_map place_of) (one ∙ ap (parse_map (item a)) (two ∙ ap (parse_map (item b)) (three ∙ ap (λ o. parse_map (item c) (parse_map plain_items o)) end)))
