-- What is left of the tokens, a token and a turn at a time.
use Rattle.std.proofs.Common.{◌≡◌, ℕ, ◌-◌, ◌<◌, List, ◌∷◌, length, true, false, true≢false, Option, Some, None, option_map, is_some, refl, sym, ap, ◌∙◌}
use Rattle.json.specs.Token as spec
use Rattle.json.specs.Json as json
use Rattle.json.specs.Json.{parse_map, value_with, items, members, value}
use Rattle.json.specs.Reads.{token_of}
use Rattle.json.specs.declared.token.Token.{Token}
use Rattle.json.specs.declared.token.Token.TheVariants.{BeginObject, EndObject, BeginArray, EndArray, Key, String, Number, Bool, Null, Bad}
use Rattle.json.proofs.Grammar.{left_some, value_is, value-begin_array, value-begin_object}
use Rattle.serde_json.specs.Data.{Num, Data, number, array, object, Items, Members, no_members}
use Rattle.serde_json.specs.Read.{number_of, of_json, of_items, of_members, converted}
use Rattle.shallow_json.specs.Passing.{left, after_value, after_items, after_members, scalar_of}
use Rattle.shallow_json.specs.Shallow.{plain, shallow, flat}
use Rattle.shallow_json.proofs.Reading.{converted-array, converted-object}

pub left-parse_map : {A B : Type 0} (f : A → B) (r : Option (A × List spec.Token)) → left (parse_map f r) ≡ left r
left-parse_map f None = refl
left-parse_map f (Some p) = refl

pub with_scalar : (a : json.Parse json.Items) (o : json.Parse json.Members) (t : Token) (ts : List spec.Token) → (t ≡ BeginObject → ⊥) → (t ≡ BeginArray → ⊥)
    → converted of_json (value_with a o (token_of t ∷ ts)) ≡ option_map (λ d. (d, ts)) (scalar_of (token_of t))
with_scalar a o BeginObject ts h k = absurd (h refl)
with_scalar a o EndObject ts h k = refl
with_scalar a o BeginArray ts h k = absurd (k refl)
with_scalar a o EndArray ts h k = refl
with_scalar a o (Key s) ts h k = refl
with_scalar a o (String s) ts h k = refl
with_scalar a o (Number s) ts h k = refl
with_scalar a o (Bool b) ts h k = refl
with_scalar a o Null ts h k = refl
with_scalar a o Bad ts h k = refl

-- the value of a token that opens nothing
pub value-scalar : (depth : ℕ) (t : Token) (ts : List spec.Token) → (t ≡ BeginObject → ⊥) → (t ≡ BeginArray → ⊥)
    → converted of_json (value depth (token_of t ∷ ts)) ≡ option_map (λ d. (d, ts)) (scalar_of (token_of t))
value-scalar depth t ts h k = ap (converted of_json) (value_is depth (token_of t ∷ ts)) ∙ with_scalar _ _ t ts h k

pub passed : (ts : List spec.Token) (d : Option Data) → is_some d ≡ true → left (option_map (λ e. (e, ts)) d) ≡ Some ts
passed ts None h = absurd (true≢false (sym h))
passed ts (Some d) h = refl

pub refused : (ts : List spec.Token) (d : Option Data) → is_some d ≡ false → option_map {U = Data × List spec.Token} (λ e. (e, ts)) d ≡ None
refused ts None h = refl
refused ts (Some d) h = absurd (true≢false h)

-- ---- lists and objects

pub after_list : (depth : ℕ) (ts : List spec.Token) → 0 < depth → after_value depth (spec.begin_array ∷ ts) ≡ after_items (depth - 1) ts
after_list depth ts h =
    let o = items (value (depth - 1)) (length ts) ts in
    ap (λ r. left (converted of_json r)) (value-begin_array depth ts h) ∙ ap left (converted-array o) ∙ left-parse_map _ (converted of_items o)

pub after_object : (depth : ℕ) (ts : List spec.Token) → 0 < depth → after_value depth (spec.begin_object ∷ ts) ≡ after_members (depth - 1) ts
after_object depth ts h =
    let o = members (value (depth - 1)) (length ts) ts in
    ap (λ r. left (converted of_json r)) (value-begin_object depth ts h) ∙ ap left (converted-object o) ∙ left-parse_map _ (converted (λ ms. of_members ms no_members) o)

-- ---- members in their plain form

plain_number : (ts : List spec.Token) (n : Option Num) → parse_map plain (option_map {U = Data × List spec.Token} (λ d. (d, ts)) (option_map number n)) ≡ option_map (λ d. (d, ts)) (option_map number n)
plain_number ts None = refl
plain_number ts (Some n) = refl

pub plain_scalar : (t : spec.Token) (ts : List spec.Token) → parse_map plain (option_map {U = Data × List spec.Token} (λ d. (d, ts)) (scalar_of t)) ≡ option_map (λ d. (d, ts)) (scalar_of t)
plain_scalar spec.begin_object ts = refl
plain_scalar spec.end_object ts = refl
plain_scalar spec.begin_array ts = refl
plain_scalar spec.end_array ts = refl
plain_scalar (spec.key s) ts = refl
plain_scalar (spec.string s) ts = refl
plain_scalar (spec.number s) ts = plain_number ts (number_of s)
plain_scalar (spec.boolean b) ts = refl
plain_scalar spec.null ts = refl
plain_scalar spec.bad ts = refl

-- what is seen of a list that is passed over
pub list_seen : {B : Type 0} (f : Data → B) (b : B) (depth : ℕ) (ts r : List spec.Token) → ((ds : Items) → f (array ds) ≡ b) → 0 < depth → after_items (depth - 1) ts ≡ Some r
    → parse_map f (converted of_json (value depth (spec.begin_array ∷ ts))) ≡ Some (b, r)
list_seen f b depth ts r same h passes =
    let o = items (value (depth - 1)) (length ts) ts in
    let read = left_some (converted of_items o) r passes in
    ap (λ v. parse_map f (converted of_json v)) (value-begin_array depth ts h) ∙ ap (parse_map f) (converted-array o) ∙ ap (λ v. parse_map f (parse_map array v)) read.1 ∙ ap (λ c. Some (c, r)) (same read.0)

-- what is seen of an object that is passed over
pub object_seen : {B : Type 0} (f : Data → B) (b : B) (depth : ℕ) (ts r : List spec.Token) → ((ms : Members) → f (object ms) ≡ b) → 0 < depth → after_members (depth - 1) ts ≡ Some r
    → parse_map f (converted of_json (value depth (spec.begin_object ∷ ts))) ≡ Some (b, r)
object_seen f b depth ts r same h passes =
    let o = members (value (depth - 1)) (length ts) ts in
    let read = left_some (converted (λ ms. of_members ms no_members) o) r passes in
    ap (λ v. parse_map f (converted of_json v)) (value-begin_object depth ts h) ∙ ap (parse_map f) (converted-object o) ∙ ap (λ v. parse_map f (parse_map object v)) read.1 ∙ ap (λ c. Some (c, r)) (same read.0)

-- ---- values whose objects keep their members

flat_number : (ts : List spec.Token) (n : Option Num) → parse_map flat (option_map {U = Data × List spec.Token} (λ d. (d, ts)) (option_map number n)) ≡ option_map (λ d. (d, ts)) (option_map number n)
flat_number ts None = refl
flat_number ts (Some n) = refl

pub flat_scalar : (t : spec.Token) (ts : List spec.Token) → parse_map flat (option_map {U = Data × List spec.Token} (λ d. (d, ts)) (scalar_of t)) ≡ option_map (λ d. (d, ts)) (scalar_of t)
flat_scalar spec.begin_object ts = refl
flat_scalar spec.end_object ts = refl
flat_scalar spec.begin_array ts = refl
flat_scalar spec.end_array ts = refl
flat_scalar (spec.key s) ts = refl
flat_scalar (spec.string s) ts = refl
flat_scalar (spec.number s) ts = flat_number ts (number_of s)
flat_scalar (spec.boolean b) ts = refl
flat_scalar spec.null ts = refl
flat_scalar spec.bad ts = refl

with_members : (o : Option (Members × List spec.Token)) → parse_map flat (parse_map object o) ≡ parse_map object (parse_map shallow o)
with_members None = refl
with_members (Some p) = refl

pub flat_object : (depth : ℕ) (ts r : List spec.Token) (found : Members) → 0 < depth
    → parse_map shallow (converted (λ ms. of_members ms no_members) (members (value (depth - 1)) (length ts) ts)) ≡ Some (found, r)
    → parse_map flat (converted of_json (value depth (spec.begin_object ∷ ts))) ≡ Some (object found, r)
flat_object depth ts r found h read =
    let o = members (value (depth - 1)) (length ts) ts in
    ap (λ v. parse_map flat (converted of_json v)) (value-begin_object depth ts h) ∙ ap (parse_map flat) (converted-object o) ∙ with_members (converted (λ ms. of_members ms no_members) o) ∙ ap (parse_map object) read

pub object_refused : (depth : ℕ) (ts : List spec.Token) → 0 < depth → converted (λ ms. of_members ms no_members) (members (value (depth - 1)) (length ts) ts) ≡ None
    → converted of_json (value depth (spec.begin_object ∷ ts)) ≡ None
object_refused depth ts h none =
    let o = members (value (depth - 1)) (length ts) ts in
    ap (converted of_json) (value-begin_object depth ts h) ∙ converted-object o ∙ ap (parse_map object) none

pub list_refused : (depth : ℕ) (ts : List spec.Token) → 0 < depth → converted of_items (items (value (depth - 1)) (length ts) ts) ≡ None
    → converted of_json (value depth (spec.begin_array ∷ ts)) ≡ None
list_refused depth ts h none =
    let o = items (value (depth - 1)) (length ts) ts in
    ap (converted of_json) (value-begin_array depth ts h) ∙ converted-array o ∙ ap (parse_map array) none
