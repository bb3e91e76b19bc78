-- The members without their insides, one after another, and those of a whole text.
use Rattle.std.proofs.Common.{◌≡◌, ℕ, List, [], ◌∷◌, length, Bool, true, false, true≢false, Ordering, Less, Equal, Greater, Option, Some, None, option_map, option_and_then, refl, ap, ◌∙◌, arith, nat_cmp}
use Rattle.std.proofs.lemmas.Str.{IsUtf8-from_is_utf8}
use Rattle.std.specs.Str.{is_utf8, IsUtf8}
use Rattle.std.specs.Cmp.Lexicographic.{slice_cmp}
use Rattle.std.specs.Ordering.{match_ordering}
use Rattle.json.specs.Token as spec
use Rattle.json.specs.Json as json
use Rattle.json.specs.Json.{parse_map, items, members, value, if_last}
use Rattle.json.proofs.Grammar.{value_is, value-begin_array, value-begin_object}
use Rattle.serde_json.specs.Data.{Num, Data, number, array, object, Items, Members, no_members, member, put}
use Rattle.serde_json.specs.Find.{as_object}
use Rattle.serde_json.specs.Read.{number_of, of_json, of_items, of_members, converted}
use Rattle.shallow_json.specs.Passing.{begins_object}
use Rattle.shallow_json.specs.Shallow.{plain, shallow}
use Rattle.shallow_json.proofs.Reading.{pick, converted-object, whole, whole_read, whole_and_more, whole_refused}

shallow-match_ordering : (o : Ordering) (a b c : Members) → shallow (match_ordering o a b c) ≡ match_ordering o (shallow a) (shallow b) (shallow c)
shallow-match_ordering Less a b c = refl
shallow-match_ordering Equal a b c = refl
shallow-match_ordering Greater a b c = refl

pub shallow-put : (k : List ℕ) (d : Data) (ms : Members) → shallow (put k d ms) ≡ put k (plain d) (shallow ms)
shallow-put k d no_members = refl
shallow-put k d (member l e ms) = shallow-match_ordering (slice_cmp nat_cmp k l) _ _ _ ∙ rw (shallow-put k d ms) refl

pub mapped_some : {A B : Type 0} (f : A → B) (o : Option (A × List spec.Token)) (b : B) (r : List spec.Token) → parse_map f o ≡ Some (b, r) → (a : A) × (o ≡ Some (a, r)) × (f a ≡ b)
mapped_some f None b r e = absurd (cc)
mapped_some f (Some p) b r e = let same = ap (pick (f p.0, p.1)) e in (p.0, ap (λ q. Some (p.0, q.1)) same, ap (λ q. q.0) same)

-- ---- the whole text

pub members_read : (ts : List spec.Token) (ms : Members) → converted (λ js. of_members js no_members) (members (value 126) (length ts) ts) ≡ Some (ms, []) → option_and_then as_object (whole (value 127 (spec.begin_object ∷ ts))) ≡ Some ms
members_read ts ms e =
    let o = members (value 126) (length ts) ts in
    let read = ap (converted of_json) (value-begin_object 127 ts (omega arith)) ∙ converted-object o ∙ ap (parse_map object) e in
    ap (option_and_then as_object) (whole_read (value 127 (spec.begin_object ∷ ts)) (object ms) read)

pub members_and_more : (ts r : List spec.Token) (t : spec.Token) (ms : Members) → converted (λ js. of_members js no_members) (members (value 126) (length ts) ts) ≡ Some (ms, t ∷ r) → option_and_then as_object (whole (value 127 (spec.begin_object ∷ ts))) ≡ None
members_and_more ts r t ms e =
    let o = members (value 126) (length ts) ts in
    let read = ap (converted of_json) (value-begin_object 127 ts (omega arith)) ∙ converted-object o ∙ ap (parse_map object) e in
    ap (option_and_then as_object) (whole_and_more (value 127 (spec.begin_object ∷ ts)) (object ms) t r read)

pub members_refused : (ts : List spec.Token) → converted (λ js. of_members js no_members) (members (value 126) (length ts) ts) ≡ None → option_and_then as_object (whole (value 127 (spec.begin_object ∷ ts))) ≡ None
members_refused ts e =
    let o = members (value 126) (length ts) ts in
    let read = ap (converted of_json) (value-begin_object 127 ts (omega arith)) ∙ converted-object o ∙ ap (parse_map object) e in
    ap (option_and_then as_object) (whole_refused (value 127 (spec.begin_object ∷ ts)) read)

no_object_of_number : (n : Option Num) → option_and_then as_object (option_map number n) ≡ None
no_object_of_number None = refl
no_object_of_number (Some n) = refl

no_object_of_items : (ds : Option Items) → option_and_then as_object (option_map array ds) ≡ None
no_object_of_items None = refl
no_object_of_items (Some ds) = refl

no_object_in : (j : json.Json) (ts : List spec.Token) → option_and_then as_object (of_json j) ≡ None → option_and_then as_object (option_and_then of_json (if_last j ts)) ≡ None
no_object_in j [] e = e
no_object_in j (t ∷ ts) e = refl

no_object_in_list : (o : Option (json.Items × List spec.Token)) → option_and_then as_object (whole (parse_map json.array o)) ≡ None
no_object_in_list None = refl
no_object_in_list (Some p) = no_object_in (json.array p.0) p.1 (no_object_of_items (of_items p.0))

pub no_object : (ts : List spec.Token) → begins_object ts ≡ false → option_and_then as_object (whole (value 127 ts)) ≡ None
no_object [] h = ap (λ o. option_and_then as_object (whole o)) (value_is 127 [])
no_object (spec.begin_object ∷ ts) h = absurd (true≢false h)
no_object (spec.end_object ∷ ts) h = ap (λ o. option_and_then as_object (whole o)) (value_is 127 (spec.end_object ∷ ts))
no_object (spec.begin_array ∷ ts) h = ap (λ o. option_and_then as_object (whole o)) (value-begin_array 127 ts (omega arith)) ∙ no_object_in_list (items (value 126) (length ts) ts)
no_object (spec.end_array ∷ ts) h = ap (λ o. option_and_then as_object (whole o)) (value_is 127 (spec.end_array ∷ ts))
no_object (spec.key s ∷ ts) h = ap (λ o. option_and_then as_object (whole o)) (value_is 127 (spec.key s ∷ ts))
no_object (spec.string s ∷ ts) h = ap (λ o. option_and_then as_object (whole o)) (value_is 127 (spec.string s ∷ ts)) ∙ no_object_in (json.string s) ts refl
no_object (spec.number s ∷ ts) h = ap (λ o. option_and_then as_object (whole o)) (value_is 127 (spec.number s ∷ ts)) ∙ no_object_in (json.number s) ts (no_object_of_number (number_of s))
no_object (spec.boolean b ∷ ts) h = ap (λ o. option_and_then as_object (whole o)) (value_is 127 (spec.boolean b ∷ ts)) ∙ no_object_in (json.boolean b) ts refl
no_object (spec.null ∷ ts) h = ap (λ o. option_and_then as_object (whole o)) (value_is 127 (spec.null ∷ ts)) ∙ no_object_in json.null ts refl
no_object (spec.bad ∷ ts) h = ap (λ o. option_and_then as_object (whole o)) (value_is 127 (spec.bad ∷ ts))

pub not_utf8 : (bs : List ℕ) (b : Bool) → is_utf8 bs ≡ b → (IsUtf8 bs → ⊥) → b ≡ false
not_utf8 bs true e h = absurd (h (IsUtf8-from_is_utf8 bs e))
not_utf8 bs false e h = refl
