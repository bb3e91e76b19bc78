-- The entries of a map, and the members that they stand for.
use Rattle.std.proofs.Common.{◌≡◌, ℕ, List, [], ◌∷◌, Bool, true, false, cond, true≢false, map, String, string_bytes, Bor, Global, Ordering, Less, Equal, Greater, is_eq, Option, Some, None, is_some, option_map, option_and_then, MatchOption, refl, ap, sym, ◌∙◌, bytes_eq, nat_cmp}
use Rattle.std.proofs.lemmas.Map.Text.{is_eq-slice_cmp}
use Rattle.std.proofs.lemmas.Slice.Eq.{bytes_eq-Decides}
use Rattle.std.specs.Cmp.Lexicographic.{slice_cmp}
use Rattle.std.specs.Ordering.{match_ordering}
use Rattle.std.specs.List.{list_any, list_all}
use Rattle.std.specs.Map.{keys_of, lookup, remove_entry}
use Rattle.std.specs.BTreeMap.{is_at}
use Rattle.serde_json.specs.Data.{Data, Members, no_members, member}
use Rattle.serde_json.specs.Find.{get_member, as_str}
use Rattle.serde_json.specs.View.{view, members_view}
use Rattle.serde_json.specs.declared.value.Value.{Value}
use Rattle.serde_json.proofs.Views.{Entry, view-lookup}
use Rattle.rp_requests.specs.Asks.{without, text_in, text_if_any, flag_if_any, number_of, number_in}

-- how a map compares a name to its keys
abbrev pub is_named : List ℕ → String Global → Bool
is_named name = is_at (λ k. slice_cmp nat_cmp name (string_bytes k))

members_view-cond : (b : Bool) (xs ys : List Entry) → members_view (cond b xs ys) ≡ cond b (members_view xs) (members_view ys)
members_view-cond true xs ys = refl
members_view-cond false xs ys = refl

pub without-remove_entry : (name : List ℕ) (es : List Entry) → members_view (remove_entry (is_named name) es) ≡ without name (members_view es)
without-remove_entry name [] = refl
without-remove_entry name (e ∷ es) =
    members_view-cond (is_named name e.0) es (e ∷ remove_entry (is_named name) es) ∙ rw (is_eq-slice_cmp name (string_bytes e.0), without-remove_entry name es) refl

either : (o : Ordering) (a b : Option Data) → is_eq o ≡ false → match_ordering o a b a ≡ a
either Less a b e = refl
either Equal a b e = absurd (true≢false e)
either Greater a b e = refl

differ : (xs ys : List ℕ) (b : Bool) → bytes_eq xs ys ≡ b → (xs ≡ ys → ⊥) → b ≡ false
differ xs ys true e other = absurd (other ((bytes_eq-Decides xs ys).0 e))
differ xs ys false e other = refl

skips : (q k : List ℕ) (d : Data) (ms : Members) → (q ≡ k → ⊥) → get_member q (member k d ms) ≡ get_member q ms
skips q k d ms other = either (slice_cmp nat_cmp q k) _ _ (is_eq-slice_cmp q k ∙ differ q k _ refl other)

without-member : (key other k : List ℕ) (d : Data) (ms : Members) (b : Bool) → bytes_eq key k ≡ b → (other ≡ key → ⊥) → get_member other (without key ms) ≡ get_member other ms
    → get_member other (cond b ms (member k d (without key ms))) ≡ get_member other (member k d ms)
without-member key other k d ms true is apart rest = sym (skips other k d ms (λ h. apart (h ∙ sym ((bytes_eq-Decides key k).0 is))))
without-member key other k d ms false is apart rest = ap (λ r. match_ordering (slice_cmp nat_cmp other k) r (Some d) r) rest

-- what stands at another key stays
pub get_member-without : (key other : List ℕ) (ms : Members) → (other ≡ key → ⊥) → get_member other (without key ms) ≡ get_member other ms
get_member-without key other no_members apart = refl
get_member-without key other (member k d ms) apart = without-member key other k d ms _ refl apart (get_member-without key other ms apart)

unequal : (key other : List ℕ) → bytes_eq key other ≡ false → other ≡ key → ⊥
unequal key other apart h = true≢false (sym ((bytes_eq-Decides key other).1 (sym h)) ∙ apart)

pub text_in-without : (key other : List ℕ) (ms : Members) → bytes_eq key other ≡ false → text_in other (without key ms) ≡ text_in other ms
text_in-without key other ms apart = ap (option_and_then as_str) (get_member-without key other ms (unequal key other apart))

pub number_in-without : (key other : List ℕ) (ms : Members) → bytes_eq key other ≡ false → number_in other (without key ms) ≡ number_in other ms
number_in-without key other ms apart = ap (option_and_then number_of) (get_member-without key other ms (unequal key other apart))

pub text_in-lookup : (name : List ℕ) (es : List Entry) (found : Option Value) (text : Option (List ℕ)) → found ≡ lookup (is_named name) es
    → MatchOption found (text ≡ None) (λ v. text ≡ as_str (view v)) → text ≡ text_in name (members_view es)
text_in-lookup name es None text is told = told ∙ ap (option_and_then as_str) (ap (option_map view) is ∙ view-lookup name es)
text_in-lookup name es (Some v) text is told = told ∙ ap (option_and_then as_str) (ap (option_map view) is ∙ view-lookup name es)

pub number_in-lookup : (name : List ℕ) (es : List Entry) (found : Option Value) (number : Option ℕ) → found ≡ lookup (is_named name) es
    → MatchOption found (number ≡ None) (λ v. number ≡ number_of (view v)) → number ≡ number_in name (members_view es)
number_in-lookup name es None number is told = told ∙ ap (option_and_then number_of) (ap (option_map view) is ∙ view-lookup name es)
number_in-lookup name es (Some v) number is told = told ∙ ap (option_and_then number_of) (ap (option_map view) is ∙ view-lookup name es)

pub text_if_any-lookup : (name : List ℕ) (es : List Entry) (found : Option Value) → found ≡ lookup (is_named name) es → text_if_any (option_map view found) ≡ text_if_any (get_member name (members_view es))
text_if_any-lookup name es found is = ap text_if_any (ap (option_map view) is ∙ view-lookup name es)

pub flag_if_any-lookup : (name : List ℕ) (es : List Entry) (found : Option Value) → found ≡ lookup (is_named name) es → flag_if_any (option_map view found) ≡ flag_if_any (get_member name (members_view es))
flag_if_any-lookup name es found is = ap flag_if_any (ap (option_map view) is ∙ view-lookup name es)

some_viewed : (found : Option Value) → is_some found ≡ is_some (option_map view found)
some_viewed None = refl
some_viewed (Some v) = refl

pub is_some-lookup : (name : List ℕ) (es : List Entry) → is_some (lookup (is_named name) es) ≡ is_some (get_member name (members_view es))
is_some-lookup name es = some_viewed (lookup (is_named name) es) ∙ ap is_some (view-lookup name es)
