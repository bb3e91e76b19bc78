-- The header is read again of what is written of it.
use Rattle.std.proofs.Common.{◌≡◌, ◌≤◌, ◌==◌, ℕ, pos, suc, Bool, true, ◌&&◌, nat_le, List, [], ◌∷◌, length, map, Ok, Err, Result, IsUtf8, refl, sym, ◌∙◌, ap, subst, arith}
use Rattle.std.proofs.lemmas.Bool.Decides.{nat_tests}
use Rattle.p21_mappings.specs.Contents as bind
use Rattle.p21_mappings.specs.Contents.{header, header_value, text}
use Rattle.p21_grammar.specs.Grammar.{max_nesting}
use Rattle.p21_spelling.proofs.Equations.{header_spelling-List, header_spelling-Text, header_spelling-Unset}
use Rattle.p21_spelling.proofs.Headers as spelled
use Rattle.p21_spelling.proofs.Runs.{both_hold, second_holds}
use Rattle.p21_spelling.proofs.Written.{written_text}
use Rattle.p21_spelling.specs.Files.{is_header}
use Rattle.p21_spelling.specs.Instances.{are_values}
use Rattle.p21_spelling.specs.Tokens.{is_string, quoted}
use Rattle.p21_spelling.specs.Values as spellings
use Rattle.p21_spelling.specs.Values.{Spelling, all_spelled, deepest, header_spelling, leaf, list}
use Rattle.p21_escapes.proofs.Escapes.{decoded-encoded}
use Rattle.p21_escapes.specs.Decoding.{decoded}
use Rattle.p21_escapes.specs.Encoding.{encoded}
use Rattle.p21_tree.specs.declared.header.Header as tree
use Rattle.p21_tree.specs.declared.header.HeaderValue.{HeaderValue}
use Rattle.p21_tree.specs.declared.header.HeaderValue.TheFolds.{fold-roll-HeaderValue, ind-HeaderValue, map-HeaderValue}
use Rattle.p21_tree.specs.declared.header.HeaderValue.TheOpen.{HeaderValue-F}
use Rattle.p21_tree.specs.declared.header.HeaderValue.TheVariants as h
use Rattle.p21_tree.specs.declared.header.HeaderValue.TheViews.{roll-HeaderValue}
use Rattle.p21_values.specs.Tokens.{ok}
use Rattle.p21_canonical.specs.Trees as write
use Rattle.p21_canonical.specs.Trees.{header_tree, header_value_tree}
use Rattle.rp_value.specs.Elements.{Elements}
use Rattle.rp_value.specs.declared.value.AggregateKind.TheVariants as aggregate
use Rattle.rp_value.specs.declared.value.Value.{Value}
use Rattle.rp_value.specs.declared.value.Value.TheFolds.{fold-roll-Value, map-Value}
use Rattle.rp_value.specs.declared.value.Value.TheOpen.{Value-F}
use Rattle.rp_value.specs.declared.value.Value.TheVariants as v
use Rattle.rp_value.specs.declared.value.Value.TheViews.{roll-Value}
use Rattle.p21_laws.proofs.Texts.{decoded_text}

-- ---- both ways, by the form of a value

value_roll : (x : HeaderValue-F HeaderValue) → header_value (roll-HeaderValue x) ≡ bind.header_layer (map-HeaderValue HeaderValue Value header_value x)
unfolding header_value
value_roll x = fold-roll-HeaderValue Value bind.header_layer x

tree_roll : (x : Value-F Value) → header_value_tree (roll-Value x) ≡ write.header_layer (map-Value Value HeaderValue header_value_tree x)
unfolding header_value_tree
tree_roll x = fold-roll-Value HeaderValue write.header_layer x

value-Unset : header_value h.Unset ≡ v.Indet
value-Unset = ap header_value (sym h.rolls-Unset) ∙ value_roll HeaderValue-F.Unset

pub value-Text : (t : List ℕ) → header_value (h.Text t) ≡ text (ok (decoded t))
value-Text t = ap header_value (sym (h.rolls-Text t)) ∙ value_roll (HeaderValue-F.Text t)

abbrev pub as_list : List Value → Value
as_list us = v.Agg aggregate.List (record { low = pos 1; items = us })

pub value-List : (xs : List HeaderValue) → header_value (h.List xs) ≡ as_list (map header_value xs)
value-List xs = ap header_value (sym (h.rolls-List xs)) ∙ value_roll (HeaderValue-F.List xs)

tree-Indet : header_value_tree v.Indet ≡ h.Unset
tree-Indet = ap header_value_tree (sym v.rolls-Indet) ∙ tree_roll Value-F.Indet

tree-Str : (t : List ℕ) → header_value_tree (v.Str t) ≡ h.Text (encoded t)
tree-Str t = ap header_value_tree (sym (v.rolls-Str t)) ∙ tree_roll (Value-F.Str t)

tree-List : (us : List Value) → header_value_tree (as_list us) ≡ h.List (map header_value_tree us)
tree-List us =
    let e : Elements Value = record { low = pos 1; items = us } in
    ap header_value_tree (sym (v.rolls-Agg aggregate.List e)) ∙ tree_roll (Value-F.Agg aggregate.List e)

-- ---- what was read is read again, and is well spelled where it is written

abbrev shown : Value → Spelling
shown u = header_spelling (header_value_tree u)

record Kept (u : Value) (s : Spelling) : Type 0 where
  again : header_value (header_value_tree u) ≡ u
  spelled : (shown u).is_spelled ≡ true
  levels : (shown u).levels ≤ s.levels

shown-Indet : shown v.Indet ≡ leaf (36 ∷ []) true
shown-Indet = ap header_spelling tree-Indet ∙ header_spelling-Unset

shown-Str : (t : List ℕ) → shown (v.Str t) ≡ leaf (quoted (encoded t)) (is_string (encoded t))
shown-Str t = ap header_spelling (tree-Str t) ∙ header_spelling-Text (encoded t)

shown-List : (us : List Value) → shown (as_list us) ≡ list (map header_spelling (map header_value_tree us))
shown-List us = ap header_spelling (tree-List us) ∙ header_spelling-List (map header_value_tree us)

unset_kept : (s : Spelling) → Kept v.Indet s
unset_kept s =
    let flat : (shown v.Indet).levels ≡ 0 = ap (λ (s : Spelling). s.levels) shown-Indet in
    record { again = ap header_value tree-Indet ∙ value-Unset; spelled = ap (λ (s : Spelling). s.is_spelled) shown-Indet; levels = omega arith }

text_kept : (s : Spelling) (t : List ℕ) → IsUtf8 t → Kept (v.Str t) s
text_kept s t utf8 =
    let flat : (shown (v.Str t)).levels ≡ 0 = ap (λ (s : Spelling). s.levels) (shown-Str t) in
    record {
      again = ap header_value (tree-Str t) ∙ value-Text (encoded t) ∙ ap (λ r. text (ok r)) (decoded-encoded t utf8);
      spelled = ap (λ (s : Spelling). s.is_spelled) (shown-Str t) ∙ written_text t utf8;
      levels = omega arith;
    }

token_kept : (s : Spelling) (token : List ℕ) (r : Result (List ℕ) _) → decoded token ≡ r → Kept (text (ok r)) s
token_kept s token (Ok t) is = text_kept s t (decoded_text token t is)
token_kept s token (Err why) is = unset_kept s

-- ---- of several

abbrev IsKept : HeaderValue → Type 0
IsKept x = Kept (header_value x) (header_spelling x)

record AllKept (xs : List HeaderValue) : Type 0 where
  again : map header_value (map header_value_tree (map header_value xs)) ≡ map header_value xs
  spelled : all_spelled (map header_spelling (map header_value_tree (map header_value xs))) ≡ true
  levels : deepest (map header_spelling (map header_value_tree (map header_value xs))) ≤ deepest (map header_spelling xs)

none_kept : AllKept []
none_kept = record { again = refl; spelled = refl; levels = omega arith }

one_more : (x : HeaderValue) (xs : List HeaderValue) → IsKept x → AllKept xs → AllKept (x ∷ xs)
one_more x xs one all =
    let first = one.levels in
    let others = all.levels in
    record {
      again = rw (one.again, all.again) refl;
      spelled = both_hold (shown (header_value x)).is_spelled (all_spelled (map header_spelling (map header_value_tree (map header_value xs)))) one.spelled all.spelled;
      levels = omega arith;
    }

abbrev Part : Type 0
Part = (x : HeaderValue) × IsKept x

abbrev values_of : List Part → List HeaderValue
values_of ps = map (λ p. p.0) ps

parts_kept : (ps : List Part) → AllKept (values_of ps)
parts_kept [] = none_kept
parts_kept (p ∷ ps) = one_more p.0 (values_of ps) p.1 (parts_kept ps)

list_kept : (xs : List HeaderValue) → AllKept xs → Kept (as_list (map header_value xs)) (list (map header_spelling xs))
list_kept xs all =
    let us : List Value = map header_value xs in
    let deep : (shown (as_list us)).levels ≡ suc (deepest (map header_spelling (map header_value_tree us))) = ap (λ (s : Spelling). s.levels) (shown-List us) in
    let few = all.levels in
    record {
      again = ap header_value (tree-List us) ∙ value-List (map header_value_tree us) ∙ ap as_list all.again;
      spelled = ap (λ (s : Spelling). s.is_spelled) (shown-List us) ∙ all.spelled;
      levels = omega arith;
    }

-- ---- all

abbrev LayerKept : HeaderValue-F HeaderValue → Type 0
LayerKept z = Kept (bind.header_layer (map-HeaderValue HeaderValue Value header_value z)) (spellings.header_layer (map-HeaderValue HeaderValue Spelling header_spelling z))

layer_kept : (y : HeaderValue-F Part) → LayerKept (map-HeaderValue Part HeaderValue (λ p. p.0) y)
layer_kept HeaderValue-F.Unset = unset_kept (leaf (36 ∷ []) true)
layer_kept (HeaderValue-F.Text token) = token_kept (leaf (quoted token) (is_string token)) token (decoded token) refl
layer_kept (HeaderValue-F.List ps) = list_kept (values_of ps) (parts_kept ps)

is_kept : (x : HeaderValue) → IsKept x
is_kept = ind-HeaderValue IsKept (λ x y is.
    subst (λ u. Kept u (header_spelling (roll-HeaderValue x))) (sym (value_roll x))
    (subst (Kept (bind.header_layer (map-HeaderValue HeaderValue Value header_value x))) (sym (spelled.spelling_roll x)) (subst LayerKept is (layer_kept y))))

all_kept : (xs : List HeaderValue) → AllKept xs
all_kept [] = none_kept
all_kept (x ∷ xs) = one_more x xs (is_kept x) (all_kept xs)

pub header_again : (x : tree.Header) → header (header_tree (header x)) ≡ header x
header_again x = λ i. record { description = (all_kept x.description).again i; name = (all_kept x.name).again i }

-- ---- it is well spelled

many : (xs : List HeaderValue) → length (map header_value_tree (map header_value xs)) ≡ length xs
many [] = refl
many (x ∷ xs) = ap suc (many xs)

are_fit : (xs : List HeaderValue) → are_values (map header_spelling xs) ≡ true → are_values (map header_spelling (map header_value_tree (map header_value xs))) ≡ true
are_fit xs e =
    let all = all_kept xs in
    let few = all.levels in
    let fits = second_holds (all_spelled (map header_spelling xs)) (nat_le (deepest (map header_spelling xs)) max_nesting) e in
    both_hold (all_spelled (map header_spelling (map header_value_tree (map header_value xs)))) (nat_le (deepest (map header_spelling (map header_value_tree (map header_value xs)))) max_nesting)
    all.spelled
    (still (deepest (map header_spelling (map header_value_tree (map header_value xs)))) (deepest (map header_spelling xs)) max_nesting few fits)
  where
    still : (a b n : ℕ) → a ≤ b → nat_le b n ≡ true → nat_le a n ≡ true
    still a b n less fits = grind (arith, nat_tests)

pub header_fit : (x : tree.Header) → is_header x ≡ true → is_header (header_tree (header x)) ≡ true
header_fit x e =
    let d = map header_spelling x.description in
    let n = map header_spelling x.name in
    let d2 : Bool = length x.description == 2 in
    let dv : Bool = are_values d in
    let n7 : Bool = length x.name == 7 in
    let nv : Bool = are_values n in
    let parts = taken_apart d2 dv n7 nv e in
    let description : List HeaderValue = map header_value_tree (map header_value x.description) in
    let name : List HeaderValue = map header_value_tree (map header_value x.name) in
    put_together (length description == 2) (are_values (map header_spelling description)) (length name == 7) (are_values (map header_spelling name))
    (ap (λ n. n == 2) (many x.description) ∙ parts.0) (are_fit x.description parts.1.0) (ap (λ n. n == 7) (many x.name) ∙ parts.1.1.0) (are_fit x.name parts.1.1.1)
  where
    taken_apart : (a b c d : Bool) → (a && b && c && d) ≡ true → (a ≡ true) × ((b ≡ true) × ((c ≡ true) × (d ≡ true)))
    taken_apart true true true true e = (refl, (refl, (refl, refl)))
    taken_apart _ _ _ _ e = cc

    put_together : (a b c d : Bool) → a ≡ true → b ≡ true → c ≡ true → d ≡ true → (a && b && c && d) ≡ true
    put_together a b c d p q r s = rw (p, q, r, s) refl
