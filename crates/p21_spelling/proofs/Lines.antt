-- Instances are read again from their lines.
use Rattle.std.proofs.Common.{◌≡◌, ℕ, ◌+◌, true, false, nat_lt, nat_le, ◌≤◌, List, [], ◌∷◌, ◌++◌, length, map, Ok, refl, sym, ◌∙◌, ap, subst, arith, append_assoc, append-nil}
use Rattle.std.proofs.lemmas.List.{map-id}
use Rattle.std.specs.List.{flat_map, list_all}
use Rattle.std.specs.Prelude.{decimal}
use Rattle.text_forms.specs.Forms.{repeat}
use Rattle.p21_lexemes.specs.declared.token.TokenKind.TheVariants as k
use Rattle.p21_lexemes.specs.Tokens.{Lexemes, lexemes, before, expect, sees, same_kind}
use Rattle.p21_grammar.specs.Grammar.{max_nesting, name, listed, value, nested, record_form, records, mapping_form, instance, instances}
use Rattle.p21_tree.specs.declared.instance.Instance.{Instance}
use Rattle.p21_tree.specs.declared.instance.Mapping.{Mapping}
use Rattle.p21_tree.specs.declared.instance.Mapping.TheVariants.{Internal, External}
use Rattle.p21_tree.specs.declared.instance.Record.{Record}
use Rattle.p21_tree.specs.declared.value.Value.{Value}
use Rattle.p21_spelling.specs.Tokens.{enclosed, is_name, is_word}
use Rattle.p21_spelling.specs.Values as spec
use Rattle.p21_spelling.specs.Values.{all_spelled, deepest, spelling}
use Rattle.p21_spelling.specs.Instances.{are_values, record_text, is_record, mapping_text, is_mapping, instance_text, is_instance, lines}
use Rattle.p21_spelling.specs.Again.{Again, ReadsAnywhere}
use Rattle.p21_spelling.proofs.Runs.{first_holds, second_holds, is_within}
use Rattle.p21_spelling.proofs.Names.{small, number_of-decimal, stands-reference}
use Rattle.p21_spelling.proofs.Steps.{lexeme, token, Reads, weak, first_then, maps, chosen, other, with_feed, no_turn, one_turn, close_mark, takes-open, takes-equals, closes, ends, an_open}
use Rattle.p21_spelling.proofs.Lists.{listed_again}
use Rattle.p21_spelling.proofs.Values.{no_close, value_again, takes-word, word_front}

-- ---- records

values_again : (vs : List Value) → are_values (map spelling vs) ≡ true → ReadsAnywhere (listed value) (enclosed (spec.listed (map spelling vs))) vs
values_again vs good =
    let same = map-id vs in
    let ss = map spelling vs in
    let spelled = first_holds (all_spelled ss) (nat_le (deepest ss) max_nesting) good in
    let fit = is_within (deepest ss) max_nesting (second_holds (all_spelled ss) (nat_le (deepest ss) max_nesting) good) in
    subst (λ (us : List Value). ReadsAnywhere (listed value) (enclosed (spec.listed (map spelling us))) us) same
    (listed_again (λ v. v) spelling value max_nesting (λ v good fits. value_again v max_nesting good fits) (no_close (nested max_nesting).list (nested max_nesting).typed) vs
    (ap (λ us. all_spelled (map spelling us)) same ∙ spelled) (subst (λ (us : List Value). deepest (map spelling us) ≤ max_nesting) (sym same) fit))

record_again : (r : Record) → is_record r ≡ true → ReadsAnywhere record_form (record_text r) r
unfolding record_form
record_again r good = λ at rest.
    let t = enclosed (spec.listed (map spelling r.values)) in
    let make : List Value → Record = λ vs. record { keyword = r.keyword; values = vs } in
    let one = takes-word r.keyword (first_holds (is_word r.keyword) (are_values (map spelling r.values)) good) at (t ++ rest) refl in
    first_then r.keyword t rest _ r one (weak (maps make (values_again r.values (second_holds (is_word r.keyword) (are_values (map spelling r.values)) good) one.to rest)))

keyword_of : (r : Record) → is_record r ≡ true → is_word r.keyword ≡ true
keyword_of r good = first_holds (is_word r.keyword) (are_values (map spelling r.values)) good

a_record : (r : Record) → is_record r ≡ true → (at : ℕ) (rest : List ℕ) → sees k.Word (lexemes at (record_text r ++ rest)) ≡ true
unfolding same_kind
a_record r good at rest = ap (sees k.Word) (word_front r.keyword _ rest (keyword_of r good) at)

no_open : (r : Record) → is_record r ≡ true → (at : ℕ) (rest : List ℕ) → sees k.Open (lexemes at (record_text r ++ rest)) ≡ false
unfolding same_kind
no_open r good at rest = ap (sees k.Open) (word_front r.keyword _ rest (keyword_of r good) at)

no_word : (at : ℕ) (rest : List ℕ) → sees k.Word (lexemes at (41 ∷ rest)) ≡ false
unfolding same_kind
no_word at rest = ap (sees k.Word) (close_mark at rest)

more_records : (rs found : List Record) (at : ℕ) (rest : List ℕ) → list_all is_record rs ≡ true → Reads (repeat (sees k.Word) record_form found) (flat_map record_text rs) (found ++ rs) at (41 ∷ rest)
more_records [] found at rest good = rw (append-nil found) (no_turn (sees k.Word) record_form found at (41 ∷ rest) (no_word at rest))
more_records (r ∷ rs) found at rest good =
    let is = first_holds (is_record r) (list_all is_record rs) good in
    let u = flat_map record_text rs in
    let one = record_again r is at (u ++ 41 ∷ rest) in
    let others = more_records rs (found ++ r ∷ []) one.to rest (second_holds (is_record r) (list_all is_record rs) good) in
    one_turn (sees k.Word) record_form found (found ++ r ∷ rs) (record_text r) u (41 ∷ rest) (a_record r is at (u ++ 41 ∷ rest)) one (rw (sym (append_assoc found (r ∷ []) rs)) others)

records_again : (r : Record) (rs : List Record) → list_all is_record (r ∷ rs) ≡ true → (at : ℕ) (rest : List ℕ) → Again records (flat_map record_text (r ∷ rs)) (r ∷ rs) at (41 ∷ rest)
unfolding records
records_again r rs good at rest =
    let u = flat_map record_text rs in
    let one = record_again r (first_holds (is_record r) (list_all is_record rs) good) at (u ++ 41 ∷ rest) in
    first_then (record_text r) u (41 ∷ rest) _ (r ∷ rs) one (more_records rs (r ∷ []) one.to rest (second_holds (is_record r) (list_all is_record rs) good))

-- ---- mappings

pub mapping_again : (m : Mapping) → is_mapping m ≡ true → ReadsAnywhere mapping_form (mapping_text m) m
unfolding mapping_form
mapping_again (Internal r) good = λ at rest. other (sees k.Open) _ _ (no_open r good at rest) (maps Internal (record_again r good at rest))
mapping_again (External []) good = cc
mapping_again (External (r ∷ rs)) good = λ at rest.
    let t = flat_map record_text (r ∷ rs) in
    let one = takes-open at ((t ++ 41 ∷ []) ++ rest) in
    let two = records_again r rs (second_holds (nat_lt 0 (length (r ∷ rs))) (list_all is_record (r ∷ rs)) good) one.to rest in
    chosen (sees k.Open) _ _ (an_open at ((t ++ 41 ∷ []) ++ rest))
    (first_then (40 ∷ []) (t ++ 41 ∷ []) rest _ (External (r ∷ rs)) one
    (weak (first_then t (41 ∷ []) rest _ (External (r ∷ rs)) two (closes (External (r ∷ rs)) two.to rest))))

-- ---- instances

name_step : (n : ℕ) → is_name n ≡ true → (at : ℕ) (s : Lexemes) → name (before (lexeme k.Name at (35 ∷ decimal n)) s) ≡ Ok (n, s)
unfolding name expect same_kind
name_step n good at s = ap (λ m. Ok (m, s)) (number_of-decimal n (small n good))

name_front : (n : ℕ) → is_name n ≡ true → (at : ℕ) (rest : List ℕ) → lexemes at ((35 ∷ decimal n) ++ 61 ∷ rest) ≡ before (lexeme k.Name at (35 ∷ decimal n)) (lexemes (at + length (35 ∷ decimal n)) (61 ∷ rest))
name_front n good at rest = token k.Name (35 ∷ decimal n) (stands-reference n good) (omega arith) at (61 ∷ rest) refl

takes-name : (n : ℕ) → is_name n ≡ true → (at : ℕ) (rest : List ℕ) → Again name (35 ∷ decimal n) n at (61 ∷ rest)
takes-name n good at rest =
    let first = name_front n good at rest in
    record {
      to = at + length (35 ∷ decimal n);
      reads = ap name first ∙ name_step n good at (lexemes (at + length (35 ∷ decimal n)) (61 ∷ rest));
      fewer = rw first (omega arith);
    }

pub instance_again : (i : Instance) → is_instance i ≡ true → ReadsAnywhere instance (instance_text i) i
unfolding instance
instance_again i good = λ at rest.
    let m = mapping_text i.mapping in
    let one = takes-name i.name (first_holds (is_name i.name) (is_mapping i.mapping) good) at ((m ++ 59 ∷ []) ++ rest) in
    let two = takes-equals one.to ((m ++ 59 ∷ []) ++ rest) in
    let three = mapping_again i.mapping (second_holds (is_name i.name) (is_mapping i.mapping) good) two.to (59 ∷ rest) in
    first_then (35 ∷ decimal i.name) (61 ∷ (m ++ 59 ∷ [])) rest _ i one
    (weak (first_then (61 ∷ []) (m ++ 59 ∷ []) rest _ i two
    (weak (first_then m (59 ∷ []) rest _ i three (ends i three.to rest)))))

a_name : (i : Instance) → is_instance i ≡ true → (at : ℕ) (rest : List ℕ) → sees k.Name (lexemes at ((instance_text i ++ 10 ∷ []) ++ rest)) ≡ true
unfolding same_kind
a_name i good at rest =
    let n = 35 ∷ decimal i.name in
    let m = mapping_text i.mapping ++ 59 ∷ [] in
    let joined : (instance_text i ++ 10 ∷ []) ++ rest ≡ n ++ 61 ∷ (m ++ 10 ∷ rest) = append_assoc (instance_text i) (10 ∷ []) rest ∙ append_assoc n (61 ∷ m) (10 ∷ rest) in
    ap (λ l. sees k.Name (lexemes at l)) joined ∙ ap (sees k.Name) (name_front i.name (first_holds (is_name i.name) (is_mapping i.mapping) good) at (m ++ 10 ∷ rest))

-- up to what is no instance
all_lines : (is found : List Instance) (at : ℕ) (rest : List ℕ) → ((at : ℕ) → sees k.Name (lexemes at rest) ≡ false) → list_all is_instance is ≡ true → Reads (repeat (sees k.Name) instance found) (lines is) (found ++ is) at rest
all_lines [] found at rest stops good = rw (append-nil found) (no_turn (sees k.Name) instance found at rest (stops at))
all_lines (i ∷ is) found at rest stops good =
    let first = first_holds (is_instance i) (list_all is_instance is) good in
    let u = lines is in
    let one = with_feed (instance_text i) (u ++ rest) (instance_again i first at (10 ∷ (u ++ rest))) in
    let others = all_lines is (found ++ i ∷ []) one.to rest stops (second_holds (is_instance i) (list_all is_instance is) good) in
    one_turn (sees k.Name) instance found (found ++ i ∷ is) (instance_text i ++ 10 ∷ []) u rest (a_name i first at (u ++ rest)) one (rw (sym (append_assoc found (i ∷ []) is)) others)

pub instances_again : (is : List Instance) (at : ℕ) (rest : List ℕ) → ((at : ℕ) → sees k.Name (lexemes at rest) ≡ false) → list_all is_instance is ≡ true → Reads instances (lines is) is at rest
unfolding instances
instances_again is at rest stops good = all_lines is [] at rest stops good

-- lines in front of what is no instance are read as their instances
pub lines_again : (is : List Instance) (at : ℕ) (rest : List ℕ) → list_all is_instance is ≡ true → ((at : ℕ) → sees k.Name (lexemes at rest) ≡ false) → (to : ℕ) × (instances (lexemes at (lines is ++ rest)) ≡ Ok (is, lexemes to rest))
lines_again is at rest good stops = let all = instances_again is at rest stops good in (all.to, all.reads)
