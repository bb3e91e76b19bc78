-- A type's name stands for it alone.
use Rattle.std.proofs.Common.{◌≡◌, ◌≤◌, ◌+◌, ℕ, zero, suc, Bool, true, false, if◌then◌else◌, List, [], ◌∷◌, ◌++◌, map, Option, Some, None, option_map, slice_get, refl, sym, ◌∙◌, ap, arith}
use Rattle.std.proofs.lemmas.Option.{slice_get-map}
use Rattle.std.proofs.lemmas.Slice.Eq.{bytes_eq-Decides}
use Rattle.std.specs.List.{list_all}
use Rattle.std.specs.Str.{bytes_eq, str_to_ascii_uppercase}
use Rattle.ex_named.specs.declared.declaration.NamedType.{NamedType}
use Rattle.ex_named.specs.declared.declaration.NamedSchema.{NamedSchema}
use Rattle.ex_resolve.specs.Proved.{DeclaresOnce, count, held_types}
use Rattle.ex_types.specs.Checked.{type_names}
use Rattle.graphs.specs.Graphs.{IsAcyclic}
use Rattle.name_tables.specs.Names.{place_of}
use Rattle.p21_spelling.proofs.Runs.{first_holds, second_holds}
use Rattle.p21_spelling.specs.Tokens.{is_word}
use Rattle.ex_selects.specs.Items.{type_named}
use Rattle.p21_canonical.specs.Trees.{type_name}
use Rattle.p21_laws.specs.Types.{AreTypes, AreWords, is_upper_word}

-- what a function gives, and of what
pub given : {A B : Type 0} (f : A → B) (o : Option A) (b : B) → option_map f o ≡ Some b → (a : A) × ((o ≡ Some a) × (f a ≡ b))
given f None b e = cc
given f (Some a) b e = (a, (refl, cc))

-- ---- what stands at a place

counted : (name n : List ℕ) (ns : List (List ℕ)) (t : Bool) → bytes_eq n name ≡ t → count name (n ∷ ns) ≡ (if t then suc (count name ns) else count name ns)
counted name n ns true is = rw is refl
counted name n ns false is = rw is refl

is_counted : (name : List ℕ) (ns : List (List ℕ)) (k : ℕ) → slice_get ns k ≡ Some name → 1 ≤ count name ns
is_counted name [] k e = cc
is_counted name (n ∷ ns) zero e =
    let same : n ≡ name = cc in
    let one = counted name n ns true ((bytes_eq-Decides n name).1 same) in
    omega arith
is_counted name (n ∷ ns) (suc k) e = more (bytes_eq n name) refl (is_counted name ns k e)
  where
    more : (t : Bool) → bytes_eq n name ≡ t → 1 ≤ count name ns → 1 ≤ count name (n ∷ ns)
    more true is others = let one = counted name n ns true is in omega arith
    more false is others = let none = counted name n ns false is in omega arith

pub placed_once : (name : List ℕ) (ns : List (List ℕ)) (k : ℕ) → count name ns ≤ 1 → slice_get ns k ≡ Some name → place_of name ns ≡ Some k
placed_once name [] k once e = cc
placed_once name (n ∷ ns) zero once e = let same : n ≡ name = cc in rw ((bytes_eq-Decides n name).1 same) refl
placed_once name (n ∷ ns) (suc k) once e = by_first (bytes_eq n name) refl (λ once. placed_once name ns k once e)
  where
    by_first : (t : Bool) → bytes_eq n name ≡ t → (count name ns ≤ 1 → place_of name ns ≡ Some k) → place_of name (n ∷ ns) ≡ Some (suc k)
    by_first true is later =
        let one = counted name n ns true is in
        let others = is_counted name ns k e in
        absurd (omega arith)
    by_first false is later =
        let none = counted name n ns false is in
        rw is (ap (option_map suc) (later (omega arith)))

pub place_has : (name : List ℕ) (ns : List (List ℕ)) (k : ℕ) → place_of name ns ≡ Some k → slice_get ns k ≡ Some name
place_has name [] k e = cc
place_has name (n ∷ ns) k e = by_first (bytes_eq n name) refl (λ j. place_has name ns j)
  where
    by_first : (t : Bool) → bytes_eq n name ≡ t → ((j : ℕ) → place_of name ns ≡ Some j → slice_get ns j ≡ Some name) → slice_get (n ∷ ns) k ≡ Some name
    by_first true is later =
        let here : place_of name (n ∷ ns) ≡ Some zero = rw is refl in
        let first : zero ≡ k = cc in
        ap (slice_get (n ∷ ns)) (sym first) ∙ ap Some ((bytes_eq-Decides n name).0 is)
    by_first false is later =
        let behind : place_of name (n ∷ ns) ≡ option_map suc (place_of name ns) = rw is refl in
        let found = given suc (place_of name ns) k (sym behind ∙ e) in
        ap (slice_get (n ∷ ns)) (sym found.1.1) ∙ later found.0 found.1.0

pub passes_at : {A : Type 0} (test : A → Bool) (xs : List A) (k : ℕ) (x : A) → list_all test xs ≡ true → slice_get xs k ≡ Some x → test x ≡ true
passes_at test [] k x all e = cc
passes_at test (y ∷ xs) zero x all e = let same : y ≡ x = cc in ap test (sym same) ∙ first_holds (test y) (list_all test xs) all
passes_at test (y ∷ xs) (suc k) x all e = passes_at test xs k x (second_holds (test y) (list_all test xs) all) e

-- ---- the names of types

module _ (types : List NamedType) (are : AreTypes types) (k : ℕ) (x : NamedType) (there : slice_get types k ≡ Some x) where
  name_at : slice_get (type_names types) k ≡ Some x.name.text
  name_at = slice_get-map (λ y. y.name.text) types k ∙ ap (option_map (λ y. y.name.text)) there

  is_name : is_upper_word x.name.text ≡ true
  is_name = passes_at is_upper_word (type_names types) k x.name.text are.words.names name_at

  written_name : type_name types k ≡ x.name.text
  written_name = rw there refl

  pub name_is_word : is_word (type_name types k) ≡ true
  name_is_word = ap is_word written_name ∙ first_holds (is_word x.name.text) (bytes_eq (str_to_ascii_uppercase x.name.text) x.name.text) is_name

  upper : str_to_ascii_uppercase x.name.text ≡ x.name.text
  upper = (bytes_eq-Decides (str_to_ascii_uppercase x.name.text) x.name.text).0 (second_holds (is_word x.name.text) (bytes_eq (str_to_ascii_uppercase x.name.text) x.name.text) is_name)

  pub name_again : type_named types (type_name types k) ≡ Some k
  name_again =
      ap (type_named types) written_name
      ∙ ap (λ name. place_of name (type_names types)) upper
      ∙ placed_once x.name.text (type_names types) k (are.once x.name.text) name_at

-- the type that a keyword names is there
pub named_there : (types : List NamedType) (keyword : List ℕ) (k : ℕ) → type_named types keyword ≡ Some k → (x : NamedType) × (slice_get types k ≡ Some x)
named_there types keyword k e =
    let at = place_has (str_to_ascii_uppercase keyword) (type_names types) k e in
    let found = given (λ x. x.name.text) (slice_get types k) (str_to_ascii_uppercase keyword) (sym (slice_get-map (λ x. x.name.text) types k) ∙ at) in
    (found.0, found.1.0)

-- ---- a schema's types

pub count_both : (name : List ℕ) (ns ms : List (List ℕ)) → count name (ns ++ ms) ≡ count name ns + count name ms
count_both name [] ms = omega arith
count_both name (n ∷ ns) ms = by_first (bytes_eq n name) refl (count_both name ns ms)
  where
    by_first : (t : Bool) → bytes_eq n name ≡ t → count name (ns ++ ms) ≡ count name ns + count name ms → count name (n ∷ ns ++ ms) ≡ count name (n ∷ ns) + count name ms
    by_first true is later = let one = counted name n ns true is in let all = counted name n (ns ++ ms) true is in omega arith
    by_first false is later = let one = counted name n ns false is in let all = counted name n (ns ++ ms) false is in omega arith

first_of_all : (name : List ℕ) (a b c d e : List (List ℕ)) → count name (a ++ b ++ c ++ d ++ e) ≤ 1 → count name b ≤ 1
first_of_all name a b c d e all =
    let four = count_both name (a ++ b ++ c ++ d) e in
    let three = count_both name (a ++ b ++ c) d in
    let two = count_both name (a ++ b) c in
    let one = count_both name a b in
    omega arith

pub resolved_types : (s : NamedSchema) → DeclaresOnce s → IsAcyclic (held_types s.types) → AreWords s.types → AreTypes s.types
resolved_types s once held words = record {
  once = λ name.
      let constants : List (List ℕ) = map (λ c. c.name.text) s.constants in
      let entities : List (List ℕ) = map (λ e. e.name.text) s.entities in
      let functions : List (List ℕ) = map (λ f. f.name.text) s.functions in
      let rules : List (List ℕ) = map (λ r. r.name.text) s.rules in
      let all : count name (constants ++ type_names s.types ++ entities ++ functions ++ rules) ≤ 1 = once name in
      first_of_all name constants (type_names s.types) entities functions rules all;
  held = held;
  words = words;
}
