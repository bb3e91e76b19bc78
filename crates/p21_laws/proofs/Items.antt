-- Items of enumerations, and those of BOOLEAN and LOGICAL.
use Rattle.std.proofs.Common.{◌≡◌, ℕ, Bool, true, false, ◌==◌, if◌then◌else◌, List, [], ◌∷◌, Option, Some, None, slice_get, refl, sym, ◌∙◌, ap, arith}
use Rattle.std.proofs.lemmas.Bool.Decides.{nat_tests}
use Rattle.std.proofs.lemmas.Option.{slice_get-map}
use Rattle.std.specs.Char.{to_ascii_uppercase}
use Rattle.std.specs.List.{list_all}
use Rattle.std.specs.Option.{option_map_or}
use Rattle.std.specs.Str.{str_to_ascii_uppercase}
use Rattle.ex_named.specs.declared.declaration.NamedType.{NamedType}
use Rattle.ex_named.specs.declared.declaration.NamedUnderlying.{NamedUnderlying}
use Rattle.ex_named.specs.declared.declaration.NamedUnderlying.TheVariants as u
use Rattle.name_tables.specs.Names.{place_of}
use Rattle.p21_spelling.specs.Tokens.{is_word}
use Rattle.ex_selects.specs.Items.{items, items_by}
use Rattle.p21_values.specs.Tokens.{boolean, by_letter, logical}
use Rattle.p21_canonical.specs.Trees.{item_name, items_of, logical_name}
use Rattle.rp_numbers.specs.declared.Logical.{Logical}
use Rattle.rp_numbers.specs.declared.Logical.TheVariants as l
use Rattle.p21_laws.proofs.Names.{given, passes_at, place_has}
use Rattle.p21_laws.specs.Types.{AreTypes}

-- ---- letters

pub logical_again : (x : Logical) → logical (str_to_ascii_uppercase (logical_name x)) ≡ Some x
logical_again l.False = refl
logical_again l.Unknown = refl
logical_again l.True = refl

pub letter_is_word : (x : Logical) → is_word (logical_name x) ≡ true
letter_is_word l.False = refl
letter_is_word l.Unknown = refl
letter_is_word l.True = refl

-- no U
no_letter : (t f : Bool) → (if t then Some l.True else if f then Some l.False else None) ≡ Some l.Unknown → ⊥
no_letter true f e = cc
no_letter false true e = cc
no_letter false false e = cc

no_unknown : (letter : ℕ) (t : Bool) → (letter == 85) ≡ t → (if t then None else by_letter letter) ≡ Some l.Unknown → ⊥
no_unknown letter true is e = cc
no_unknown letter false is e =
    let rest : by_letter letter ≡ (if letter == 84 then Some l.True else if letter == 70 then Some l.False else None) = rw is refl in
    no_letter (letter == 84) (letter == 70) (sym rest ∙ e)

never_unknown : (t : List ℕ) → boolean t ≡ Some l.Unknown → ⊥
never_unknown [] e = cc
never_unknown (letter ∷ []) e = no_unknown letter (letter == 85) refl e
never_unknown (a ∷ b ∷ t) e = cc

pub boolean_again : (t : List ℕ) (x : Logical) → boolean t ≡ Some x → boolean (str_to_ascii_uppercase (logical_name x)) ≡ Some x
boolean_again t l.False e = refl
boolean_again t l.True e = refl
boolean_again t l.Unknown e = absurd (never_unknown t e)

-- ---- items

byte_twice : (c : ℕ) → to_ascii_uppercase (to_ascii_uppercase c) ≡ to_ascii_uppercase c
byte_twice c = grind (arith, nat_tests)

pub upper_twice : (t : List ℕ) → str_to_ascii_uppercase (str_to_ascii_uppercase t) ≡ str_to_ascii_uppercase t
upper_twice [] = refl
upper_twice (c ∷ t) = rw (byte_twice c, upper_twice t) refl

declared_item : (x : NamedUnderlying) (place : ℕ) (token : List ℕ) → slice_get (items_by x) place ≡ Some token → option_map_or (λ i. i.text) (slice_get (items_of x) place) [] ≡ token
declared_item (u.Enumeration is) place token e =
    let found = given (λ i. i.text) (slice_get is place) token (sym (slice_get-map (λ i. i.text) is place) ∙ e) in
    ap (λ o. option_map_or (λ i. i.text) o []) found.1.0 ∙ found.1.1
declared_item (u.Select members) place token e = cc
declared_item (u.Data d) place token e = cc

number_item : (o : Option NamedType) (place : ℕ) (token : List ℕ) → slice_get (option_map_or (λ x. items_by x.underlying) o []) place ≡ Some token
    → option_map_or (λ i. i.text) (slice_get (option_map_or (λ x. items_of x.underlying) o []) place) [] ≡ token
number_item None place token e = cc
number_item (Some x) place token e = declared_item x.underlying place token e

number_words : (types : List NamedType) (k : ℕ) (o : Option NamedType) → slice_get types k ≡ o → list_all (λ x. list_all is_word (items_by x.underlying)) types ≡ true
    → list_all is_word (option_map_or (λ x. items_by x.underlying) o []) ≡ true
number_words types k None is all = refl
number_words types k (Some x) is all = passes_at (λ x. list_all is_word (items_by x.underlying)) types k x all is

-- an item's name is the token at whose place it stands
pub item_is : (types : List NamedType) (k place : ℕ) (token : List ℕ) → place_of token (items types k) ≡ Some place → item_name types k place ≡ token
item_is types k place token e = number_item (slice_get types k) place token (place_has token (items types k) place e)

pub item_is_word : (types : List NamedType) → AreTypes types → (k place : ℕ) (token : List ℕ) → place_of token (items types k) ≡ Some place → is_word token ≡ true
item_is_word types are k place token e = passes_at is_word (items types k) place token (number_words types k (slice_get types k) refl are.words.items) (place_has token (items types k) place e)
