-- Texts that are `SCHEMA.NAME`.
use Rattle.std.proofs.Common.{◌≡◌, ℕ, suc, Bool, true, false, ◌||◌, List, [], ◌∷◌, ◌++◌, length, take, drop, ◌+◌, Option, Some, None, is_some, option_map, if◌then◌else◌, nat_eq, Bor, refl, sym, ◌∙◌, ap}
use Rattle.std.proofs.lemmas.Bool.{false_from_ne_true}
use Rattle.std.proofs.lemmas.Bool.Decides.{Decides-eqb, Decides-like, same_from_decides}
use Rattle.std.proofs.lemmas.List.{append_cancel_left}
use Rattle.std.proofs.lemmas.Slice.Eq.{bytes_eq-Decides, strip_prefix_is}
use Rattle.std.specs.Cmp.Lexicographic.{pointwise}
use Rattle.std.specs.Option.{MatchOption}
use Rattle.std.specs.Str.{bytes_eq}
use Rattle.name_tables.specs.Names.{place_of}
use Rattle.ex_warnings.specs.Steps.{IsBehind}
use Rattle.ex_warnings.specs.Warnings.{qualified, is_qualified}

-- what taking a prefix off says
abbrev Stripped : List ℕ → List ℕ → Option (Bor (List ℕ)) → Type 0
Stripped text prefix r = MatchOption r (pointwise nat_eq (take (length prefix) text) prefix ≡ false)
    (λ x. (pointwise nat_eq (take (length prefix) text) prefix ≡ true) × (x.now ≡ drop (length prefix) text) × (length x.now + length prefix ≡ length text))

pub other_schema : (schema text : List ℕ) → Stripped text schema None → IsBehind schema text None
other_schema schema text none name is = strip_prefix_is Decides-eqb text schema None none (46 ∷ name) is

pub behind_dot : (schema text : List ℕ) (rest : Bor (List ℕ)) (r : Option (Bor (List ℕ))) → Stripped text schema (Some rest) → Stripped rest.now (46 ∷ []) r → IsBehind schema text r
behind_dot schema text rest None front dot = λ name is.
    strip_prefix_is Decides-eqb rest.now (46 ∷ []) None dot name
    (append_cancel_left schema rest.now (46 ∷ name) (sym (strip_prefix_is Decides-eqb text schema (Some rest) front) ∙ is))
behind_dot schema text rest (Some name) front dot =
    strip_prefix_is Decides-eqb text schema (Some rest) front
    ∙ ap (λ l. schema ++ l) (strip_prefix_is Decides-eqb rest.now (46 ∷ []) (Some name) dot)

pub none_of_schema : (schema text : List ℕ) (names : List (List ℕ)) → IsBehind schema text None → is_qualified schema names text ≡ false
none_of_schema schema text [] never = refl
none_of_schema schema text (n ∷ ns) never =
    rw (false_from_ne_true (bytes_eq text (qualified schema n)) (λ e. never n ((bytes_eq-Decides text (qualified schema n)).0 e)))
    (none_of_schema schema text ns never)

one_name : (schema name other : List ℕ) → qualified schema name ≡ qualified schema other → other ≡ name
one_name schema name other e = let tail : 46 ∷ name ≡ 46 ∷ other = append_cancel_left schema (46 ∷ name) (46 ∷ other) e in cc

same_test : (schema text name other : List ℕ) → text ≡ qualified schema name → bytes_eq text (qualified schema other) ≡ bytes_eq other name
same_test schema text name other is = same_from_decides (bytes_eq text (qualified schema other)) (bytes_eq other name)
    (Decides-like (bytes_eq text (qualified schema other)) (λ e. one_name schema name other (sym is ∙ e)) (λ e. is ∙ ap (qualified schema) (sym e))
    (bytes_eq-Decides text (qualified schema other)))
    (bytes_eq-Decides other name)

some_more : (o : Option ℕ) → is_some (option_map suc o) ≡ is_some o
some_more None = refl
some_more (Some k) = refl

here_or_later : (here : Bool) (later : Option ℕ) → (here || is_some later) ≡ is_some (if here then Some 0 else option_map suc later)
here_or_later true later = refl
here_or_later false later = sym (some_more later)

pub among_names : (schema text : List ℕ) (names : List (List ℕ)) (name : List ℕ) → text ≡ qualified schema name → is_qualified schema names text ≡ is_some (place_of name names)
among_names schema text [] name is = refl
among_names schema text (n ∷ ns) name is =
    rw (same_test schema text name n is, among_names schema text ns name is) (here_or_later (bytes_eq n name) (place_of name ns))
