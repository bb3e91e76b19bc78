-- Where the links of a model lead in a population.
use Rattle.std.proofs.Common.{◌≡◌, ℕ, ◌==◌, Bool, true, false, ◌&&◌, ◌||◌, List, [], ◌∷◌, length, Option, Some, None, refl, sym, ◌∙◌, ap, arith}
use Rattle.std.specs.Prelude.{if◌then◌else◌, slice_get}
use Rattle.std.specs.List.{AllByRecursion, find, list_any, position_or_len}
use Rattle.std.specs.Option.{option_map, unwrap_or}
use Rattle.std.specs.Cmp.Lexicographic.{nat_list_eq_equiv}
use Rattle.std.specs.declared.cmp.Ordering.{Ordering}
use Rattle.std.specs.declared.cmp.Ordering.TheVariants.{Less, Equal, Greater}
use Rattle.std.specs.Ordering.{is_eq, is_lt, nat_cmp}
use Rattle.std.proofs.lemmas.Bool.Decides.{nat_tests}
use Rattle.std.proofs.lemmas.Cmp.{nat_cmp_total}
use Rattle.std.proofs.lemmas.List.Folds.{find_at}
use Rattle.std.proofs.lemmas.Option.{slice_get-map}
use Rattle.sorted_tables.specs.Table as table
use Rattle.sorted_tables.specs.Table.{IsAscending}
use Rattle.sorted_tables.proofs.Ascending.{follows_all, none_there}
use Rattle.rp_content.specs.declared.link.Link.{Link}
use Rattle.rp_rows.specs.Contents.{link_name}
use Rattle.rp_population.specs.declared.place.Place.{Place}
use Rattle.rp_population.specs.Populations.{Placed, is_at, links_to, same_place, target_of}
use Rattle.rp_positions.specs.Positions.{place_position}
use Rattle.rp_group_domain.specs.Models.{link_of, targets_of}
use Rattle.rp_group_domain.proofs.PlaceOrder.{walked}
use Rattle.rp_group_domain.proofs.Walks.{none_passes, same_test}

both_numbers : (m k : ℕ) → (m == k) ≡ (k == m)
both_numbers m k = grind (arith, nat_tests)

pub same_place-sym : (p q : Place) → same_place p q ≡ same_place q p
same_place-sym p q = λ i. (nat_list_eq_equiv.symm q.model.owner p.model.owner i && nat_list_eq_equiv.symm q.model.name p.model.name i) && both_numbers p.instance q.instance i

abbrev is_link : ℕ → Link → Bool
is_link name = table.is_at nat_cmp link_name name

-- whether a link that was found leads to a place
abbrev leads : Place → Option Link → Bool
leads p None = false
leads p (Some l) = same_place p (target_of l)

-- the links of a name lead where the first of them does, since there is but one
one_leads : (name : ℕ) (p : Place) (links : List Link) → IsAscending nat_cmp link_name links → list_any (links_to name p) links ≡ leads p (find (is_link name) links)
one_leads name p [] order = refl
one_leads name p (l ∷ links) order = by (l.name == name) (is_link name l) refl named (one_leads name p links order.1)
  where
    named : is_link name l ≡ (l.name == name)
    named = grind (arith, nat_tests)

    none_later : is_link name l ≡ true → find (is_link name) links ≡ None
    none_later same = none_there nat_cmp link_name nat_cmp_total name links (follows_all nat_cmp link_name nat_cmp_total name l.name links (not_less (nat_cmp l.name name) same) order.0)
      where
        not_less : (t : Ordering) → is_eq t ≡ true → is_lt t ≡ false
        not_less Less h = cc
        not_less Equal h = refl
        not_less Greater h = cc

    or_none : (s : Bool) → (s || false) ≡ s
    or_none true = refl
    or_none false = refl

    by : (t u : Bool) → is_link name l ≡ u → u ≡ t → list_any (links_to name p) links ≡ leads p (find (is_link name) links)
        → ((t && same_place p (target_of l)) || list_any (links_to name p) links) ≡ leads p (if u then Some l else find (is_link name) links)
    by true true e f rest = ap (λ s. same_place p (target_of l) || s) (rest ∙ ap (leads p) (none_later e)) ∙ or_none (same_place p (target_of l))
    by true false e f rest = cc
    by false true e f rest = cc
    by false false e f rest = rest

all_fail : (xs : List Placed) → AllByRecursion (λ (x : Placed). false ≡ false) xs
all_fail [] = tt
all_fail (x ∷ xs) = (refl, all_fail xs)

pub linked_walk : (name : ℕ) (links : List Link) → IsAscending nat_cmp link_name links → (xs : List Placed)
    → position_or_len (λ (y : Placed). list_any (links_to name y.place) links) xs ≡ unwrap_or (slice_get (targets_of xs links) (link_of links name)) (length xs)
unfolding link_of
linked_walk name links order xs =
    same_test (λ (y : Placed). list_any (links_to name y.place) links) (λ (y : Placed). leads y.place (find (is_link name) links)) (λ y. one_leads name y.place links order) xs
    ∙ by (find (is_link name) links)
    ∙ ap (λ o. unwrap_or o (length xs)) (ap (option_map (λ l. place_position xs (target_of l))) (find_at (is_link name) links) ∙ sym (slice_get-map (λ l. place_position xs (target_of l)) links (position_or_len (is_link name) links)))
  where
    by : (o : Option Link) → position_or_len (λ (y : Placed). leads y.place o) xs ≡ unwrap_or (option_map (λ l. place_position xs (target_of l)) o) (length xs)
    by None = none_passes (λ (y : Placed). false) xs (all_fail xs)
    by (Some l) = same_test (λ (y : Placed). same_place y.place (target_of l)) (is_at (target_of l)) (λ y. same_place-sym y.place (target_of l)) xs ∙ sym (walked (target_of l) xs)
