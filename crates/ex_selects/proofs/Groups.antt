-- The aggregates that a list may be of, level by level.
use Rattle.std.proofs.Common.{◌≡◌, ℕ, zero, suc, List, [], ◌∷◌, ◌++◌, map, length, take, get_or, slice_get, ◌+◌, ◌-◌, ◌<◌, Option, Some, None, refl, ◌∙◌, ap, arith}
use Rattle.std.proofs.lemmas.List.{append_assoc, map-append, take_more}
use Rattle.std.proofs.lemmas.List.Elements.{filter_map-append}
use Rattle.std.proofs.lemmas.Option.{slice_get-get_or}
use Rattle.std.specs.List.{filter_map, cons_option}
use Rattle.std.specs.Option.{option_to_list}
use Rattle.ex_named.specs.declared.declaration.NamedType.{NamedType}
use Rattle.ex_selects.specs.declared.ends.Target as code
use Rattle.ex_selects.specs.declared.levels.Candidate.{Candidate}
use Rattle.ex_selects.specs.declared.levels.Level.{Level}
use Rattle.ex_selects.specs.Seen.{seen, seen_target}
use Rattle.ex_selects.specs.Levels.{Keeps, PossibleAggregate, IsGroup, chosen_aggregate, aggregates, AreGroups, IsLevel, AreLevels, last_asking}
use Rattle.ex_selects.proofs.Places.{kept_at, new_at}

-- ---- types that are put

pub keeps_all : (ds : List code.Target) → Keeps ds ds
keeps_all ds place t e = e

pub keeps_push : (ds es : List code.Target) (d : code.Target) → es ≡ ds ++ d ∷ [] → Keeps ds es
keeps_push ds es d is place t e = rw (is, map-append seen_target ds (d ∷ [])) (kept_at (map seen_target ds) (seen_target d) place t e)

pub keeps_both : (ds es fs : List code.Target) → Keeps ds es → Keeps es fs → Keeps ds fs
keeps_both ds es fs first second place t e = second place t (first place t e)

seen_length : (ds : List code.Target) → length (map seen_target ds) ≡ length ds
seen_length [] = refl
seen_length (d ∷ ds) = ap suc (seen_length ds)

pub pushed_there : (ds es : List code.Target) (d : code.Target) → es ≡ ds ++ d ∷ [] → slice_get (map seen_target es) (length ds) ≡ Some (seen_target d)
pushed_there ds es d is =
    rw (is, map-append seen_target ds (d ∷ []), ← seen_length ds) (new_at (map seen_target ds) (seen_target d))

-- ---- groups

pub group_kept : (ds es : List code.Target) (g : List Candidate) (qs : List PossibleAggregate) → Keeps ds es → IsGroup ds g qs → IsGroup es g qs
group_kept ds es [] [] keeps is = tt
group_kept ds es [] (a ∷ qs) keeps is = absurd is
group_kept ds es (c ∷ g) [] keeps is = absurd is
group_kept ds es (c ∷ g) (a ∷ qs) keeps is = (is.0, (keeps c.place a.target is.1.0, group_kept ds es g qs keeps is.1.1))

pub group_more : (ds : List code.Target) (g : List Candidate) (qs : List PossibleAggregate) (c : Candidate) (a : PossibleAggregate) → IsGroup ds g qs → c.number ≡ a.number
    → slice_get (map seen_target ds) c.place ≡ Some a.target → IsGroup ds (g ++ c ∷ []) (qs ++ a ∷ [])
group_more ds [] [] c a is number place = (number, (place, tt))
group_more ds [] (b ∷ qs) c a is number place = absurd is
group_more ds (d ∷ g) [] c a is number place = absurd is
group_more ds (d ∷ g) (b ∷ qs) c a is number place = (is.0, (is.1.0, group_more ds g qs c a is.1.1 number place))

module _ (types : List NamedType) where
  pub groups_kept : (ds es : List code.Target) (ts : List code.Target) (gs : List (List Candidate)) → Keeps ds es → AreGroups types ds ts gs → AreGroups types es ts gs
  groups_kept ds es [] [] keeps are = tt
  groups_kept ds es [] (g ∷ gs) keeps are = absurd are
  groups_kept ds es (t ∷ ts) [] keeps are = absurd are
  groups_kept ds es (t ∷ ts) (g ∷ gs) keeps are =
      (group_kept ds es g (aggregates types (seen t.base)) keeps are.0, groups_kept ds es ts gs keeps are.1)

  pub groups_more : (ds : List code.Target) (ts : List code.Target) (gs : List (List Candidate)) (t : code.Target) (g : List Candidate) → AreGroups types ds ts gs
      → IsGroup ds g (aggregates types (seen t.base)) → AreGroups types ds (ts ++ t ∷ []) (gs ++ g ∷ [])
  groups_more ds [] [] t g are is = (is, tt)
  groups_more ds [] (h ∷ gs) t g are is = absurd are
  groups_more ds (u ∷ ts) [] t g are is = absurd are
  groups_more ds (u ∷ ts) (h ∷ gs) t g are is = (are.0, groups_more ds ts gs t g are.1 is)

  -- ---- levels

  pub levels_more : (asking : List code.Target) (ls : List Level) (l : Level) → AreLevels types asking ls → IsLevel types (last_asking asking ls) l
      → AreLevels types asking (ls ++ l ∷ [])
  levels_more asking [] l are is = (is, tt)
  levels_more asking (k ∷ ls) l are is = (are.0, levels_more k.targets.items ls l are.1 is)

  pub group_there : (ds ts : List code.Target) (gs : List (List Candidate)) (place : ℕ) (t : code.Target) → AreGroups types ds ts gs → slice_get ts place ≡ Some t
      → (g : List Candidate) × ((slice_get gs place ≡ Some g) × IsGroup ds g (aggregates types (seen t.base)))
  group_there ds [] gs place t are e = cc
  group_there ds (u ∷ ts) [] place t are e = absurd are
  group_there ds (u ∷ ts) (g ∷ gs) zero t are e =
      let same : u ≡ t = cc in
      (g, (refl, rw (← same) are.0))
  group_there ds (u ∷ ts) (g ∷ gs) (suc place) t are e = group_there ds ts gs place t are.1 e

pub last_some : (asking : List code.Target) (ls : List Level) (l : Level) → slice_get ls (length ls - 1) ≡ Some l → last_asking asking ls ≡ l.targets.items
last_some asking [] l e = cc
last_some asking (k ∷ []) l e = let same : k ≡ l = cc in ap (λ l. l.targets.items) same
last_some asking (k ∷ m ∷ ls) l e =
    let same : length (k ∷ m ∷ ls) - 1 ≡ suc (length (m ∷ ls) - 1) = omega arith in
    last_some k.targets.items (m ∷ ls) l (rw same at e)

pub last_none : (asking : List code.Target) (ls : List Level) → slice_get ls (length ls - 1) ≡ None → last_asking asking ls ≡ asking
last_none asking [] e = refl
last_none asking (k ∷ ls) e =
    let within : length (k ∷ ls) - 1 < length (k ∷ ls) = omega arith in
    let there = slice_get-get_or (k ∷ ls) (length (k ∷ ls) - 1) k within in cc

options_more : {B : Type 0} (f : ℕ → Option B) (ks : List ℕ) (i : ℕ) → i < length ks
    → filter_map f (take (i + 1) ks) ≡ filter_map f (take i ks) ++ option_to_list (f (get_or ks i 0))
options_more {B = B} f ks i within =
    ap (filter_map f) (take_more ks i 0 within) ∙ filter_map-append f (take i ks) (get_or ks i 0 ∷ []) ∙ ap (λ xs. filter_map f (take i ks) ++ xs) (at_last (f (get_or ks i 0)))
  where
    at_last : (o : Option B) → cons_option o [] ≡ option_to_list o
    at_last None = refl
    at_last (Some x) = refl

pub choices_more : (types : List NamedType) (ds : List code.Target) (g : List Candidate) (qs : List PossibleAggregate) (ks : List ℕ) (i : ℕ) → i < length ks
    → IsGroup ds g ((qs ++ filter_map (chosen_aggregate types) (take i ks)) ++ option_to_list (chosen_aggregate types (get_or ks i 0)))
    → IsGroup ds g (qs ++ filter_map (chosen_aggregate types) (take (i + 1) ks))
choices_more types ds g qs ks i within is =
    rw (options_more (chosen_aggregate types) ks i within, ← append_assoc qs (filter_map (chosen_aggregate types) (take i ks)) (option_to_list (chosen_aggregate types (get_or ks i 0)))) is
