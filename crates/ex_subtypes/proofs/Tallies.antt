-- What is taken of parts that are joined, by a count of those that have something.
use Rattle.std.proofs.Common.{◌≡◌, ℕ, zero, suc, ◌+◌, ◌<◌, ◌≤◌, true, false, ◌==◌, nat_lt, if◌then◌else◌, List, [], ◌∷◌, length, get_or, map, take, drop, fold, min, refl, sym, ◌∙◌, ap, arith}
use Rattle.std.proofs.lemmas.Bool.{le-ltb, lt-ltb, ne_eqb}
use Rattle.std.proofs.lemmas.List.{drop-drop, drop_more, length-drop}
use Rattle.ex_subtypes.specs.declared.choices.Choice.{Choice}
use Rattle.ex_subtypes.specs.declared.choices.Choice.TheVariants.{Nothing, Combination, Neither}
use Rattle.ex_subtypes.specs.declared.choices.Connective.{Connective}
use Rattle.ex_subtypes.specs.declared.choices.Connective.TheVariants.{OneOf, And, AndOr}
use Rattle.ex_subtypes.specs.declared.nodes.Node.{Node}
use Rattle.ex_subtypes.specs.Combinations.{joined}
use Rattle.ex_subtypes.specs.Legal.{is_neither}
use Rattle.ex_subtypes.specs.Nodes.{before, behind, by_count, dealt, taken_at, with_part}
use Rattle.ex_subtypes.specs.Walks.{both_choice, either_choice, either_or_both_choice, join_choices}
use Rattle.ex_subtypes.proofs.Placed.{none_taken}

-- what is taken of so many parts, where a combination is taken of as many before these as the count says
abbrev pub counted : Connective → ℕ → ℕ → List Choice → Choice
counted way parts count [] = by_count way count parts
counted way parts count (c ∷ cs) = if is_neither c then Neither else counted way parts (with_part count c) cs

-- ---- the count tells what joining them gives

some_parts : (count : ℕ) → 0 < count → (count == 0) ≡ false
some_parts count h = ne_eqb count 0 (λ e. absurd (omega arith))

neither_join : (way : Connective) (c : Choice) → join_choices way Neither c ≡ Neither
neither_join OneOf c = refl
neither_join And Nothing = refl
neither_join And Combination = refl
neither_join And Neither = refl
neither_join AndOr c = refl

fold_neither : (way : Connective) (cs : List Choice) → fold (join_choices way) Neither cs ≡ Neither
fold_neither way [] = refl
fold_neither way (c ∷ cs) = ap (λ d. fold (join_choices way) d cs) (neither_join way c) ∙ fold_neither way cs

two_or_more : (parts count : ℕ) → 1 < count → (cs : List Choice) → counted OneOf parts count cs ≡ Neither
two_or_more parts count h [] = rw (some_parts count (omega arith), lt-ltb 1 count h) refl
two_or_more parts count h (Nothing ∷ cs) = two_or_more parts count h cs
two_or_more parts count h (Combination ∷ cs) = two_or_more parts (count + 1) (omega arith) cs
two_or_more parts count h (Neither ∷ cs) = refl

one_of_first : (parts : ℕ) (cs : List Choice) → fold either_choice Combination cs ≡ counted OneOf parts 1 cs
one_of_first parts [] = refl
one_of_first parts (Nothing ∷ cs) = one_of_first parts cs
one_of_first parts (Combination ∷ cs) = fold_neither OneOf cs ∙ sym (two_or_more parts 2 (omega arith) cs)
one_of_first parts (Neither ∷ cs) = fold_neither OneOf cs

one_of_none : (parts : ℕ) (cs : List Choice) → fold either_choice Nothing cs ≡ counted OneOf parts 0 cs
one_of_none parts [] = refl
one_of_none parts (Nothing ∷ cs) = one_of_none parts cs
one_of_none parts (Combination ∷ cs) = one_of_first parts cs
one_of_none parts (Neither ∷ cs) = fold_neither OneOf cs

any_first : (parts count : ℕ) → 0 < count → (cs : List Choice) → fold either_or_both_choice Combination cs ≡ counted AndOr parts count cs
any_first parts count h [] = rw (some_parts count h) refl
any_first parts count h (Nothing ∷ cs) = any_first parts count h cs
any_first parts count h (Combination ∷ cs) = any_first parts (count + 1) (omega arith) cs
any_first parts count h (Neither ∷ cs) = fold_neither AndOr cs

any_none : (parts : ℕ) (cs : List Choice) → fold either_or_both_choice Nothing cs ≡ counted AndOr parts 0 cs
any_none parts [] = refl
any_none parts (Nothing ∷ cs) = any_none parts cs
any_none parts (Combination ∷ cs) = any_first parts 1 (omega arith) cs
any_none parts (Neither ∷ cs) = fold_neither AndOr cs

-- some parts, but not all
some_lack : (parts count : ℕ) (cs : List Choice) → 0 < count → count + length cs < parts → counted And parts count cs ≡ Neither
some_lack parts count [] some few = rw (some_parts count some, lt-ltb count parts (omega arith)) refl
some_lack parts count (Nothing ∷ cs) some few = some_lack parts count cs some (omega arith)
some_lack parts count (Combination ∷ cs) some few = some_lack parts (count + 1) cs (omega arith) (omega arith)
some_lack parts count (Neither ∷ cs) some few = refl

all_first : (parts count : ℕ) (cs : List Choice) → 0 < count → count + length cs ≡ parts → fold both_choice Combination cs ≡ counted And parts count cs
all_first parts count [] some all = rw (some_parts count some, le-ltb count parts (omega arith)) refl
all_first parts count (Nothing ∷ cs) some all = fold_neither And cs ∙ sym (some_lack parts count cs some (omega arith))
all_first parts count (Combination ∷ cs) some all = all_first parts (count + 1) cs (omega arith) (omega arith)
all_first parts count (Neither ∷ cs) some all = fold_neither And cs

all_none : (parts : ℕ) (cs : List Choice) → length cs < parts → fold both_choice Nothing cs ≡ counted And parts 0 cs
all_none parts [] few = refl
all_none parts (Nothing ∷ cs) few = all_none parts cs (omega arith)
all_none parts (Combination ∷ cs) few = fold_neither And cs ∙ sym (some_lack parts 1 cs (omega arith) (omega arith))
all_none parts (Neither ∷ cs) few = fold_neither And cs

by_counting : (way : Connective) (cs : List Choice) → joined Nothing (join_choices way) cs ≡ counted way (length cs) 0 cs
by_counting OneOf [] = refl
by_counting OneOf (Nothing ∷ cs) = one_of_none (suc (length cs)) cs
by_counting OneOf (Combination ∷ cs) = one_of_first (suc (length cs)) cs
by_counting OneOf (Neither ∷ cs) = fold_neither OneOf cs
by_counting And [] = refl
by_counting And (Nothing ∷ cs) = all_none (suc (length cs)) cs (omega arith)
by_counting And (Combination ∷ cs) = all_first (suc (length cs)) 1 cs (omega arith) (omega arith)
by_counting And (Neither ∷ cs) = fold_neither And cs
by_counting AndOr [] = refl
by_counting AndOr (Nothing ∷ cs) = any_none (suc (length cs)) cs
by_counting AndOr (Combination ∷ cs) = any_first (suc (length cs)) 1 (omega arith) cs
by_counting AndOr (Neither ∷ cs) = fold_neither AndOr cs

-- ---- part by part

-- what is still to be counted, from a part on, where these places are left
abbrev pub rest : List Node → List ℕ → ℕ → List ℕ → List Choice
rest parts ends part places = dealt (map taken_at (drop part parts)) (drop part ends) places

dealt_length : (parts : List Node) (ends places : List ℕ) → length (dealt (map taken_at parts) ends places) ≡ length parts
dealt_length [] ends places = refl
dealt_length (x ∷ parts) [] places = ap suc (dealt_length parts [] places)
dealt_length (x ∷ parts) (end ∷ ends) places = ap suc (dealt_length parts ends (behind end places))

-- before the first part nothing is counted
pub none_counted : (way : Connective) (parts : List Node) (ends places : List ℕ) → counted way (length parts) 0 (rest parts ends 0 places) ≡ joined Nothing (join_choices way) (dealt (map taken_at parts) ends places)
none_counted way parts ends places =
    let cs = dealt (map taken_at parts) ends places in
    ap (λ many. counted way many 0 cs) (sym (dealt_length parts ends places)) ∙ sym (by_counting way cs)

module _ (way : Connective) (many count : ℕ) where
  skipped : (c : Choice) (cs : List Choice) → c ≡ Nothing → counted way many count (c ∷ cs) ≡ counted way many count cs
  skipped c cs is = ap (λ d. counted way many count (d ∷ cs)) is

  no_ends : (parts : List Node) (places : List ℕ) → counted way many count (dealt (map taken_at parts) [] places) ≡ by_count way count many
  no_ends [] places = refl
  no_ends (x ∷ parts) places = skipped (taken_at x []) (dealt (map taken_at parts) [] places) (none_taken x) ∙ no_ends parts places

  no_places : (parts : List Node) (ends : List ℕ) → counted way many count (dealt (map taken_at parts) ends []) ≡ by_count way count many
  no_places [] ends = refl
  no_places (x ∷ parts) [] = no_ends (x ∷ parts) []
  no_places (x ∷ parts) (end ∷ ends) = skipped (taken_at x []) (dealt (map taken_at parts) ends []) (none_taken x) ∙ no_places parts ends

  -- where no places are left, no part has any
  pub none_left : (parts : List Node) (ends : List ℕ) (part : ℕ) (places : List ℕ) → length places ≤ 0 → counted way many count (rest parts ends part places) ≡ by_count way count many
  none_left parts ends part [] none = no_places (drop part parts) (drop part ends)
  none_left parts ends part (p ∷ places) none = absurd (omega arith)

  done : (parts : List Node) (ends places : List ℕ) → min (length ends) (length parts) ≤ 0 → counted way many count (dealt (map taken_at parts) ends places) ≡ by_count way count many
  done [] ends places none = refl
  done (x ∷ parts) [] places none = no_ends (x ∷ parts) places
  done (x ∷ parts) (end ∷ ends) places none = absurd (omega arith)

  all_behind : (end : ℕ) (places : List ℕ) → ((i : ℕ) → i < length places → end ≤ get_or places i 0) → (before end places ≡ []) × (behind end places ≡ places)
  all_behind end [] least = (refl, refl)
  all_behind end (p ∷ places) least =
      let high : nat_lt p end ≡ false = le-ltb p end (least 0 (omega arith)) in
      let more = all_behind end places (λ i h. least (suc i) (omega arith)) in
      (rw high more.0, rw high (ap (λ ps. p ∷ ps) more.1))

  passes : (j : ℕ) (parts : List Node) (ends places : List ℕ) → j ≤ length ends → ((k : ℕ) → k < j → (i : ℕ) → i < length places → get_or ends k 0 ≤ get_or places i 0)
      → counted way many count (dealt (map taken_at parts) ends places) ≡ counted way many count (dealt (map taken_at (drop j parts)) (drop j ends) places)
  passes zero parts ends places within low = refl
  passes (suc j) [] ends places within low = refl
  passes (suc j) (x ∷ parts) [] places within low = absurd (omega arith)
  passes (suc j) (x ∷ parts) (end ∷ ends) places within low =
      let here = all_behind end places (low 0 (omega arith)) in
      skipped (taken_at x (before end places)) (dealt (map taken_at parts) ends (behind end places)) (ap (taken_at x) here.0 ∙ none_taken x)
      ∙ ap (λ ps. counted way many count (dealt (map taken_at parts) ends ps)) here.1
      ∙ passes j parts ends places (omega arith) (λ k h. low (suc k) (omega arith))

  -- parts that end before the places that are left have none of them
  pub passed_over : (parts : List Node) (ends places : List ℕ) (part j : ℕ) → j ≤ length (drop part ends) → ((k : ℕ) → k < j → (i : ℕ) → i < length places → get_or (drop part ends) k 0 ≤ get_or places i 0)
      → counted way many count (rest parts ends (part + j) places) ≡ counted way many count (rest parts ends part places)
  passed_over parts ends places part j within low = rw (← drop-drop j part parts, ← drop-drop j part ends) (sym (passes j (drop part parts) (drop part ends) places within low))

  -- where no part is left that ends, none has any
  pub none_behind : (parts : List Node) (ends : List ℕ) (part : ℕ) (places : List ℕ) → min (length ends) (length parts) ≤ part → counted way many count (rest parts ends part places) ≡ by_count way count many
  none_behind parts ends part places h = done (drop part parts) (drop part ends) places (omega (arith, length-drop part parts, length-drop part ends))

  -- one part, and then those behind it
  pub split : (parts : List Node) (ends places : List ℕ) (part m : ℕ) (d : Node) → part < length parts → part < length ends → take m places ≡ before (get_or ends part 0) places → drop m places ≡ behind (get_or ends part 0) places
      → counted way many count (rest parts ends part places) ≡ counted way many count (taken_at (get_or parts part d) (take m places) ∷ rest parts ends (part + 1) (drop m places))
  split parts ends places part m d in_parts in_ends here others = rw (drop_more parts part d, drop_more ends part 0, here, others) refl

  pub goes_on : (c : Choice) (cs : List Choice) → is_neither c ≡ false → counted way many count (c ∷ cs) ≡ counted way many (with_part count c) cs
  goes_on c cs is = rw is refl

  pub stops : (c : Choice) (cs : List Choice) → is_neither c ≡ true → counted way many count (c ∷ cs) ≡ Neither
  stops c cs is = rw is refl

  -- parts are passed over, and one is looked at
  pub turn : (parts : List Node) (ends left : List ℕ) (part j m : ℕ) (d : Node) (told choice : Choice) → j ≤ length (drop part ends)
      → ((k : ℕ) → k < j → (i : ℕ) → i < length left → get_or (drop part ends) k 0 ≤ get_or left i 0)
      → part + j < length parts → part + j < length ends
      → take m left ≡ before (get_or ends (part + j) 0) left → drop m left ≡ behind (get_or ends (part + j) 0) left
      → choice ≡ taken_at (get_or parts (part + j) d) (take m left)
      → counted way many count (rest parts ends part left) ≡ told
      → counted way many count (choice ∷ rest parts ends ((part + j) + 1) (drop m left)) ≡ told
  turn parts ends left part j m d told choice within low in_parts in_ends here others is so_far =
      ap (λ c. counted way many count (c ∷ rest parts ends ((part + j) + 1) (drop m left))) is
      ∙ sym (split parts ends left (part + j) m d in_parts in_ends here others)
      ∙ passed_over parts ends left part j within low
      ∙ so_far

pub with_part-le : (count : ℕ) (c : Choice) → with_part count c ≤ count + 1
with_part-le count Nothing = omega arith
with_part-le count Combination = omega arith
with_part-le count Neither = omega arith
