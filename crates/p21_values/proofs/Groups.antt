-- The aggregates that a list may be of, and which of them takes it.
use Rattle.std.proofs.Common.{◌≡◌, ℕ, zero, suc, Bool, true, false, cond, List, [], ◌∷◌, ◌++◌, map, filter, length, take, drop, get_or, slice_get, subst, OnOk, IfOk, IfSome, Result, Ok, Err, ◌+◌, ◌<◌, Option, Some, None, option_map, refl, sym, ◌∙◌, ap, arith}
use Rattle.std.proofs.lemmas.List.{append_assoc}
use Rattle.std.specs.Prelude.{⊤, is_some}
use Rattle.std.specs.List.{filter_map, cons_option, flat_map}
use Rattle.std.specs.Option.{option_map_or, option_and_then}
use Rattle.ex_named.specs.declared.declaration.NamedType.{NamedType}
use Rattle.p21_tree.specs.declared.value.Value as tree
use Rattle.p21_tree.specs.declared.value.Value.TheOpen.{Value-F}
use Rattle.rp_value.specs.declared.value.Value.{Value}
use Rattle.rp_value.specs.declared.value.Value.TheVariants as v
use Rattle.ex_selects.specs.declared.ends.Target as code
use Rattle.ex_selects.specs.declared.levels.Candidate.{Candidate}
use Rattle.ex_selects.specs.declared.levels.Level.{Level}
use Rattle.ex_selects.specs.Ends.{Target, Base, Plain, Instance, Aggregate, Enumeration, Select, Nothing, base_of, choices}
use Rattle.ex_selects.specs.Seen.{seen, seen_target}
use Rattle.p21_values.specs.Taking.{Meaning, meaning, only, of_list, by_choice, bare_at, all_there, with_first}
use Rattle.ex_selects.specs.Kept.{single}
use Rattle.ex_selects.specs.Levels.{PossibleAggregate, IsGroup, element, chosen_aggregate, aggregates, AreGroups}
use Rattle.p21_values.specs.Deciding.{takes_each, at, only_candidate, StartsWith, rows_by, row, rows_of_list, rows}
use Rattle.p21_values.proofs.Several.{among_rest}
use Rattle.p21_values.proofs.Decided.{mapped, list_decided, at_found, picked}

-- ---- which takes a list

-- a value under the name of a type, if there is one
abbrev pub under : Option ℕ → Option Value → Option Value
under None o = o
under (Some k) o = option_map (v.Named k) o

module _ (types : List NamedType) (base : Base) where
  -- the type that an aggregate is which stands for a list at the base
  abbrev pub base_in : Option ℕ → Base
  base_in None = base
  base_in (Some k) = base_of types k

  abbrev pub HaveElements : List PossibleAggregate → Type 0
  HaveElements [] = ⊤
  HaveElements (a ∷ qs) = (element types (base_in a.number) ≡ Some a.target) × HaveElements qs

have_choices : (types : List NamedType) (base : Base) (ks : List ℕ) → HaveElements types base (filter_map (chosen_aggregate types) ks)
have_choices types base [] = tt
have_choices types base (k ∷ ks) = at_choice (element types (base_of types k)) refl (have_choices types base ks)
  where
    at_choice : (o : Option Target) → element types (base_of types k) ≡ o → HaveElements types base (filter_map (chosen_aggregate types) ks)
        → HaveElements types base (cons_option (option_map (λ t. record { number = Some k; target = t }) o) (filter_map (chosen_aggregate types) ks))
    at_choice None e more = more
    at_choice (Some t) e more = (e, more)

have_elements : (types : List NamedType) (base : Base) → HaveElements types base (aggregates types base)
have_elements types (Select number) = have_choices types (Select number) (choices types number)
have_elements types (Aggregate kind low inner) = (refl, tt)
have_elements types (Plain simple) = tt
have_elements types Instance = tt
have_elements types (Enumeration number) = tt
have_elements types Nothing = tt

module _ (types : List NamedType) (ms : List Meaning) (base : Base) where
  -- what a list is, where a candidate of this number takes it
  abbrev pub value_at : Option ℕ → Option Value
  value_at number = under number (of_list types ms (base_in types base number))

  under_some : (number : Option ℕ) (o : Option Value) → is_some (under number o) ≡ is_some o
  under_some None o = refl
  under_some (Some k) o = mapped (v.Named k) o

  taken_there : (number : Option ℕ) (t : Target) → element types (base_in types base number) ≡ Some t → is_some (value_at number) ≡ takes_each ms t
  taken_there number t e =
      under_some number (of_list types ms (base_in types base number)) ∙ list_decided types ms (base_in types base number)
      ∙ ap (λ o. option_map_or (takes_each ms) o false) e

  nothing : (o : Option Value) → is_some o ≡ false → o ≡ None
  nothing None e = refl
  nothing (Some x) e = cc

  chosen_values : (ks : List ℕ) → filter_map (by_choice types (of_list types ms)) ks ≡ filter_map (λ a. value_at a.number) (filter_map (chosen_aggregate types) ks)
  chosen_values [] = refl
  chosen_values (k ∷ ks) = at_choice (element types (base_of types k)) refl (chosen_values ks)
    where
      at_choice : (o : Option Target) → element types (base_of types k) ≡ o
          → filter_map (by_choice types (of_list types ms)) ks ≡ filter_map (λ a. value_at a.number) (filter_map (chosen_aggregate types) ks)
          → cons_option (by_choice types (of_list types ms) k) (filter_map (by_choice types (of_list types ms)) ks)
          ≡ filter_map (λ a. value_at a.number) (cons_option (option_map (λ t. record { number = Some k; target = t }) o) (filter_map (chosen_aggregate types) ks))
      at_choice None e more =
          let none : by_choice types (of_list types ms) k ≡ None = nothing (by_choice types (of_list types ms) k)
          (mapped (v.Named k) (of_list types ms (base_of types k)) ∙ list_decided types ms (base_of types k) ∙ ap (λ o. option_map_or (takes_each ms) o false) e) in
          ap (λ o. cons_option o (filter_map (by_choice types (of_list types ms)) ks)) none ∙ more
      at_choice (Some t) e more = ap (cons_option (by_choice types (of_list types ms) k)) more

lone : (o : Option Value) → o ≡ only (cons_option o [])
lone None = refl
lone (Some x) = refl

bare_aggregates : (types : List NamedType) (ms : List Meaning) (base : Base)
    → bare_at types (of_list types ms) base ≡ only (filter_map (λ a. value_at types ms base a.number) (aggregates types base))
bare_aggregates types ms (Select number) = ap only (chosen_values types ms (Select number) (choices types number))
bare_aggregates types ms (Aggregate kind low inner) = lone (of_list types ms (Aggregate kind low inner))
bare_aggregates types ms (Plain simple) = refl
bare_aggregates types ms Instance = refl
bare_aggregates types ms (Enumeration number) = refl
bare_aggregates types ms Nothing = refl

-- one of them alone, of which it holds
single_holds : {A : Type 0} (p : A → Bool) (R : A → Type 0) (x y : A) (b : Bool) (ys : List A) → single (cond b (x ∷ ys) ys) ≡ Some y → R x
    → (single ys ≡ Some y → R y) → R y
single_holds p R x y true [] e holds more = let same : x ≡ y = cc in subst_to same holds
  where
    subst_to : x ≡ y → R x → R y
    subst_to same holds = rw (← same) holds
single_holds p R x y true (z ∷ ys) e holds more = cc
single_holds p R x y false ys e holds more = more e

some_single : {A : Type 0} (h : A → Option Value) (xs : List A) → is_some (option_and_then h (single (filter (λ x. is_some (h x)) xs))) ≡ is_some (single (filter (λ x. is_some (h x)) xs))
some_single h [] = refl
some_single h (x ∷ xs) = at_first (is_some (h x)) refl (filter (λ x. is_some (h x)) xs) (some_single h xs)
  where
    at_first : (b : Bool) → is_some (h x) ≡ b → (ys : List _) → is_some (option_and_then h (single ys)) ≡ is_some (single ys)
        → is_some (option_and_then h (single (cond b (x ∷ ys) ys))) ≡ is_some (single (cond b (x ∷ ys) ys))
    at_first true e [] same = e
    at_first true e (y ∷ ys) same = refl
    at_first false e ys same = same

module _ (types : List NamedType) (ms : List Meaning) (base : Base) (ds : List code.Target) where
  abbrev pub told : List Bool
  told = map (λ t. takes_each ms (seen_target t)) ds

  filtered : (g : List Candidate) (qs : List PossibleAggregate) → IsGroup ds g qs → HaveElements types base qs
      → filter (λ c. at told c.place) g ≡ filter (λ c. is_some (value_at types ms base c.number)) g
  filtered [] qs is have = refl
  filtered (c ∷ g) [] is have = absurd is
  filtered (c ∷ g) (a ∷ qs) is have =
      let here : at told c.place ≡ is_some (value_at types ms base c.number) =
      at_found (takes_each ms) ds c.place a.target is.1.0 ∙ sym (taken_there types ms base a.number a.target have.0)
      ∙ ap (λ n. is_some (value_at types ms base n)) (sym is.0) in
      cc (here, filtered g qs is.1.1 have.1)

  numbered_same : (g : List Candidate) (qs : List PossibleAggregate) → IsGroup ds g qs
      → filter_map (λ c. value_at types ms base c.number) g ≡ filter_map (λ a. value_at types ms base a.number) qs
  numbered_same [] [] is = refl
  numbered_same [] (a ∷ qs) is = absurd is
  numbered_same (c ∷ g) [] is = absurd is
  numbered_same (c ∷ g) (a ∷ qs) is = cc (is.0, numbered_same g qs is.1.1)

  pub list_value : (g : List Candidate) → IsGroup ds g (aggregates types base)
      → bare_at types (of_list types ms) base ≡ option_and_then (λ c. value_at types ms base c.number) (only_candidate g told)
  list_value g is =
      bare_aggregates types ms base ∙ ap only (sym (numbered_same g (aggregates types base) is)) ∙ picked (λ c. value_at types ms base c.number) g
      ∙ ap (λ cs. option_and_then (λ c. value_at types ms base c.number) (single cs)) (sym (filtered g (aggregates types base) is (have_elements types base)))

  pub list_verdict : (g : List Candidate) → IsGroup ds g (aggregates types base) → is_some (only_candidate g told) ≡ is_some (bare_at types (of_list types ms) base)
  list_verdict g is =
      ap (λ cs. is_some (single cs)) (filtered g (aggregates types base) is (have_elements types base))
      ∙ sym (some_single (λ c. value_at types ms base c.number) g)
      ∙ ap (λ cs. is_some (option_and_then (λ c. value_at types ms base c.number) (single cs))) (sym (filtered g (aggregates types base) is (have_elements types base)))
      ∙ ap is_some (sym (list_value g is))

  element_of : (taken : List Bool) (g : List Candidate) (qs : List PossibleAggregate) (d : Candidate) → IsGroup ds g qs → HaveElements types base qs → only_candidate g taken ≡ Some d
      → element types (base_in types base d.number) ≡ slice_get (map seen_target ds) d.place
  element_of taken [] qs d is have e = cc
  element_of taken (c ∷ g) [] d is have e = absurd is
  element_of taken (c ∷ g) (a ∷ qs) d is have e =
      single_holds (λ c. at taken c.place) (λ c. element types (base_in types base c.number) ≡ slice_get (map seen_target ds) c.place) c d (at taken c.place)
      (filter (λ c. at taken c.place) g) e (ap (λ n. element types (base_in types base n)) is.0 ∙ have.0 ∙ sym is.1.0)
      (λ later. element_of taken g qs d is.1.1 have.1 later)

  pub candidate_element : (taken : List Bool) (g : List Candidate) (d : Candidate) → IsGroup ds g (aggregates types base) → only_candidate g taken ≡ Some d
      → element types (base_in types base d.number) ≡ slice_get (map seen_target ds) d.place
  candidate_element taken g d is e = element_of taken g (aggregates types base) d is (have_elements types base) e

pub list_answers : (types : List NamedType) (ms : List Meaning) (ds ts : List code.Target) (gs : List (List Candidate)) → AreGroups types ds ts gs
    → map (λ g. is_some (only_candidate g (map (λ t. takes_each ms (seen_target t)) ds))) gs
    ≡ map (λ t. is_some (bare_at types (of_list types ms) (seen t.base))) ts
list_answers types ms ds [] [] are = refl
list_answers types ms ds [] (g ∷ gs) are = absurd are
list_answers types ms ds (t ∷ ts) [] are = absurd are
list_answers types ms ds (t ∷ ts) (g ∷ gs) are =
    cc (list_verdict types ms (seen t.base) ds g are.0, list_answers types ms ds ts gs are.1)

-- ---- rows

pub first_rows : (front more rows : List Bool) → StartsWith (front ++ more) rows → StartsWith front rows
first_rows [] more rows e = refl
first_rows (b ∷ front) more [] e = cc
first_rows (b ∷ front) more (r ∷ rows) e =
    let first : r ≡ b = cc in
    let others : StartsWith (front ++ more) rows = cc in
    cc (first, first_rows front more rows others)

pub rows_behind : (front more rows : List Bool) → StartsWith (front ++ more) rows → StartsWith more (drop (length front) rows)
rows_behind [] more rows e = e
rows_behind (b ∷ front) more [] e = cc
rows_behind (b ∷ front) more (r ∷ rows) e = let others : StartsWith (front ++ more) rows = cc in rows_behind front more rows others

drop_none : (n : ℕ) → drop {A = Bool} n [] ≡ []
drop_none zero = refl
drop_none (suc n) = refl

pub behind_both : (front more rows : List Bool) → drop (length more) (drop (length front) rows) ≡ drop (length (front ++ more)) rows
behind_both [] more rows = refl
behind_both (b ∷ front) more [] = drop_none (length more)
behind_both (b ∷ front) more (r ∷ rows) = behind_both front more rows

map_length : {A B : Type 0} (f : A → B) (xs : List A) → length (map f xs) ≡ length xs
map_length f [] = refl
map_length f (x ∷ xs) = ap suc (map_length f xs)

-- a level's row stands in front of the rows of the lists in it
module _ (types : List NamedType) (level : Level) (below : List Level) (values : List tree.Value) (rest : List Bool)
    (starts : StartsWith (rows_of_list types (level ∷ below) values) rest) where
  abbrev inner : List Bool
  inner = flat_map (rows types below) values

  many : length (row types level values) ≡ length level.targets.items
  many = map_length (λ t. takes_each (map (meaning types) values) (seen_target t)) level.targets.items

  pub row_first : take (length level.targets.items) rest ≡ row types level values
  unfolding rows_of_list
  row_first = ap (λ n. take n rest) (sym many) ∙ first_rows (row types level values) inner rest starts

  pub rest_starts : StartsWith (flat_map (rows types below) values) (drop (length level.targets.items) rest)
  unfolding rows_of_list
  rest_starts = subst (λ n. StartsWith inner (drop n rest)) many (rows_behind (row types level values) inner rest starts)

  pub rest_ends : drop (length (flat_map (rows types below) values)) (drop (length level.targets.items) rest) ≡ drop (length (rows_of_list types (level ∷ below) values)) rest
  unfolding rows_of_list
  rest_ends = ap (λ n. drop (length inner) (drop n rest)) (sym many) ∙ behind_both (row types level values) inner rest

  pub list_at_level : (base : Base) (g : List Candidate) (taken : List Bool) → IsGroup level.targets.items g (aggregates types base) → taken ≡ take (length level.targets.items) rest
      → bare_at types (of_list types (map (meaning types) values)) base
      ≡ option_and_then (λ c. value_at types (map (meaning types) values) base c.number) (only_candidate g taken)
  list_at_level base g taken is are =
      list_value types (map (meaning types) values) base level.targets.items g is
      ∙ ap (λ bs. option_and_then (λ c. value_at types (map (meaning types) values) base c.number) (only_candidate g bs)) (sym (are ∙ row_first))

pub level_rows : (types : List NamedType) (level : Level) (below : List Level) (values : List tree.Value) (old taken inner first both : List Bool)
    → first ≡ old ++ taken → both ≡ first ++ inner → taken ≡ row types level values → inner ≡ flat_map (rows types below) values
    → both ≡ old ++ rows_of_list types (level ∷ below) values
unfolding rows_of_list
level_rows types level below values old taken inner first both one two row_is inner_is =
    two ∙ ap (λ bs. bs ++ inner) one ∙ append_assoc old taken inner ∙ ap (λ bs. old ++ (bs ++ inner)) row_is
    ∙ ap (λ bs. old ++ (row types level values ++ bs)) inner_is

append_none : (bs : List Bool) → bs ≡ bs ++ []
append_none [] = refl
append_none (b ∷ bs) = ap (λ cs. b ∷ cs) (append_none bs)

pub no_more_rows : (types : List NamedType) (levels : List Level) (values : List tree.Value) (bs : List Bool) → levels ≡ [] → bs ≡ bs ++ rows_of_list types levels values
unfolding rows_of_list
no_more_rows types levels values bs none = rw none (append_none bs)

pub no_levels : {A : Type 0} (xs : List A) → length xs ≡ 0 → xs ≡ []
no_levels [] e = refl
no_levels (x ∷ xs) e = let no : ⊥ = omega arith in absurd no

pub always : {A E : Type 0} (r : Result (Option A) E) (P : Type 0) → P → IfOk r (λ u. IfSome u (λ x. P))
always (Ok None) P p = tt
always (Ok (Some x)) P p = p
always (Err e) P p = tt

pub on_ok : {A E : Type 0} (r : Result A E) (P : Type 0) → P → OnOk r P
on_ok (Ok x) P p = p
on_ok (Err e) P p = tt

pub under_some_name : {E : Type 0} (r : Result (Option Value) E) (o : Option Value) (k : ℕ) (P : Type 0)
    → IfOk r (λ u. u ≡ option_map (v.Named k) o) → IfSome o (λ x. P) → IfOk r (λ u. IfSome u (λ x. P))
under_some_name (Ok u) None k P is p = rw is tt
under_some_name (Ok u) (Some x) k P is p = rw is p
under_some_name (Err e) o k P is p = tt

-- ---- one value after the other

pub next_rows : {A : Type 0} (f : A → List Bool) (vs : List A) (i : ℕ) (x : A) → i < length vs → x ≡ get_or vs i x
    → flat_map f (drop i vs) ≡ f x ++ flat_map f (drop (i + 1) vs)
next_rows f [] i x within is = let no : ⊥ = omega arith in absurd no
next_rows f (y ∷ vs) zero x within is = let same : y ≡ x = cc in rw same refl
next_rows f (y ∷ vs) (suc i) x within is =
    let less : i < length vs = omega arith in
    let same : x ≡ get_or vs i x = is in
    let next : suc i + 1 ≡ suc (i + 1) = omega arith in
    rw next (next_rows f vs i x less same)

pub rows_turn : {A : Type 0} (f : A → List Bool) (vs : List A) (i : ℕ) (x : A) (old new : List Bool) → i < length vs → x ≡ get_or vs i x → new ≡ old ++ f x
    → new ++ flat_map f (drop (i + 1) vs) ≡ old ++ flat_map f (drop i vs)
rows_turn f vs i x old new within is more =
    ap (λ bs. bs ++ flat_map f (drop (i + 1) vs)) more ∙ append_assoc old (f x) (flat_map f (drop (i + 1) vs))
    ∙ ap (λ bs. old ++ bs) (sym (next_rows f vs i x within is))

module _ {A : Type 0} (f : A → List Bool) (vs : List A) (i : ℕ) (x : A) (within : i < length vs) (is : x ≡ get_or vs i x) (rest : List Bool) where
  pub this_starts : StartsWith (flat_map f (drop i vs)) rest → StartsWith (f x) rest
  this_starts s = first_rows (f x) (flat_map f (drop (i + 1) vs)) rest (subst (λ bs. StartsWith bs rest) (next_rows f vs i x within is) s)

  pub more_start : (moved : List Bool) → moved ≡ drop (length (f x)) rest → StartsWith (flat_map f (drop i vs)) rest → StartsWith (flat_map f (drop (i + 1) vs)) moved
  more_start moved e s = rw e (rows_behind (f x) (flat_map f (drop (i + 1) vs)) rest (subst (λ bs. StartsWith bs rest) (next_rows f vs i x within is) s))

  pub more_end : (moved : List Bool) → moved ≡ drop (length (f x)) rest
      → drop (length (flat_map f (drop (i + 1) vs))) moved ≡ drop (length (flat_map f (drop i vs))) rest
  more_end moved e =
      ap (drop (length (flat_map f (drop (i + 1) vs)))) e ∙ behind_both (f x) (flat_map f (drop (i + 1) vs)) rest
      ∙ ap (λ bs. drop (length bs) rest) (sym (next_rows f vs i x within is))

among_more : (found : List Value) (y : Value) (o : Option (List Value)) → among_rest (found ++ y ∷ []) o ≡ among_rest found (with_first (Some y) o)
among_more found y None = refl
among_more found y (Some ys) = ap (λ zs. Some zs) (append_assoc found (y ∷ []) ys)

pub placed_next : {A : Type 0} (P : A → Option Value) (vs : List tree.Value) (M : tree.Value → A) (i : ℕ) (x : tree.Value) (y : Value) (old new : List Value)
    → i < length vs → x ≡ get_or vs i x → P (M x) ≡ Some y → new ≡ old ++ y ∷ []
    → among_rest new (all_there (map P (map M (drop (i + 1) vs)))) ≡ among_rest old (all_there (map P (map M (drop i vs))))
placed_next P vs M i x y old new within is there more =
    let rest = all_there (map P (map M (drop (i + 1) vs))) in
    ap (λ ys. among_rest ys rest) more ∙ among_more old y rest ∙ ap (λ o. among_rest old (with_first o rest)) (sym there)
    ∙ ap (λ xs. among_rest old (all_there (map P (map M xs)))) (sym (cut_at vs i x within is))
  where
    cut_at : (vs : List tree.Value) (i : ℕ) (x : tree.Value) → i < length vs → x ≡ get_or vs i x → drop i vs ≡ x ∷ drop (i + 1) vs
    cut_at [] i x within is = let no : ⊥ = omega arith in absurd no
    cut_at (z ∷ vs) zero x within is = let same : z ≡ x = cc in rw same refl
    cut_at (z ∷ vs) (suc i) x within is =
        let less : i < length vs = omega arith in
        let same : x ≡ get_or vs i x = is in
        let next : suc i + 1 ≡ suc (i + 1) = omega arith in
        rw next (cut_at vs i x less same)

no_rows_by : (f : Value-F tree.Value) → rows_by f (λ xs. []) ≡ []
no_rows_by Value-F.Unset = refl
no_rows_by Value-F.Derived = refl
no_rows_by (Value-F.Integer token) = refl
no_rows_by (Value-F.Real token) = refl
no_rows_by (Value-F.Text token) = refl
no_rows_by (Value-F.Item token) = refl
no_rows_by (Value-F.Binary token) = refl
no_rows_by (Value-F.Reference name) = refl
no_rows_by (Value-F.List xs) = refl
no_rows_by (Value-F.Typed keyword x) = refl

pub no_rows : (types : List NamedType) (xs : List tree.Value) → flat_map (rows types []) xs ≡ []
unfolding rows_of_list
no_rows types [] = refl
no_rows types (x ∷ xs) = cc (no_rows_by (tree.out-Value x), no_rows types xs)

pub nothing_moved : (types : List NamedType) (levels : List Level) (xs : List tree.Value) (rest : List Bool) → levels ≡ []
    → rest ≡ drop (length (flat_map (rows types levels) xs)) rest
nothing_moved types levels xs rest none = rw none (rw (no_rows types xs) refl)
