-- The walk to the members above one: what was said of its line, and what is still to be said.
use Rattle.std.proofs.Common.{◌≡◌, ℕ, suc, ◌+◌, ◌<◌, Bool, true, false, ◌||◌, ◌==◌, List, [], ◌∷◌, ◌++◌, append_assoc, append-nil, length, length-append, map, refl, sym, ◌∙◌, ap, arith}
use Rattle.std.proofs.lemmas.List.{map-append}
use mathlib.Core.List.{reverse-cons}
use Rattle.std.specs.List.{flat_map}
use Rattle.std.specs.Prelude.{reverse}
use Rattle.plain_data.specs.Numbers.{is_among}
use Rattle.plain_data.proofs.Numbers.{is_among-append}
use Rattle.graphs.specs.Graphs.{supertypes, each_once, IsAcyclic}
use Rattle.graphs.specs.declared.steps.Step.{Step}
use Rattle.graphs.specs.declared.steps.Step.TheVariants.{Enter, Place}
use Rattle.graphs.proofs.Lines.{line_of, line_is, line_parts}
use Rattle.graphs.proofs.Once.{once_new, once_known, once_within}
use Rattle.graphs.proofs.Rises.{Rises, Closed, rises_first, rises_closed, good_line, line_within_closed}

-- what a step adds to the line
told_by : List (List ℕ) → Step → List ℕ
told_by graph (Enter e) = line_of graph e
told_by graph (Place e) = e ∷ []

-- what the steps add, the last of them first
pub told : List (List ℕ) → List Step → List ℕ
told graph [] = []
told graph (step ∷ steps) = told graph steps ++ told_by graph step

weight_of : List (List ℕ) → Step → ℕ
weight_of graph (Enter e) = length (line_of graph e) + length (line_of graph e)
weight_of graph (Place e) = 1

-- at most so many turns are left
pub weight : List (List ℕ) → List Step → ℕ
weight graph [] = 0
weight graph (step ∷ steps) = weight_of graph step + weight graph steps

module _ (graph : List (List ℕ)) where
  told-append : (xs ys : List Step) → told graph (xs ++ ys) ≡ told graph ys ++ told graph xs
  unfolding told
  told-append [] ys = sym (append-nil (told graph ys))
  told-append (x ∷ xs) ys = rw (told-append xs ys) (append_assoc (told graph ys) (told graph xs) (told_by graph x))

  told-enter : (e : ℕ) → told graph (Enter e ∷ []) ≡ line_of graph e
  unfolding told told_by
  told-enter e = refl

  told-place : (e : ℕ) → told graph (Place e ∷ []) ≡ e ∷ []
  unfolding told told_by
  told-place e = refl

  told-enters : (ss : List ℕ) → told graph (map (λ m. Enter m) (reverse ss)) ≡ flat_map (line_of graph) ss
  unfolding told
  told-enters [] = refl
  told-enters (s ∷ ss) =
      ap (λ l. told graph (map (λ m. Enter m) l)) (reverse-cons s ss)
      ∙ ap (told graph) (map-append (λ m. Enter m) (reverse ss) (s ∷ []))
      ∙ told-append (map (λ m. Enter m) (reverse ss)) (Enter s ∷ [])
      ∙ rw (told-enter s, told-enters ss) refl

  weight-append : (xs ys : List Step) → weight graph (xs ++ ys) ≡ weight graph xs + weight graph ys
  unfolding weight
  weight-append [] ys = omega arith
  weight-append (x ∷ xs) ys = let rest = weight-append xs ys in omega arith

  weight-enter : (e : ℕ) → weight graph (Enter e ∷ []) ≡ length (line_of graph e) + length (line_of graph e)
  unfolding weight weight_of
  weight-enter e = omega arith

  weight-place : (e : ℕ) → weight graph (Place e ∷ []) ≡ 1
  unfolding weight weight_of
  weight-place e = omega arith

  weight-enters : (ss : List ℕ) → weight graph (map (λ m. Enter m) (reverse ss)) ≡ length (flat_map (line_of graph) ss) + length (flat_map (line_of graph) ss)
  unfolding weight
  weight-enters [] = refl
  weight-enters (s ∷ ss) =
      let rest = weight-enters ss in
      let first = weight-enter s in
      let whole = length-append (line_of graph s) (flat_map (line_of graph) ss) in
      ap (λ l. weight graph (map (λ m. Enter m) l)) (reverse-cons s ss)
      ∙ ap (weight graph) (map-append (λ m. Enter m) (reverse ss) (s ∷ []))
      ∙ weight-append (map (λ m. Enter m) (reverse ss)) (Enter s ∷ [])
      ∙ omega arith

-- what has its place is what was said, each once
pub record Walk (graph : List (List ℕ)) (member : ℕ) (placed order : List ℕ) (steps : List Step) : Type 0 where
  pub said : List ℕ
  pub whole : said ++ told graph steps ≡ line_of graph member
  pub once : order ≡ each_once said
  pub same : (n : ℕ) → is_among placed n ≡ is_among said n

module _ (graph : List (List ℕ)) (acyclic : IsAcyclic graph) (member : ℕ) where
  pub walk_start : Walk graph member [] [] (Enter member ∷ [])
  walk_start = record { said = []; whole = told-enter graph member; once = refl; same = λ n. refl }

  -- what was said has the supertypes of each
  said_closed : (said later : List ℕ) → said ++ later ≡ line_of graph member → Closed graph said
  said_closed said later whole =
      let rises : Rises graph [] (said ++ later) = rw whole ((good_line graph (suc (length graph)) member (line_of graph member) (line_is graph acyclic member)).0 []) in
      rises_closed graph [] said (λ m a h s. cc) (rises_first graph [] said later rises)

  module _ (placed order : List ℕ) (rest : List Step) (e : ℕ) where
    next_told : (step : Step) (l : List ℕ) → told graph (step ∷ []) ≡ l → told graph (rest ++ step ∷ []) ≡ l ++ told graph rest
    next_told step l is = told-append graph rest (step ∷ []) ∙ ap (λ k. k ++ told graph rest) is

    -- a member that has its place is passed over: its line was said
    pub enter_known : Walk graph member placed order (rest ++ Enter e ∷ []) → is_among placed e ≡ true → Walk graph member placed order rest
    enter_known walk known =
        let said = walk.said in
        let there : is_among said e ≡ true = sym (walk.same e) ∙ known in
        let all = line_within_closed graph said (said_closed said (told graph (rest ++ Enter e ∷ [])) walk.whole) (suc (length graph)) e (line_of graph e) (line_is graph acyclic e) there in
        record {
          said = said ++ line_of graph e;
          whole = append_assoc said (line_of graph e) (told graph rest) ∙ ap (λ l. said ++ l) (sym (next_told (Enter e) (line_of graph e) (told-enter graph e))) ∙ walk.whole;
          once = walk.once ∙ sym (once_within said (line_of graph e) all);
          same = λ n. walk.same n ∙ sym (unchanged said (line_of graph e) all n);
        }
      where
        unchanged : (xs ys : List ℕ) → ((a : ℕ) → is_among ys a ≡ true → is_among xs a ≡ true) → (n : ℕ) → is_among (xs ++ ys) n ≡ is_among xs n
        unchanged xs ys all n = is_among-append xs ys n ∙ absorbed (is_among xs n) (is_among ys n) (all n)
          where
            absorbed : (a b : Bool) → (b ≡ true → a ≡ true) → (a || b) ≡ a
            absorbed true b h = refl
            absorbed false true h = sym (h refl)
            absorbed false false h = refl

    -- another's supertypes come first, then itself
    pub enter_new : Walk graph member placed order (rest ++ Enter e ∷ []) → Walk graph member placed order ((rest ++ Place e ∷ []) ++ map (λ m. Enter m) (reverse (supertypes graph e)))
    enter_new walk = record {
      said = walk.said;
      whole = ap (λ l. walk.said ++ l) (told-append graph (rest ++ Place e ∷ []) (map (λ m. Enter m) (reverse (supertypes graph e)))
          ∙ rw (told-enters graph (supertypes graph e), next_told (Place e) (e ∷ []) (told-place graph e)) (sym (append_assoc (flat_map (line_of graph) (supertypes graph e)) (e ∷ []) (told graph rest)))
          ∙ ap (λ l. l ++ told graph rest) (sym (line_parts graph acyclic e)) ∙ sym (next_told (Enter e) (line_of graph e) (told-enter graph e))) ∙ walk.whole;
      once = walk.once;
      same = walk.same;
    }

    module _ (more : List ℕ) (adds : (n : ℕ) → is_among more n ≡ ((e == n) || is_among placed n)) (walk : Walk graph member placed order (rest ++ Place e ∷ [])) where
      placed_whole : (walk.said ++ e ∷ []) ++ told graph rest ≡ line_of graph member
      placed_whole = append_assoc walk.said (e ∷ []) (told graph rest) ∙ ap (λ l. walk.said ++ l) (sym (next_told (Place e) (e ∷ []) (told-place graph e))) ∙ walk.whole

      placed_same : (n : ℕ) → is_among more n ≡ is_among (walk.said ++ e ∷ []) n
      placed_same n = adds n ∙ ap (λ b. (e == n) || b) (walk.same n) ∙ swapped (e == n) (is_among walk.said n) ∙ sym (is_among-append walk.said (e ∷ []) n)
        where
          swapped : (a b : Bool) → (a || b) ≡ (b || (a || false))
          swapped true true = refl
          swapped true false = refl
          swapped false true = refl
          swapped false false = refl

      pub place_new : is_among placed e ≡ false → Walk graph member more (order ++ e ∷ []) rest
      place_new new = record {
        said = walk.said ++ e ∷ [];
        whole = placed_whole;
        once = ap (λ l. l ++ e ∷ []) walk.once ∙ sym (once_new walk.said e (sym (walk.same e) ∙ new));
        same = placed_same;
      }

      pub place_known : is_among placed e ≡ true → Walk graph member more order rest
      place_known known = record {
        said = walk.said ++ e ∷ [];
        whole = placed_whole;
        once = walk.once ∙ sym (once_known walk.said e (sym (walk.same e) ∙ known));
        same = placed_same;
      }

  pub walk_done : (placed order : List ℕ) → Walk graph member placed order [] → order ≡ each_once (line_of graph member)
  unfolding told
  walk_done placed order walk = walk.once ∙ ap each_once (sym (append-nil walk.said) ∙ walk.whole)

  -- ---- the turns end

  pub enter_less : (rest : List Step) (e : ℕ) → weight graph ((rest ++ Place e ∷ []) ++ map (λ m. Enter m) (reverse (supertypes graph e))) < weight graph (rest ++ Enter e ∷ [])
  enter_less rest e =
      let above = flat_map (line_of graph) (supertypes graph e) in
      let whole : length (line_of graph e) ≡ length above + 1 = ap length (line_parts graph acyclic e) ∙ length-append above (e ∷ []) in
      let a = weight-append graph (rest ++ Place e ∷ []) (map (λ m. Enter m) (reverse (supertypes graph e))) in
      let b = weight-append graph rest (Place e ∷ []) in
      let d = weight-append graph rest (Enter e ∷ []) in
      let f = weight-enters graph (supertypes graph e) in
      let g = weight-enter graph e in
      let h = weight-place graph e in
      omega arith

  pub pass_less : (rest : List Step) (e : ℕ) → weight graph rest < weight graph (rest ++ Enter e ∷ [])
  pass_less rest e =
      let above = flat_map (line_of graph) (supertypes graph e) in
      let whole : length (line_of graph e) ≡ length above + 1 = ap length (line_parts graph acyclic e) ∙ length-append above (e ∷ []) in
      let d = weight-append graph rest (Enter e ∷ []) in
      let g = weight-enter graph e in
      omega arith

  pub place_less : (rest : List Step) (e : ℕ) → weight graph rest < weight graph (rest ++ Place e ∷ [])
  place_less rest e =
      let d = weight-append graph rest (Place e ∷ []) in
      let h = weight-place graph e in
      omega arith
