-- Expressions as nodes: what is taken of the node is what a walk through the expression takes.
use Rattle.std.proofs.Common.{◌≡◌, ℕ, zero, suc, ◌+◌, ◌<◌, ◌≤◌, Bool, true, false, not, ◌&&◌, nat_lt, if◌then◌else◌, List, [], ◌∷◌, ◌++◌, length, get_or, map, fold, refl, sym, ◌∙◌, ap, subst, arith}
use Rattle.std.proofs.lemmas.Bool.{and_parts, eq-eqb, le-ltb, lt-ltb, ltb-false, ltb-true, not-true}
use Rattle.std.proofs.lemmas.List.{get_or_append_left, get_or-append-add, length-append}
use Rattle.std.specs.List.{flat_map}
use Rattle.plain_data.specs.Numbers.{is_among}
use Rattle.graphs.proofs.Families.{is_among-filter}
use Rattle.ex_named.specs.declared.declaration.NamedSupertype.{NamedSupertype}
use Rattle.ex_named.specs.declared.declaration.NamedSupertype.TheFolds.{fold-roll-NamedSupertype, ind-NamedSupertype, map-NamedSupertype}
use Rattle.ex_named.specs.declared.declaration.NamedSupertype.TheOpen.{NamedSupertype-F}
use Rattle.ex_named.specs.declared.declaration.NamedSupertype.TheVariants as s
use Rattle.ex_named.specs.declared.declaration.NamedSupertype.TheViews.{roll-NamedSupertype}
use Rattle.ex_subtypes.specs.declared.choices.Choice.{Choice}
use Rattle.ex_subtypes.specs.declared.choices.Choice.TheVariants.{Nothing, Combination}
use Rattle.ex_subtypes.specs.declared.choices.Connective.{Connective}
use Rattle.ex_subtypes.specs.declared.choices.Connective.TheVariants.{OneOf, And, AndOr}
use Rattle.ex_subtypes.specs.declared.nodes.Node.{Node}
use Rattle.ex_subtypes.specs.declared.nodes.Node.TheFolds.{fold-roll-Node, ind-Node, map-Node}
use Rattle.ex_subtypes.specs.declared.nodes.Node.TheOpen.{Node-F}
use Rattle.ex_subtypes.specs.declared.nodes.Node.TheVariants as n
use Rattle.ex_subtypes.specs.declared.nodes.Node.TheViews.{roll-Node}
use Rattle.ex_subtypes.specs.Combinations.{Saying, joined, layer, names, saying}
use Rattle.ex_subtypes.specs.Nodes.{Placed, all_named, before, behind, dealt, ends_from, nodes_from, one_taken, placed, placed_layer, several, taken_at, taken_layer}
use Rattle.ex_subtypes.specs.Walks.{join_choices, walk_layer, walked}
use Rattle.ex_subtypes.proofs.Joins.{named-joined, walked_roll}
use Rattle.ex_subtypes.proofs.Soundness.{saying_roll}

-- ---- nodes by the forms of an expression

placed_roll : (x : NamedSupertype-F NamedSupertype) → placed (roll-NamedSupertype x) ≡ placed_layer (map-NamedSupertype NamedSupertype Placed placed x)
unfolding placed
placed_roll x = fold-roll-NamedSupertype Placed placed_layer x

pub placed-Entity : (x : NamedSupertype) (e at : ℕ) → x ≡ s.Entity e at → placed x ≡ placed_layer (NamedSupertype-F.Entity e at)
placed-Entity x e at is = ap placed is ∙ ap placed (sym (s.rolls-Entity e at)) ∙ placed_roll (NamedSupertype-F.Entity e at)

pub placed-OneOf : (x : NamedSupertype) (parts : List NamedSupertype) → x ≡ s.OneOf parts → placed x ≡ several OneOf (map placed parts)
placed-OneOf x parts is = ap placed is ∙ ap placed (sym (s.rolls-OneOf parts)) ∙ placed_roll (NamedSupertype-F.OneOf parts)

pub placed-And : (x : NamedSupertype) (parts : List NamedSupertype) → x ≡ s.And parts → placed x ≡ several And (map placed parts)
placed-And x parts is = ap placed is ∙ ap placed (sym (s.rolls-And parts)) ∙ placed_roll (NamedSupertype-F.And parts)

pub placed-AndOr : (x : NamedSupertype) (parts : List NamedSupertype) → x ≡ s.AndOr parts → placed x ≡ several AndOr (map placed parts)
placed-AndOr x parts is = ap placed is ∙ ap placed (sym (s.rolls-AndOr parts)) ∙ placed_roll (NamedSupertype-F.AndOr parts)

-- ---- the entities that are named

abbrev SameNamed : NamedSupertype → Type 0
SameNamed x = (placed x).named ≡ names x

all_same : (ps : List ((x : NamedSupertype) × SameNamed x)) → all_named (map placed (map (λ e. e.0) ps)) ≡ flat_map names (map (λ e. e.0) ps)
all_same [] = refl
all_same (p ∷ ps) = ap (λ l. l ++ all_named (map placed (map (λ e. e.0) ps))) p.1 ∙ ap (λ l. names p.0 ++ l) (all_same ps)

layer_same : (y : NamedSupertype-F ((x : NamedSupertype) × SameNamed x)) → (let x : NamedSupertype-F NamedSupertype = map-NamedSupertype ((x : NamedSupertype) × SameNamed x) NamedSupertype (λ e. e.0) y in
    (placed_layer (map-NamedSupertype NamedSupertype Placed placed x)).named ≡ (layer (map-NamedSupertype NamedSupertype Saying saying x)).named)
layer_same (NamedSupertype-F.Entity e at) = refl
layer_same (NamedSupertype-F.OneOf ps) = all_same ps ∙ sym (named-joined OneOf (map (λ e. e.0) ps))
layer_same (NamedSupertype-F.And ps) = all_same ps ∙ sym (named-joined And (map (λ e. e.0) ps))
layer_same (NamedSupertype-F.AndOr ps) = all_same ps ∙ sym (named-joined AndOr (map (λ e. e.0) ps))

pub same_named : (x : NamedSupertype) → (placed x).named ≡ names x
same_named = ind-NamedSupertype SameNamed (λ x y is.
    let P : NamedSupertype-F NamedSupertype → Type 0 = λ z. (placed_layer (map-NamedSupertype NamedSupertype Placed placed z)).named ≡ (layer (map-NamedSupertype NamedSupertype Saying saying z)).named in
    ap (λ p. p.named) (placed_roll x) ∙ subst P is (layer_same y) ∙ ap (λ p. p.named) (sym (saying_roll x)))

-- ---- what is taken of a node, by its forms

taken_roll : (x : Node-F Node) → taken_at (roll-Node x) ≡ taken_layer (map-Node Node (List ℕ → Choice) taken_at x)
unfolding taken_at
taken_roll x = fold-roll-Node (List ℕ → Choice) taken_layer x

pub taken-Entity : (node : Node) (places : List ℕ) → node ≡ n.Entity → taken_at node places ≡ one_taken places
taken-Entity node places is = ap (λ m. taken_at m places) (is ∙ sym n.rolls-Entity) ∙ ap (λ f. f places) (taken_roll Node-F.Entity)

pub taken-Joined : (node : Node) (way : Connective) (ends : List ℕ) (parts : List Node) (places : List ℕ) → node ≡ n.Joined way ends parts
    → taken_at node places ≡ joined Nothing (join_choices way) (dealt (map taken_at parts) ends places)
taken-Joined node way ends parts places is =
    ap (λ m. taken_at m places) (is ∙ sym (n.rolls-Joined way ends parts)) ∙ ap (λ f. f places) (taken_roll (Node-F.Joined way ends parts))

-- ---- no places

abbrev IsNone : Node → Type 0
IsNone node = taken_at node [] ≡ Nothing

none_join : (way : Connective) → join_choices way Nothing Nothing ≡ Nothing
none_join OneOf = refl
none_join And = refl
none_join AndOr = refl

fold_none : {A : Type 0} (way : Connective) (xs : List A) → fold (join_choices way) Nothing (map (λ x. Nothing) xs) ≡ Nothing
fold_none way [] = refl
fold_none way (x ∷ xs) = ap (λ c. fold (join_choices way) c (map (λ x. Nothing) xs)) (none_join way) ∙ fold_none way xs

joined_none : {A : Type 0} (way : Connective) (xs : List A) → joined Nothing (join_choices way) (map (λ x. Nothing) xs) ≡ Nothing
joined_none way [] = refl
joined_none way (x ∷ xs) = fold_none way xs

dealt_none : (ps : List ((node : Node) × IsNone node)) (ends : List ℕ) → dealt (map taken_at (map (λ e. e.0) ps)) ends [] ≡ map (λ p. Nothing) ps
dealt_none [] ends = refl
dealt_none (p ∷ ps) [] = ap (λ c. c ∷ dealt (map taken_at (map (λ e. e.0) ps)) [] []) p.1 ∙ ap (λ cs. Nothing ∷ cs) (dealt_none ps [])
dealt_none (p ∷ ps) (end ∷ ends) = ap (λ c. c ∷ dealt (map taken_at (map (λ e. e.0) ps)) ends []) p.1 ∙ ap (λ cs. Nothing ∷ cs) (dealt_none ps ends)

none_layer : (y : Node-F ((node : Node) × IsNone node)) → taken_layer (map-Node Node (List ℕ → Choice) taken_at (map-Node ((node : Node) × IsNone node) Node (λ e. e.0) y)) [] ≡ Nothing
none_layer Node-F.Entity = refl
none_layer (Node-F.Joined way ends ps) = ap (joined Nothing (join_choices way)) (dealt_none ps ends) ∙ joined_none way ps

pub none_taken : (node : Node) → taken_at node [] ≡ Nothing
none_taken = ind-Node IsNone (λ x y is.
    let P : Node-F Node → Type 0 = λ z. taken_layer (map-Node Node (List ℕ → Choice) taken_at z) [] ≡ Nothing in
    ap (λ f. f []) (taken_roll x) ∙ subst P is (none_layer y))

pub nothing_taken : (node : Node) (places : List ℕ) → length places ≡ 0 → taken_at node places ≡ Nothing
nothing_taken node [] none = none_taken node
nothing_taken node (p ∷ places) none = absurd (omega arith)

pub some_taken : (places : List ℕ) → 0 < length places → one_taken places ≡ Combination
some_taken [] some = absurd (omega arith)
some_taken (p ∷ places) some = refl

-- ---- where entities stand

-- The places at which the entities stand that a set has, where the first that is named has the place `start`.
pub record Falls (set named : List ℕ) (start : ℕ) (places : List ℕ) : Type 0 where
  pub within : (p : ℕ) → is_among places p ≡ true → (start ≤ p) × (p < start + length named)
  pub same : (k : ℕ) → k < length named → is_among places (start + k) ≡ is_among set (get_or named k 0)

and_true : (a b : Bool) → b ≡ true → (a && b) ≡ a
and_true true b e = e
and_true false b e = refl

module _ (set xs ys : List ℕ) (start : ℕ) (places : List ℕ) (falls : Falls set (xs ++ ys) start places) where
  abbrev end : ℕ
  end = start + length xs

  first : Falls set xs start (before end places)
  first = record {
    within = λ p h.
        let both = and_parts (is_among places p) (nat_lt p end) (sym (is_among-filter (λ q. nat_lt q end) places p) ∙ h) in
        ((falls.within p both.0).0, ltb-true p end both.1);
    same = λ k h.
        is_among-filter (λ q. nat_lt q end) places (start + k)
        ∙ and_true (is_among places (start + k)) (nat_lt (start + k) end) (lt-ltb (start + k) end (omega arith))
        ∙ falls.same k (omega (arith, length-append xs ys))
        ∙ ap (is_among set) (get_or_append_left xs ys 0 k h);
  }

  others : Falls set ys end (behind end places)
  others = record {
    within = λ p h.
        let both = and_parts (is_among places p) (not (nat_lt p end)) (sym (is_among-filter (λ q. not (nat_lt q end)) places p) ∙ h) in
        let most : p < start + length (xs ++ ys) = (falls.within p both.0).1 in
        (ltb-false p end (not-true (nat_lt p end) both.1), omega (arith, length-append xs ys));
    same = λ k h.
        let along : end + k ≡ start + (length xs + k) = omega arith in
        is_among-filter (λ q. not (nat_lt q end)) places (end + k)
        ∙ and_true (is_among places (end + k)) (not (nat_lt (end + k) end)) (ap not (le-ltb (end + k) end (omega arith)))
        ∙ ap (is_among places) along
        ∙ falls.same (length xs + k) (omega (arith, length-append xs ys))
        ∙ ap (is_among set) (get_or-append-add xs ys k 0);
  }

-- ---- the walk to these places

one_walked : (set : List ℕ) (e start : ℕ) (places : List ℕ) → Falls set (e ∷ []) start places → one_taken places ≡ (if is_among set e then Combination else Nothing)
one_walked set e start [] falls =
    let none : is_among set e ≡ false = sym (falls.same 0 (omega arith)) in
    rw none refl
one_walked set e start (p ∷ places) falls =
    let there : is_among (p ∷ places) p ≡ true = rw (eq-eqb p p refl) refl in
    let inside = falls.within p there in
    let here : start + 0 ≡ p = omega (arith, inside.0, inside.1) in
    let has : is_among set e ≡ true = sym (falls.same 0 (omega arith)) ∙ ap (is_among (p ∷ places)) here ∙ there in
    rw has refl

abbrev IsWalked : NamedSupertype → Type 0
IsWalked x = (set places : List ℕ) (start : ℕ) → Falls set (placed x).named start places → taken_at ((placed x).node start) places ≡ walked set x

all_walked : (ps : List ((x : NamedSupertype) × IsWalked x)) (set places : List ℕ) (start : ℕ) → Falls set (all_named (map placed (map (λ e. e.0) ps))) start places
    → dealt (map taken_at (nodes_from start (map placed (map (λ e. e.0) ps)))) (ends_from start (map placed (map (λ e. e.0) ps))) places ≡ map (walked set) (map (λ e. e.0) ps)
all_walked [] set places start falls = refl
all_walked (p ∷ ps) set places start falls =
    let named = (placed p.0).named in
    let rest = map placed (map (λ e. e.0) ps) in
    let end = start + length named in
    ap (λ c. c ∷ dealt (map taken_at (nodes_from end rest)) (ends_from end rest) (behind end places)) (p.1 set (before end places) start (first set named (all_named rest) start places falls))
    ∙ ap (λ cs. walked set p.0 ∷ cs) (all_walked ps set (behind end places) end (others set named (all_named rest) start places falls))

joined_walked : (way : Connective) (ps : List ((x : NamedSupertype) × IsWalked x)) (set places : List ℕ) (start : ℕ) → Falls set (all_named (map placed (map (λ e. e.0) ps))) start places
    → taken_at ((several way (map placed (map (λ e. e.0) ps))).node start) places ≡ joined Nothing (join_choices way) (map (walked set) (map (λ e. e.0) ps))
joined_walked way ps set places start falls =
    let parts = map placed (map (λ e. e.0) ps) in
    taken-Joined (n.Joined way (ends_from start parts) (nodes_from start parts)) way (ends_from start parts) (nodes_from start parts) places refl
    ∙ ap (joined Nothing (join_choices way)) (all_walked ps set places start falls)

layer_walked : (y : NamedSupertype-F ((x : NamedSupertype) × IsWalked x)) (set places : List ℕ) (start : ℕ) → (let x : NamedSupertype-F NamedSupertype = map-NamedSupertype ((x : NamedSupertype) × IsWalked x) NamedSupertype (λ e. e.0) y in
    Falls set (placed_layer (map-NamedSupertype NamedSupertype Placed placed x)).named start places
    → taken_at ((placed_layer (map-NamedSupertype NamedSupertype Placed placed x)).node start) places ≡ walk_layer set (map-NamedSupertype NamedSupertype Choice (walked set) x))
layer_walked (NamedSupertype-F.Entity e at) set places start falls = taken-Entity n.Entity places refl ∙ one_walked set e start places falls
layer_walked (NamedSupertype-F.OneOf ps) set places start falls = joined_walked OneOf ps set places start falls
layer_walked (NamedSupertype-F.And ps) set places start falls = joined_walked And ps set places start falls
layer_walked (NamedSupertype-F.AndOr ps) set places start falls = joined_walked AndOr ps set places start falls

-- what is taken of a node at these places is what the set takes of the expression
pub is_walked : (x : NamedSupertype) (set places : List ℕ) (start : ℕ) → Falls set (placed x).named start places → taken_at ((placed x).node start) places ≡ walked set x
is_walked = ind-NamedSupertype IsWalked (λ x y is set places start falls.
    let P : NamedSupertype-F NamedSupertype → Type 0 = λ z.
    Falls set (placed_layer (map-NamedSupertype NamedSupertype Placed placed z)).named start places
    → taken_at ((placed_layer (map-NamedSupertype NamedSupertype Placed placed z)).node start) places ≡ walk_layer set (map-NamedSupertype NamedSupertype Choice (walked set) z) in
    let opened : Falls set (placed_layer (map-NamedSupertype NamedSupertype Placed placed x)).named start places = subst (λ (p : Placed). Falls set p.named start places) (placed_roll x) falls in
    ap (λ (p : Placed). taken_at (p.node start) places) (placed_roll x) ∙ subst P is (layer_walked y set places start) opened ∙ sym (walked_roll set x))

-- ---- where parts end

ends_least : (start : ℕ) (ps : List Placed) (j d : ℕ) → j < length (ends_from start ps) → start ≤ get_or (ends_from start ps) j d
ends_least start [] j d h = absurd (omega arith)
ends_least start (p ∷ ps) zero d h = omega arith
ends_least start (p ∷ ps) (suc j) d h = let more = ends_least (start + length p.named) ps j d (omega arith) in omega arith

-- the ends never fall
pub ends_rise : (start : ℕ) (ps : List Placed) (i j d : ℕ) → i ≤ j → j < length (ends_from start ps) → get_or (ends_from start ps) i d ≤ get_or (ends_from start ps) j d
ends_rise start [] i j d le h = absurd (omega arith)
ends_rise start (p ∷ ps) zero zero d le h = omega arith
ends_rise start (p ∷ ps) zero (suc j) d le h = ends_least (start + length p.named) ps j d (omega arith)
ends_rise start (p ∷ ps) (suc i) zero d le h = absurd (omega arith)
ends_rise start (p ∷ ps) (suc i) (suc j) d le h = ends_rise (start + length p.named) ps i j d (omega arith) (omega arith)
