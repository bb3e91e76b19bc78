-- Whoever isn't a candidate is told of in nothing.
use Rattle.std.proofs.Common.{◌≡◌, ◌<◌, ◌+◌, ℕ, Bool, true, false, ◌&&◌, ◌||◌, ◌==◌, List, [], ◌∷◌, ◌++◌, drop, get_or, map, filter, length, Option, Some, None, if◌then◌else◌, refl, sym, ◌∙◌, ap, true≢false, subst, ⊎_elim}
use Rattle.std.proofs.lemmas.Bool.{and_parts, cases_Bool, eq-eqb, eqb-true}
use Rattle.std.proofs.lemmas.List.{drop_more}
use Rattle.std.proofs.lemmas.List.Folds.{list_any-append}
use Rattle.std.specs.List.{flat_map, list_all, list_any, AllByRecursion}
use Rattle.plain_data.specs.Numbers.{is_among}
use Rattle.ex_layouts.specs.Entities.{entities_of, line_of}
use Rattle.ex_layouts.specs.Layouts.{layout}
use Rattle.ex_slots.specs.Slots.{Slot}
use Rattle.ex_schemas.specs.Schemas.{Checked}
use Rattle.rp_content.specs.declared.instance.Entities.{Entities}
use Rattle.rp_content.specs.declared.instance.Entities.TheVariants.{Leaf, Several}
use Rattle.rp_content.specs.declared.instance.Instance.{Instance}
use Rattle.rp_value.specs.declared.value.Value.{Value}
use Rattle.rp_rows.specs.declared.rows.Key.{Key}
use Rattle.rp_rows.specs.Contents.{references, references_of}
use Rattle.rp_index.specs.declared.kinds.Kind.{Kind}
use Rattle.rp_index.specs.Index.{written, kinds_of, is_in_kind, is_under, AreUsersAmong, AreKindsOf}
use Rattle.rp_index.specs.Pairs.{HasAll}
use Rattle.rp_index.specs.Told.{IsToldAmong}
use Rattle.rp_index.proofs.Tests.{or_left, or_right, has_parts}
use Rattle.rp_population.specs.Uses.{is_slot_of}
use Rattle.rp_population.specs.Found.{Attribute, User, told_at, user_in, values_of, values_by, told_in_all, told_in, place_in, is_sought, is_of_sought}
use Rattle.rp_population.specs.Candidates.{found_in, AreFoundAmong, may_have}

-- ---- users

neither : (a b : Bool) → (a || b) ≡ false → (a ≡ false) × (b ≡ false)
neither true b e = absurd (true≢false e)
neither false b e = (refl, e)

none_told : (user : User) (ns : List ℕ) → list_any (is_among user.names) ns ≡ false → flat_map (told_at user) ns ≡ []
none_told user [] none = refl
none_told user (n ∷ ns) none =
    let parts = neither (is_among user.names n) (list_any (is_among user.names) ns) none in
    rw parts.0 (none_told user ns parts.1)

pub told_among_all : (names users : List ℕ) (model : Key) (is : List Instance) → AreUsersAmong names users is → IsToldAmong (told_in_all names model) users is
told_among_all names users model [] among = tt
told_among_all names users model (i ∷ is) among = (λ gone. none_told (user_in names model i) (references_of i) (among.0 gone), told_among_all names users model is among.1)

-- some of the values refer to no more
fewer : (names line name : List ℕ) (slots : List Slot) (vs : List Value)
    → list_any (is_among names) (flat_map references vs) ≡ false → list_any (is_among names) (flat_map references (values_of line name slots vs)) ≡ false
fewer names line name [] vs none = refl
fewer names line name (s ∷ ss) [] none = refl
fewer names line name (s ∷ ss) (v ∷ vs) none =
    let both = neither (list_any (is_among names) (references v)) (list_any (is_among names) (flat_map references vs))
    (sym (list_any-append (is_among names) (references v) (flat_map references vs)) ∙ none) in
    let rest = fewer names line name ss vs both.1 in
    ⊎_elim
    (λ (taken : is_slot_of line name s ≡ true).
    rw taken (list_any-append (is_among names) (references v) (flat_map references (values_of line name ss vs)) ∙ rw (both.0, rest) refl))
    (λ (passed : is_slot_of line name s ≡ false). rw passed rest)
    (cases_Bool (is_slot_of line name s))

chosen : (names : List ℕ) (t : Bool) (vs : List Value) → list_any (is_among names) (flat_map references vs) ≡ false → list_any (is_among names) (flat_map references (if t then vs else [])) ≡ false
chosen names true vs none = none
chosen names false vs none = refl

pub told_among_in : (schema : Checked) (a : Attribute) (names users : List ℕ) (model : Key) (is : List Instance) → AreUsersAmong names users is → IsToldAmong (told_in schema a names model) users is
told_among_in schema a names users model [] among = tt
told_among_in schema a names users model (i ∷ is) among = (
  λ gone.
      let all = layout schema i.entities in
      let least = fewer names a.line a.name (flat_map (λ (ss : List Slot). ss) all.slots) i.values (among.0 gone) in
      none_told (user_in names model i) (flat_map references (values_by a all i.values))
      (chosen names (is_among all.entities a.entity) (values_of a.line a.name (flat_map (λ (ss : List Slot). ss) all.slots) i.values) least),
  told_among_in schema a names users model is among.1,
)

-- ---- extents

pub found_among : (schema : Checked) (entity : Option ℕ) (names : List ℕ) (model : Key) (is : List Instance) → AreFoundAmong schema entity names is → IsToldAmong (found_in schema entity model) names is
found_among schema entity names model [] among = tt
found_among schema entity names model (i ∷ is) among = (λ gone. rw (among.0 gone) refl, found_among schema entity names model is among.1)

-- each of the numbers is under a kind with the name
under_each : (kinds : List Kind) (name entity : ℕ) (all : List ℕ) → HasAll (is_under kinds) (map (λ e. (e, name)) all) → is_among all entity ≡ true → is_under kinds (entity, name) ≡ true
under_each kinds name entity [] has there = absurd (true≢false (sym there))
under_each kinds name entity (e ∷ es) has there =
    let parts = and_parts (is_under kinds (e, name)) (list_all (is_under kinds) (map (λ n. (n, name)) es)) has in
    ⊎_elim
    (λ (here : (e == entity) ≡ true). subst (λ (n : ℕ). is_under kinds (n, name) ≡ true) (eqb-true e entity here) parts.0)
    (λ (other : (e == entity) ≡ false). under_each kinds name entity es parts.1 (rw other at there))
    (cases_Bool (e == entity))

none_found : (schema : Checked) (entity : ℕ) (names : List ℕ) (kinds : List Kind)
    → ((q : ℕ × ℕ) → may_have schema (Some entity) q.0 ≡ true → is_under kinds q ≡ true → is_among names q.1 ≡ true)
    → (name : ℕ) → is_among names name ≡ false → (all : Entities) → HasAll (is_under kinds) (map (λ e. (e, name)) (written all)) → is_among (entities_of schema all) entity ≡ false
none_found schema entity names kinds found name gone (Leaf e) has = ⊎_elim
    (λ (there : is_among (line_of schema e) entity ≡ true).
    let parts = and_parts (is_under kinds (e, name)) true has in
    absurd (true≢false (sym (found (e, name) (or_right (entity == e) (is_among (line_of schema e) entity) there) parts.0) ∙ gone)))
    (λ (other : is_among (line_of schema e) entity ≡ false). other)
    (cases_Bool (is_among (line_of schema e) entity))
none_found schema entity names kinds found name gone (Several es) has = ⊎_elim
    (λ (there : is_among es entity ≡ true).
    let itself = or_left (entity == entity) (is_among (line_of schema entity) entity) (eq-eqb entity entity refl) in
    absurd (true≢false (sym (found (entity, name) itself (under_each kinds name entity es has there)) ∙ gone)))
    (λ (other : is_among es entity ≡ false). other)
    (cases_Bool (is_among es entity))

sought : (schema : Checked) (entity : Option ℕ) (names : List ℕ) (kinds : List Kind)
    → ((q : ℕ × ℕ) → may_have schema entity q.0 ≡ true → is_under kinds q ≡ true → is_among names q.1 ≡ true)
    → (i : Instance) → HasAll (is_under kinds) (kinds_of i) → is_among names i.name ≡ false → is_of_sought schema entity i ≡ false
sought schema None names kinds found i has gone = refl
sought schema (Some entity) names kinds found i has gone = none_found schema entity names kinds found i.name gone i.entities has

pub kinds_cover : (schema : Checked) (entity : Option ℕ) (names : List ℕ) (kinds : List Kind)
    → ((q : ℕ × ℕ) → may_have schema entity q.0 ≡ true → is_under kinds q ≡ true → is_among names q.1 ≡ true)
    → (is : List Instance) → AreKindsOf is kinds → AreFoundAmong schema entity names is
kinds_cover schema entity names kinds found [] all = tt
kinds_cover schema entity names kinds found (i ∷ is) all =
    let parts = has_parts (is_under kinds) (kinds_of i) (flat_map kinds_of is) all in
    (λ gone. sought schema entity names kinds found i parts.0 gone, kinds_cover schema entity names kinds found is parts.1)

-- ---- the names under some kinds

put_behind : (a b c : Bool) → ((a && b) || c) ≡ true → (c || b) ≡ true
put_behind true true c e = or_right c true refl
put_behind true false c e = or_left c false e
put_behind false b c e = or_left c b e

-- one whose names are put behind the others
pub kind_pushed : (k : Kind) (q : ℕ × ℕ) (old more new : List ℕ) → new ≡ old ++ more → more ≡ k.names.items → (is_in_kind q k || is_among old q.1) ≡ true → is_among new q.1 ≡ true
kind_pushed k q old more new all is there =
    ap (λ (ns : List ℕ). is_among ns q.1) (all ∙ ap (λ (ns : List ℕ). old ++ ns) is)
    ∙ list_any-append (λ m. m == q.1) old k.names.items
    ∙ put_behind (k.entity == q.0) (is_among k.names.items q.1) (is_among old q.1) there

-- one that is passed by
pub kind_passed : (may : ℕ → Bool) (k : Kind) (q : ℕ × ℕ) (old : List ℕ) → may k.entity ≡ false → may q.0 ≡ true → (is_in_kind q k || is_among old q.1) ≡ true → is_among old q.1 ≡ true
kind_passed may k q old never some there = ⊎_elim
    (λ (same : (k.entity == q.0) ≡ true). absurd (true≢false (sym some ∙ ap may (sym (eqb-true k.entity q.0 same)) ∙ never)))
    (λ (other : (k.entity == q.0) ≡ false). rw other at there)
    (cases_Bool (k.entity == q.0))

without_false : (a c : Bool) → ((a || false) || c) ≡ true → (a || c) ≡ true
without_false true c e = refl
without_false false c e = e

carried : (a b c d : Bool) → ((a || c) ≡ true → d ≡ true) → ((a || b) || c) ≡ true → (b || d) ≡ true
carried a true c d step e = refl
carried a false c d step e = step (without_false a c e)

-- one kind more
pub kinds_more : (kinds : List Kind) (k : ℕ) (x : Kind) (q : ℕ × ℕ) (old new : List ℕ) → k < length kinds → x ≡ get_or kinds k x
    → ((is_in_kind q x || is_among old q.1) ≡ true → is_among new q.1 ≡ true)
    → (is_under (drop k kinds) q || is_among old q.1) ≡ true → (is_under (drop (k + 1) kinds) q || is_among new q.1) ≡ true
kinds_more kinds k x q old new within is step before =
    let here : x ∷ drop (k + 1) kinds ≡ drop k kinds = ap (λ y. y ∷ drop (k + 1) kinds) is ∙ sym (drop_more kinds k x within) in
    carried (is_in_kind q x) (is_under (drop (k + 1) kinds) q) (is_among old q.1) (is_among new q.1) step (ap (λ (l : List Kind). is_under l q || is_among old q.1) here ∙ before)

-- ---- what is found of each is what is found of all

one_told : (model : Key) (i : Instance) (xs : List Instance) (t : Bool) → (if t then place_in model i ∷ [] else []) ++ map (place_in model) xs ≡ map (place_in model) (if t then i ∷ xs else xs)
one_told model i xs true = refl
one_told model i xs false = refl

pub found_is : (schema : Checked) (entity : Option ℕ) (model : Key) (xs : List Instance) → flat_map (found_in schema entity model) xs ≡ map (place_in model) (filter (is_of_sought schema entity) xs)
found_is schema entity model [] = refl
found_is schema entity model (i ∷ xs) =
    ap (λ ps. found_in schema entity model i ++ ps) (found_is schema entity model xs) ∙ one_told model i (filter (is_of_sought schema entity) xs) (is_of_sought schema entity i)
