-- Expressions without a fault name no entity twice, and direct subtypes alone.
use Rattle.std.proofs.Common.{◌≡◌, ℕ, zero, suc, ◌+◌, ◌<◌, Bool, true, false, ◌&&◌, ◌||◌, ◌==◌, if◌then◌else◌, List, [], ◌∷◌, ◌++◌, fold, Option, Some, None, ⊎_elim, refl, sym, ◌∙◌, ap, length, get_or, drop, add-one, drop-cons, arith}
use Rattle.std.proofs.lemmas.Bool.{cases_Bool, eq-eqb, eqb-true}
use Rattle.std.proofs.lemmas.List.Sums.{fold-append}
use Rattle.std.specs.Prelude.{slice_get}
use Rattle.std.specs.BTreeSet.{insert_key}
use Rattle.std.specs.List.{flat_map, list_all}
use Rattle.std.specs.Option.{option_map_or}
use Rattle.std.specs.Ordering.{nat_cmp}
use Rattle.plain_data.specs.Numbers.{is_among, numbered_from}
use Rattle.ex_named.specs.declared.declaration.NamedEntity.{NamedEntity}
use Rattle.ex_named.specs.declared.declaration.NamedSupertype.{NamedSupertype}
use Rattle.graphs.proofs.Sets.{is_among-insert, or_left, or_right}
use Rattle.ex_subtypes.specs.declared.build.Mention.{Mention}
use Rattle.ex_subtypes.specs.declared.build.SubtypeFault.{SubtypeFault}
use Rattle.ex_subtypes.specs.declared.build.SubtypeFaultKind.TheVariants.{NamedTwice, NotDirectSubtype}
use Rattle.ex_subtypes.specs.Combinations.{names, is_distinct}
use Rattle.ex_subtypes.specs.Faults.{mentions, fault, faults_at, faults_after, faults_of, entity_faults, faults, sooner, is_before, first_fault}
use Rattle.ex_subtypes.specs.Legal.{constraints_of, is_direct_subtype, is_readable, AreReadable}
use Rattle.ex_subtypes.proofs.Mentions.{entities_of, same_names}

-- ---- none is the first of no faults alone

stays_some : (a : SubtypeFault) (fs : List SubtypeFault) → fold sooner (Some a) fs ≡ None → (gs : List SubtypeFault) → gs ≡ []
stays_some a [] e gs = cc
stays_some a (f ∷ fs) e gs = by_place (is_before f a) e (λ b next. stays_some b fs next gs)
  where
    by_place : (t : Bool) → fold sooner (if t then Some f else Some a) fs ≡ None → ((b : SubtypeFault) → fold sooner (Some b) fs ≡ None → gs ≡ []) → gs ≡ []
    by_place true e go = go f e
    by_place false e go = go a e

no_faults : (fs : List SubtypeFault) → fold sooner None fs ≡ None → fs ≡ []
no_faults [] e = refl
no_faults (f ∷ fs) e = stays_some f fs e (f ∷ fs)

both_nil : {A : Type 0} (xs ys : List A) → xs ++ ys ≡ [] → (xs ≡ []) × (ys ≡ [])
both_nil [] ys e = (refl, e)
both_nil (x ∷ xs) ys e = cc

-- ---- an expression without a fault

new_by : (t u : Bool) (m : Mention) → (if t then fault NamedTwice m.at ∷ [] else if u then [] else fault NotDirectSubtype m.at ∷ []) ≡ [] → (t ≡ false) × (u ≡ true)
new_by true u m none = cc
new_by false true m none = (refl, refl)
new_by false false m none = cc

module _ (is_subtype : ℕ → Bool) where
  -- what stands before doesn't come again
  not_again : (before : List ℕ) (ms : List Mention) (n : ℕ) → faults_after is_subtype before ms ≡ [] → is_among before n ≡ true → is_among (entities_of ms) n ≡ false
  not_again before [] n none there = refl
  not_again before (m ∷ ms) n none there =
      let both = both_nil (faults_at is_subtype before m) (faults_after is_subtype (m.entity ∷ before) ms) none in
      let new = (new_by (is_among before m.entity) (is_subtype m.entity) m both.0).0 in
      let other : (m.entity == n) ≡ false = ⊎_elim
      (λ (same : (m.entity == n) ≡ true). let again : is_among before m.entity ≡ true = rw (eqb-true m.entity n same) there in cc)
      (λ (h : (m.entity == n) ≡ false). h)
      (cases_Bool (m.entity == n)) in
      rw (other, not_again (m.entity ∷ before) ms n both.1 (or_right (m.entity == n) (is_among before n) there)) refl

  distinct_after : (before : List ℕ) (ms : List Mention) → faults_after is_subtype before ms ≡ [] → is_distinct (entities_of ms) ≡ true
  distinct_after before [] none = refl
  distinct_after before (m ∷ ms) none =
      let both = both_nil (faults_at is_subtype before m) (faults_after is_subtype (m.entity ∷ before) ms) none in
      let head : is_among (m.entity ∷ before) m.entity ≡ true = or_left (m.entity == m.entity) (is_among before m.entity) (eq-eqb m.entity m.entity refl) in
      rw (not_again (m.entity ∷ before) ms m.entity both.1 head) (distinct_after (m.entity ∷ before) ms both.1)

  direct_after : (before : List ℕ) (ms : List Mention) → faults_after is_subtype before ms ≡ [] → list_all is_subtype (entities_of ms) ≡ true
  direct_after before [] none = refl
  direct_after before (m ∷ ms) none =
      let both = both_nil (faults_at is_subtype before m) (faults_after is_subtype (m.entity ∷ before) ms) none in
      rw ((new_by (is_among before m.entity) (is_subtype m.entity) m both.0).1, direct_after (m.entity ∷ before) ms both.1) refl

  expression_readable : (x : NamedSupertype) → faults_of is_subtype x ≡ [] → (is_distinct (names x) && list_all is_subtype (names x)) ≡ true
  expression_readable x none = rw (same_names x, distinct_after [] (mentions x) none, direct_after [] (mentions x) none) refl

  all_readable : (xs : List NamedSupertype) → flat_map (faults_of is_subtype) xs ≡ [] → list_all (λ x. is_distinct (names x) && list_all is_subtype (names x)) xs ≡ true
  all_readable [] none = refl
  all_readable (x ∷ xs) none =
      let both = both_nil (faults_of is_subtype x) (flat_map (faults_of is_subtype) xs) none in
      rw (expression_readable x both.0, all_readable xs both.1) refl

-- ---- a schema without a fault

module _ (make : ℕ → NamedEntity → List SubtypeFault) where
  none_at : (es : List NamedEntity) (from k at : ℕ) (e : NamedEntity) → from + k ≡ at → flat_map (λ fs. fs) (numbered_from make from es) ≡ [] → slice_get es k ≡ Some e → make at e ≡ []
  none_at [] from k at e there none is = cc
  none_at (x ∷ es) from zero at e there none is =
      let same : x ≡ e = cc in
      let here : from ≡ at = omega (arith, there) in
      rw (← same, ← here) (both_nil (make from x) (flat_map (λ fs. fs) (numbered_from make (suc from) es)) none).0
  none_at (x ∷ es) from (suc k) at e there none is =
      none_at es (suc from) k at e (omega (arith, there)) (both_nil (make from x) (flat_map (λ fs. fs) (numbered_from make (suc from) es)) none).1 is

readable_by : (entities : List NamedEntity) (e : ℕ) (o : Option NamedEntity) → slice_get entities e ≡ o → faults entities ≡ [] → list_all (is_readable entities e) (option_map_or constraints_of o []) ≡ true
readable_by entities e None is none = refl
readable_by entities e (Some x) is none = all_readable (is_direct_subtype entities e) (constraints_of x) (none_at (entity_faults entities) entities zero e e x (omega arith) none is)

-- expressions without a fault can be read
pub readable : (entities : List NamedEntity) → first_fault entities ≡ None → AreReadable entities
unfolding first_fault
readable entities none e = readable_by entities e (slice_get entities e) refl (no_faults (faults entities) none)

-- ---- the entity of a number

first_holds : (a b : Bool) → (a && b) ≡ true → a ≡ true
first_holds true b e = refl
first_holds false b e = cc

others_hold : (a b : Bool) → (a && b) ≡ true → b ≡ true
others_hold true b e = e
others_hold false b e = cc

all_distinct : (is_subtype : ℕ → Bool) (xs : List NamedSupertype) → list_all (λ x. is_distinct (names x) && list_all is_subtype (names x)) xs ≡ true → list_all (λ x. is_distinct (names x)) xs ≡ true
all_distinct is_subtype [] all = refl
all_distinct is_subtype (x ∷ xs) all =
    let here = first_holds (is_distinct (names x) && list_all is_subtype (names x)) (list_all (λ x. is_distinct (names x) && list_all is_subtype (names x)) xs) all in
    let there = others_hold (is_distinct (names x) && list_all is_subtype (names x)) (list_all (λ x. is_distinct (names x) && list_all is_subtype (names x)) xs) all in
    rw (first_holds (is_distinct (names x)) (list_all is_subtype (names x)) here, all_distinct is_subtype xs there) refl

pub distinct_at : (entities : List NamedEntity) (k : ℕ) (e : NamedEntity) → AreReadable entities → slice_get entities k ≡ Some e → list_all (λ x. is_distinct (names x)) (constraints_of e) ≡ true
distinct_at entities k e all is =
    all_distinct (is_direct_subtype entities k) (constraints_of e) (ap (λ o. list_all (is_readable entities k) (option_map_or constraints_of o [])) (sym is) ∙ all k)

entity_at : (entities : List NamedEntity) (k : ℕ) (d : NamedEntity) → k < length entities → slice_get entities k ≡ Some (get_or entities k d)
entity_at [] k d within = absurd (omega arith)
entity_at (e ∷ entities) zero d within = refl
entity_at (e ∷ entities) (suc k) d within = entity_at entities k d (omega arith)

pub distinct_in : (entities : List NamedEntity) (k : ℕ) (e : NamedEntity) → AreReadable entities → k < length entities → e ≡ get_or entities k e → list_all (λ x. is_distinct (names x)) (constraints_of e) ≡ true
distinct_in entities k e all within is = distinct_at entities k e all (entity_at entities k e within ∙ ap Some (sym is))

-- ---- one mention more

-- what stands before counts as a set
faults_after-same : (is_subtype : ℕ → Bool) (xs ys : List ℕ) → ((n : ℕ) → is_among xs n ≡ is_among ys n) → (ms : List Mention) → faults_after is_subtype xs ms ≡ faults_after is_subtype ys ms
faults_after-same is_subtype xs ys same [] = refl
faults_after-same is_subtype xs ys same (m ∷ ms) =
    rw (same m.entity, faults_after-same is_subtype (m.entity ∷ xs) (m.entity ∷ ys) (λ n. ap (λ b. (m.entity == n) || b) (same n)) ms) refl

-- the mention at k is looked at, and then those behind it
pub fault_among-next : (is_subtype : ℕ → Bool) (keys new : List ℕ) (found next told : Option SubtypeFault) (ms : List Mention) (k : ℕ) (d : Mention) → k < length ms
    → new ≡ insert_key nat_cmp keys (get_or ms k d).entity → next ≡ fold sooner found (faults_at is_subtype keys (get_or ms k d))
    → fold sooner found (faults_after is_subtype keys (drop k ms)) ≡ told → fold sooner next (faults_after is_subtype new (drop (k + 1) ms)) ≡ told
fault_among-next is_subtype keys new found next told ms k d within is_new is_next so_far =
    let m = get_or ms k d in
    let rest = drop (k + 1) ms in
    let cut : drop k ms ≡ m ∷ rest = rw (add-one, drop-cons ms k d) refl in
    let same : faults_after is_subtype new rest ≡ faults_after is_subtype (m.entity ∷ keys) rest =
    faults_after-same is_subtype new (m.entity ∷ keys) (λ n. ap (λ l. is_among l n) is_new ∙ is_among-insert keys m.entity n) rest in
    ap (λ o. fold sooner o (faults_after is_subtype new rest)) is_next
    ∙ ap (fold sooner (fold sooner found (faults_at is_subtype keys m))) same
    ∙ sym (fold-append sooner found (faults_at is_subtype keys m) (faults_after is_subtype (m.entity ∷ keys) rest))
    ∙ ap (λ l. fold sooner found (faults_after is_subtype keys l)) (sym cut)
    ∙ so_far

-- the entity at k is looked at, and then those behind it
pub first_fault-next : (make : ℕ → NamedEntity → List SubtypeFault) (found next told : Option SubtypeFault) (es : List NamedEntity) (k : ℕ) (d : NamedEntity) → k < length es
    → next ≡ fold sooner found (make k (get_or es k d)) → fold sooner found (flat_map (λ fs. fs) (numbered_from make k (drop k es))) ≡ told
    → fold sooner next (flat_map (λ fs. fs) (numbered_from make (k + 1) (drop (k + 1) es))) ≡ told
first_fault-next make found next told es k d within is_next so_far =
    let e = get_or es k d in
    let rest = drop (k + 1) es in
    let cut : drop k es ≡ e ∷ rest = rw (add-one, drop-cons es k d) refl in
    let one : k + 1 ≡ suc k = omega arith in
    ap (λ o. fold sooner o (flat_map (λ fs. fs) (numbered_from make (k + 1) rest))) is_next
    ∙ ap (λ n. fold sooner (fold sooner found (make k e)) (flat_map (λ fs. fs) (numbered_from make n rest))) one
    ∙ sym (fold-append sooner found (make k e) (flat_map (λ fs. fs) (numbered_from make (suc k) rest)))
    ∙ ap (λ l. fold sooner found (flat_map (λ fs. fs) (numbered_from make k l))) (sym cut)
    ∙ so_far
