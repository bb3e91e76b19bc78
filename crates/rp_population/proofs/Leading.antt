-- Links that are found at some places, where others lead elsewhere.
use Rattle.std.proofs.Common.{◌≡◌, ◌<◌, ◌+◌, ℕ, zero, suc, Bool, true, false, ◌&&◌, ◌||◌, ◌==◌, List, [], ◌∷◌, Option, Some, None, refl, sym, ◌∙◌, ap, true≢false, subst, arith, ⊎_elim}
use Rattle.std.proofs.lemmas.Bool.{and_parts, cases_Bool, eqb-true, eq-eqb}
use Rattle.std.specs.List.{list_any, slice_get, AllByRecursion}
use Rattle.std.specs.Option.{option_map_or}
use Rattle.plain_data.specs.Numbers.{is_among, numbered, numbered_from}
use Rattle.rp_content.specs.declared.link.Link.{Link}
use Rattle.rp_rows.specs.Rows.{same_key, key_of}
use Rattle.rp_index.specs.Index.{lead, AreLeadsAmong}
use Rattle.rp_index.proofs.Tests.{or_left, or_right}
use Rattle.rp_population.specs.declared.place.Place.{Place}
use Rattle.rp_population.specs.Populations.{same_place, target_of, links_to}
use Rattle.rp_population.specs.Candidates.{passes_at}

-- what passes at a place passes in the list
passes_in : {X : Type 0} (test : X → Bool) (xs : List X) (place : ℕ) → passes_at test xs place ≡ true → list_any test xs ≡ true
passes_in test [] place there = absurd (true≢false (sym there))
passes_in test (x ∷ xs) zero there = or_left (test x) (list_any test xs) there
passes_in test (x ∷ xs) (suc place) there = or_right (test x) (list_any test xs) (passes_in test xs place there)

some_passes : {X : Type 0} (test : X → Bool) (xs : List X) (places : List ℕ) → list_any (passes_at test xs) places ≡ true → list_any test xs ≡ true
some_passes test xs [] there = absurd (true≢false (sym there))
some_passes test xs (p ∷ ps) there = ⊎_elim
    (λ (here : passes_at test xs p ≡ true). passes_in test xs p here)
    (λ (other : passes_at test xs p ≡ false). some_passes test xs ps (rw other at there))
    (cases_Bool (passes_at test xs p))

among_passes : (f : ℕ → Bool) (ps : List ℕ) (p : ℕ) → is_among ps p ≡ true → f p ≡ true → list_any f ps ≡ true
among_passes f [] p among passes = absurd (true≢false (sym among))
among_passes f (q ∷ qs) p among passes = ⊎_elim
    (λ (here : (q == p) ≡ true). or_left (f q) (list_any f qs) (ap f (eqb-true q p here) ∙ passes))
    (λ (other : (q == p) ≡ false). or_right (f q) (list_any f qs) (among_passes f qs p (rw other at among) passes))
    (cases_Bool (q == p))

-- one that passes stands at a candidate's place
found_at : (target : ℕ) (places : List ℕ) (test : Link → Bool) → ((l : Link) → test l ≡ true → (l.target == target) ≡ true) → (k : ℕ) (ls : List Link)
    → AllByRecursion (λ q. (q.0 == target) ≡ true → is_among places q.1 ≡ true) (numbered_from lead k ls) → list_any test ls ≡ true
    → (p : ℕ) × (is_among places (k + p) ≡ true) × (passes_at test ls p ≡ true)
found_at target places test leads k [] covered there = absurd (true≢false (sym there))
found_at target places test leads k (l ∷ ls) covered there = ⊎_elim
    (λ (here : test l ≡ true).
    let same : k ≡ k + 0 = omega arith in
    let among : is_among places (k + 0) ≡ true = subst (λ (n : ℕ). is_among places n ≡ true) same (covered.0 (leads l here)) in
    (zero, among, here))
    (λ (other : test l ≡ false).
    let rest = found_at target places test leads (suc k) ls covered.1 (rw other at there) in
    let same : suc k + rest.0 ≡ k + suc rest.0 = omega arith in
    let among : is_among places (k + suc rest.0) ≡ true = subst (λ (n : ℕ). is_among places n ≡ true) same rest.1 in
    (suc rest.0, among, rest.2))
    (cases_Bool (test l))

pub leads_are : (target : ℕ) (places : List ℕ) (test : Link → Bool) → ((l : Link) → test l ≡ true → (l.target == target) ≡ true) → (ls : List Link) → AreLeadsAmong target places ls
    → list_any (passes_at test ls) places ≡ list_any test ls
leads_are target places test leads ls covered = ⊎_elim
    (λ (there : list_any test ls ≡ true).
    let one = found_at target places test leads 0 ls covered there in
    let same : 0 + one.0 ≡ one.0 = omega arith in
    among_passes (passes_at test ls) places one.0 (subst (λ (n : ℕ). is_among places n ≡ true) same one.1) one.2 ∙ sym there)
    (λ (none : list_any test ls ≡ false). ⊎_elim
    (λ (some : list_any (passes_at test ls) places ≡ true). absurd (true≢false (sym (some_passes test ls places some) ∙ none)))
    (λ (no_one : list_any (passes_at test ls) places ≡ false). no_one ∙ sym none)
    (cases_Bool (list_any (passes_at test ls) places)))
    (cases_Bool (list_any test ls))

pub leads_there : (name : ℕ) (p : Place) (l : Link) → links_to name p l ≡ true → (l.target == p.instance) ≡ true
leads_there name p l there =
    let named = and_parts (l.name == name) (same_place p (target_of l)) there in
    let placed = and_parts (same_key p.model (key_of l.owner l.model)) (p.instance == l.target) named.1 in
    eq-eqb l.target p.instance (sym (eqb-true p.instance l.target placed.1))
