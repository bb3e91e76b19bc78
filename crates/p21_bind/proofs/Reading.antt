-- One instance after the other.
use Rattle.std.proofs.Common.{◌≡◌, ℕ, Bool, true, false, not, ◌&&◌, ◌||◌, ◌==◌, List, [], ◌∷◌, ◌++◌, reverse, Ok, Err, ⊎_elim, refl, sym, ◌∙◌, ap}
use Rattle.std.proofs.lemmas.Bool.{cases_Bool, eq-eqb, eqb-true}
use Rattle.std.proofs.lemmas.List.{reverse-append, append_assoc}
use Rattle.std.specs.List.{list_any}
use Rattle.plain_data.specs.Numbers.{is_among}
use Rattle.ex_schemas.specs.Schemas.{Checked}
use Rattle.graphs.proofs.Sets.{or_right}
use Rattle.p21_instances.specs.Instances.{has_twice, names}
use Rattle.p21_instances.proofs.SortedNames.{is_one}
use Rattle.p21_tree.specs.declared.instance.Instance as tree
use Rattle.rp_content.specs.declared.instance.Instance.{Instance}
use Rattle.p21_bind.specs.Files.{Instances, behind, first_of, one, instances_after}

-- ---- names that stood before

pub neither : (a b : Bool) → (a || b) ≡ false → (a ≡ false) × (b ≡ false)
neither true b e = cc
neither false b e = (refl, e)

-- a number that is none of some others is apart from each
pub apart_from : (m n : ℕ) (xs : List ℕ) → list_any (is_one m) xs ≡ false → is_among xs n ≡ true → (m == n) ≡ false
apart_from m n [] none there = cc
apart_from m n (x ∷ xs) none there =
    let parts = neither (m == x) (list_any (is_one m) xs) none in
    ⊎_elim
    (λ (is : (x == n) ≡ true). rw (← eqb-true x n is) parts.0)
    (λ (other : (x == n) ≡ false). apart_from m n xs parts.1 (rw other at there))
    (cases_Bool (x == n))

-- a name that is kept only where names stand twice is none of those that follow, or is kept
pub noted : (are_distinct : Bool) (s : ℕ) (xs : List ℕ) → (are_distinct ≡ true → has_twice is_one (s ∷ xs) ≡ false) → (n : ℕ) → is_among xs n ≡ true
    → (stood : Bool) → ((not are_distinct && (s == n)) || stood) ≡ ((s == n) || stood)
noted false s xs once n there stood = refl
noted true s xs once n there stood = rw (apart_from s n xs (neither (list_any (is_one s) xs) (has_twice is_one xs) (once refl)).0 there) refl

-- ---- instances

behind_behind : (a b : List Instance) (o : Instances) → behind (a ++ b) o ≡ behind a (behind b o)
behind_behind a b (Ok xs) = ap Ok (append_assoc a b xs)
behind_behind a b (Err fault) = refl

pub none_behind : (o : Instances) → behind [] o ≡ o
none_behind (Ok xs) = refl
none_behind (Err fault) = refl

-- the last of a list is the first of its reverse
pub first_is : {X : Type 0} (rest left : List X) (s : X) → rest ≡ left ++ s ∷ [] → reverse rest ≡ s ∷ reverse left
first_is rest left s is = ap reverse is ∙ reverse-append left (s ∷ [])

module _ (schema : Checked) (defined : ℕ → Bool) where
  -- of the names that stood before, those alone play a part that follow
  pub alike : (stood other : ℕ → Bool) (xs : List tree.Instance) → ((n : ℕ) → is_among (names xs) n ≡ true → stood n ≡ other n)
      → instances_after schema defined stood xs ≡ instances_after schema defined other xs
  alike stood other [] same = refl
  alike stood other (x ∷ xs) same =
      let here : stood x.name ≡ other x.name = same x.name (rw (eq-eqb x.name x.name refl) refl) in
      let rest = alike (λ n. (x.name == n) || stood n) (λ n. (x.name == n) || other n) xs
      (λ n there. ap (λ b. (x.name == n) || b) (same n (or_right (x.name == n) (is_among (names xs) n) there))) in
      rw (here, rest) refl

  pub read_on : (stood later : ℕ → Bool) (found more : List Instance) (rest left : List tree.Instance) (s : tree.Instance) (x : Instance)
      → rest ≡ left ++ s ∷ [] → one schema defined stood s ≡ Ok x → more ≡ found ++ x ∷ []
      → ((n : ℕ) → is_among (names (reverse left)) n ≡ true → later n ≡ ((s.name == n) || stood n))
      → behind more (instances_after schema defined later (reverse left)) ≡ behind found (instances_after schema defined stood (reverse rest))
  read_on stood later found more rest left s x is ok grown same =
      let others = instances_after schema defined (λ n. (s.name == n) || stood n) (reverse left) in
      ap (behind more) (alike later (λ n. (s.name == n) || stood n) (reverse left) same)
      ∙ (λ i. behind (grown i) others)
      ∙ behind_behind found (x ∷ []) others
      ∙ ap (behind found) (sym (ap (λ o. first_of o others) ok))
      ∙ ap (λ xs. behind found (instances_after schema defined stood xs)) (sym (first_is rest left s is))
