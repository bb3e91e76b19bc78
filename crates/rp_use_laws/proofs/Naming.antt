-- What names denote in a population, and where it stands.
use Rattle.std.proofs.Common.{◌≡◌, ◌+◌, ℕ, suc, Bool, true, false, ◌&&◌, ◌||◌, ◌==◌, if◌then◌else◌, List, [], ◌∷◌, refl, sym, ◌∙◌, ap, subst, arith}
use Rattle.std.proofs.lemmas.Bool.{and_from, and_parts, eq-eqb, eqb-true, false≢true}
use Rattle.std.proofs.lemmas.Bool.Decides.{nat_tests}
use Rattle.std.proofs.lemmas.Slice.Eq.{bytes_eq-Decides}
use Rattle.std.specs.List.{AllByRecursion, list_any}
use Rattle.std.specs.Ordering.{is_gt, nat_cmp}
use Rattle.std.specs.Str.{bytes_eq}
use Rattle.plain_data.specs.Numbers.{is_among}
use Rattle.sorted_tables.specs.Table.{is_after, IsAscending}
use Rattle.rp_content.specs.declared.link.Link.{Link}
use Rattle.rp_rows.specs.declared.rows.Key.{Key}
use Rattle.rp_rows.specs.Rows.{same_key}
use Rattle.rp_rows.specs.Contents.{link_name, link_names}
use Rattle.rp_population.specs.declared.place.Place.{Place}
use Rattle.rp_population.specs.Populations.{Placed, beside, has_place, is_at, links_to, same_place, stands_for, target_of}
use Rattle.rp_positions.specs.Positions.{place_position, position_of}

-- ---- places

pub key_same : (k j : Key) → same_key k j ≡ true → j ≡ k
key_same k j e =
    let both = and_parts (bytes_eq j.owner k.owner) (bytes_eq j.name k.name) e in
    λ i. record { owner = (bytes_eq-Decides j.owner k.owner).0 both.0 i; name = (bytes_eq-Decides j.name k.name).0 both.1 i }

pub key_itself : (k : Key) → same_key k k ≡ true
key_itself k = and_from (bytes_eq k.owner k.owner) (bytes_eq k.name k.name) ((bytes_eq-Decides k.owner k.owner).1 refl) ((bytes_eq-Decides k.name k.name).1 refl)

pub place_same : (p q : Place) → same_place p q ≡ true → q ≡ p
place_same p q e =
    let both = and_parts (same_key p.model q.model) (p.instance == q.instance) e in
    λ i. record { model = key_same p.model q.model both.0 i; instance = sym (eqb-true p.instance q.instance both.1) i }

pub place_itself : (p : Place) → same_place p p ≡ true
place_itself p = and_from (same_key p.model p.model) (p.instance == p.instance) (key_itself p.model) (eq-eqb p.instance p.instance refl)

-- ---- a name denotes one instance at most

-- no link has the name that an instance of its model has at a place
abbrev pub IsFree : Placed → Place → Type 0
IsFree x p = same_key x.place.model p.model ≡ true → is_among (link_names x.links) p.instance ≡ false

later : (m n k : ℕ) → is_gt (nat_cmp k m) ≡ true → (m == n) ≡ true → (k == n) ≡ false
later m n k behind is = grind (arith, nat_tests)

module _ (x : Placed) (name : ℕ) where
  abbrev is_own : Place → Bool
  is_own p = same_place p (beside x name)

  abbrev is_linked : Place → List Link → Bool
  is_linked p ls = list_any (links_to name p) ls

  linked_name : (p : Place) (ls : List Link) → is_linked p ls ≡ true → is_among (link_names ls) name ≡ true
  linked_name p [] e = cc
  linked_name p (l ∷ ls) e = by (linked_name p ls) (l.name == name) (same_place p (target_of l)) e
    where
      by : (is_linked p ls ≡ true → is_among (link_names ls) name ≡ true) → (t u : Bool) → (t && u || is_linked p ls) ≡ true → (t || is_among (link_names ls) name) ≡ true
      by rest true u e = refl
      by rest false u e = rest e

  -- one of an instance's own model isn't linked
  own_alone : (p q : Place) → IsFree x p → is_own p ≡ true → is_linked q x.links ≡ true → ⊥
  own_alone p q free own linked =
      let it : beside x name ≡ p = place_same p (beside x name) own in
      let clear : is_among (link_names x.links) name ≡ false = subst (λ (z : Place). is_among (link_names x.links) z.instance ≡ false) (sym it)
      (free (subst (λ (z : Place). same_key x.place.model z.model ≡ true) it (key_itself x.place.model))) in
      false≢true (sym clear ∙ linked_name q x.links linked)

  none_later : (p : Place) (l : Link) (ls : List Link) → (l.name == name) ≡ true → AllByRecursion (λ (k : Link). is_after nat_cmp link_name l.name k ≡ true) ls → is_linked p ls ≡ false
  none_later p l [] is all = refl
  none_later p l (k ∷ ls) is all = rw (later l.name name k.name all.0 is) (none_later p l ls is all.1)

  one_link : (p q : Place) (ls : List Link) → IsAscending nat_cmp link_name ls → is_linked p ls ≡ true → is_linked q ls ≡ true → same_place p q ≡ true
  one_link p q [] order e f = cc
  one_link p q (l ∷ ls) order e f = by (one_link p q ls order.1) (l.name == name) refl (same_place p (target_of l)) refl (same_place q (target_of l)) refl e f
    where
      by : (is_linked p ls ≡ true → is_linked q ls ≡ true → same_place p q ≡ true) → (t : Bool) → (l.name == name) ≡ t → (u : Bool) → same_place p (target_of l) ≡ u → (w : Bool) → same_place q (target_of l) ≡ w
          → (t && u || is_linked p ls) ≡ true → (t && w || is_linked q ls) ≡ true → same_place p q ≡ true
      by rest true is true at true to e f =
          let both : p ≡ q = sym (place_same p (target_of l) at) ∙ place_same q (target_of l) to in
          subst (λ z. same_place p z ≡ true) both (place_itself p)
      by rest true is true at false to e f = absurd (false≢true (sym (none_later q l ls is order.0) ∙ f))
      by rest true is false at w to e f = absurd (false≢true (sym (none_later p l ls is order.0) ∙ e))
      by rest false is u at w to e f = rest e f

  pub once : (p q : Place) → IsFree x p → IsFree x q → IsAscending nat_cmp link_name x.links → same_place p q ≡ false → stands_for p x name ≡ true → stands_for q x name ≡ false
  once p q free other order apart e = by (is_own p) refl (is_linked p x.links) refl (is_own q) refl (is_linked q x.links) refl e
    where
      by : (a : Bool) → is_own p ≡ a → (b : Bool) → is_linked p x.links ≡ b → (c : Bool) → is_own q ≡ c → (d : Bool) → is_linked q x.links ≡ d → (a || b) ≡ true → (c || d) ≡ false
      by true own b linked true its d its_link e =
          let both : p ≡ q = sym (place_same p (beside x name) own) ∙ place_same q (beside x name) its in
          absurd (false≢true (sym apart ∙ subst (λ z. same_place p z ≡ true) both (place_itself p)))
      by true own b linked false its true its_link e = absurd (own_alone p q free own its_link)
      by true own b linked false its false its_link e = refl
      by false own true linked true its d its_link e = absurd (own_alone q p other its linked)
      by false own true linked false its true its_link e = absurd (false≢true (sym apart ∙ one_link p q x.links order linked its_link))
      by false own true linked false its false its_link e = refl
      by false own false linked c its d its_link e = cc

-- ---- where it stands

behind_zero : (n : ℕ) → (suc n == 0) ≡ false
behind_zero n = grind (arith, nat_tests)

before_one : (n : ℕ) → (0 == suc n) ≡ false
before_one n = grind (arith, nat_tests)

one_more : (m n : ℕ) → (suc m == suc n) ≡ (m == n)
one_more m n = grind (arith, nat_tests)

module _ (x : Placed) (name : ℕ) (p : Place) where
  -- what else has the name denotes nothing that stands elsewhere
  abbrev pub DenotesOnce : List Placed → Type 0
  DenotesOnce xs = AllByRecursion (λ (y : Placed). same_place p y.place ≡ false → stands_for p x name ≡ true → stands_for y.place x name ≡ false) xs

  not_both : (b c : Bool) → c ≡ true → (b ≡ true → c ≡ false) → b ≡ false
  not_both true c is other = absurd (false≢true (sym (other refl) ∙ is))
  not_both false c is other = refl

  -- a name has the position of the place that it stands for
  pub position_is : (xs : List Placed) → DenotesOnce xs → has_place xs p ≡ true → (position_of xs x name == place_position xs p) ≡ stands_for p x name
  unfolding position_of place_position
  position_is [] once there = cc
  position_is (y ∷ ys) once there = by (position_is ys once.1) (is_at p y) refl (stands_for y.place x name) refl there
    where
      by : (has_place ys p ≡ true → (position_of ys x name == place_position ys p) ≡ stands_for p x name) → (t : Bool) → is_at p y ≡ t → (u : Bool) → stands_for y.place x name ≡ u → (t || has_place ys p) ≡ true
          → ((if u then 0 else suc (position_of ys x name)) == (if t then 0 else suc (place_position ys p))) ≡ stands_for p x name
      by rest true at true is there = sym is ∙ ap (λ z. stands_for z x name) (place_same p y.place at)
      by rest true at false is there = behind_zero (position_of ys x name) ∙ sym is ∙ ap (λ z. stands_for z x name) (place_same p y.place at)
      by rest false at true is there = before_one (place_position ys p) ∙ sym (not_both (stands_for p x name) (stands_for y.place x name) is (once.0 at))
      by rest false at false is there = one_more (position_of ys x name) (place_position ys p) ∙ rest there

-- ---- where each instance stands

abbrev pub AreApart : List Placed → Type 0
AreApart [] = Unit {0}
AreApart (x ∷ xs) = AllByRecursion (λ (y : Placed). same_place y.place x.place ≡ false) xs × AreApart xs

-- these stand from a position on
abbrev pub StandFrom : List Placed → ℕ → List Placed → Type 0
StandFrom xs n [] = Unit {0}
StandFrom xs n (y ∷ ys) = (place_position xs y.place ≡ n) × StandFrom xs (n + 1) ys

next_is : (m n : ℕ) → m ≡ n → suc m ≡ n + 1
next_is m n e = omega arith

stand_behind : (x : Placed) (xs ys : List Placed) (n : ℕ) → AllByRecursion (λ (y : Placed). same_place y.place x.place ≡ false) ys → StandFrom xs n ys → StandFrom (x ∷ xs) (n + 1) ys
unfolding place_position
stand_behind x xs [] n apart stand = tt
stand_behind x xs (y ∷ ys) n apart stand = (
  ap (λ t. if t then 0 else suc (place_position xs y.place)) apart.0 ∙ next_is (place_position xs y.place) n stand.0,
  stand_behind x xs ys (n + 1) apart.1 stand.1,
)

pub all_stand : (xs : List Placed) → AreApart xs → StandFrom xs 0 xs
unfolding place_position
all_stand [] apart = tt
all_stand (x ∷ xs) apart = (
  ap (λ t. if t then 0 else suc (place_position xs x.place)) (place_itself x.place),
  stand_behind x xs xs 0 apart.0 (all_stand xs apart.1),
)
