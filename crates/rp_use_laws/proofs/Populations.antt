-- What holds of the population of models in which names stand for one thing each.
use Rattle.std.proofs.Common.{◌≡◌, ℕ, Bool, true, false, ◌||◌, ◌==◌, List, [], ◌∷◌, ◌++◌, map, refl, sym, ◌∙◌, ap, subst, arith}
use Rattle.std.proofs.lemmas.Bool.{and_left, and_right, eqb-true, false≢true}
use Rattle.std.proofs.lemmas.Bool.Decides.{nat_tests}
use Rattle.std.specs.declared.cmp.Ordering.{Ordering}
use Rattle.std.specs.declared.cmp.Ordering.TheVariants.{Less, Equal, Greater}
use Rattle.std.specs.List.{AllByRecursion, flat_map}
use Rattle.std.specs.Ordering.{is_gt, nat_cmp, ordering_reverse}
use Rattle.plain_data.specs.Numbers.{is_among}
use Rattle.sorted_tables.specs.Table.{is_after, IsAscending}
use Rattle.ex_schemas.specs.Schemas.{Checked}
use Rattle.rp_content.specs.declared.instance.Instance.{Instance}
use Rattle.rp_content.specs.declared.link.Link.{Link}
use Rattle.rp_rows.specs.declared.rows.Key.{Key}
use Rattle.rp_rows.specs.Rows.{key_cmp, same_key}
use Rattle.rp_rows.specs.Contents.{instance_name, link_name, link_names, names}
use Rattle.rp_rows.proofs.Keys.{key_total}
use Rattle.rp_population.specs.Populations.{Counted, Placed, placed, placed_all, population, same_place}
use Rattle.rp_positions.specs.Positions.{counted_key}
use Rattle.rp_use_laws.proofs.Lists.{all_parts, behind, each_by, here}
use Rattle.rp_use_laws.proofs.Naming.{AreApart, IsFree, key_same}
use Rattle.rp_use_laws.specs.Uses.{HasValues, IsSound}

-- ---- lists

all_mapped : {X Y : Type 0} (P : Y → Type 0) (f : X → Y) (xs : List X) → AllByRecursion (λ x. P (f x)) xs → AllByRecursion P (map f xs)
all_mapped P f [] all = tt
all_mapped P f (x ∷ xs) all = (all.0, all_mapped P f xs all.1)

all_flat : {X Y : Type 0} (P : Y → Type 0) (f : X → List Y) (xs : List X) → AllByRecursion (λ x. AllByRecursion P (f x)) xs → AllByRecursion P (flat_map f xs)
all_flat P f [] all = tt
all_flat P f (x ∷ xs) all = all_parts P (f x) (flat_map f xs) all.0 (all_flat P f xs all.1)

all_ever : {X : Type 0} (P : X → Type 0) → ((x : X) → P x) → (xs : List X) → AllByRecursion P xs
all_ever P ever [] = tt
all_ever P ever (x ∷ xs) = (ever x, all_ever P ever xs)

with_both : {X : Type 0} (P Q : X → Type 0) (xs : List X) → AllByRecursion P xs → AllByRecursion Q xs → AllByRecursion (λ x. P x × Q x) xs
with_both P Q [] first second = tt
with_both P Q (x ∷ xs) first second = ((first.0, second.0), with_both P Q xs first.1 second.1)

-- ---- keys

never_after : (t : Ordering) → t ≡ ordering_reverse t → is_gt t ≡ true → ⊥
never_after Less same e = cc
never_after Equal same e = cc
never_after Greater same e = cc

apart_keys : (k j : Key) → is_gt (key_cmp j k) ≡ true → (same_key k j ≡ false) × (same_key j k ≡ false)
apart_keys k j e = (
  differ (same_key k j) (λ is. never_after (key_cmp k k) (key_total.antisymm k k) (subst (λ z. is_gt (key_cmp z k) ≡ true) (key_same k j is) e)),
  differ (same_key j k) (λ is. never_after (key_cmp j j) (key_total.antisymm j j) (subst (λ z. is_gt (key_cmp j z) ≡ true) (key_same j k is) e)),
)
  where
    differ : (t : Bool) → (t ≡ true → ⊥) → t ≡ false
    differ true none = absurd (none refl)
    differ false none = refl

-- ---- models

-- an instance of a population whose names stand for one thing each
pub record IsGood (schema : Checked) (xs : List Placed) (x : Placed) : Type 0 where
  pub values : HasValues schema x.instance
  pub links : IsAscending nat_cmp link_name x.links
  pub free : AllByRecursion (λ (y : Placed). IsFree x y.place) xs

-- ---- places are apart

apart_parts : (xs ys : List Placed) → AreApart xs → AreApart ys → AllByRecursion (λ (x : Placed). AllByRecursion (λ (y : Placed). same_place y.place x.place ≡ false) ys) xs → AreApart (xs ++ ys)
apart_parts [] ys first second across = second
apart_parts (x ∷ xs) ys first second across = (all_parts (λ (y : Placed). same_place y.place x.place ≡ false) xs ys first.0 across.0, apart_parts xs ys first.1 second across.1)

other_name : (m n : ℕ) → is_gt (nat_cmp n m) ≡ true → (n == m) ≡ false
other_name m n e = grind (arith, nat_tests)

one_apart : (m : Counted) (is : List Instance) → IsAscending nat_cmp instance_name is → AreApart (map (placed m) is)
one_apart m [] order = tt
one_apart m (i ∷ is) order = (
  all_mapped (λ (y : Placed). same_place y.place (placed m i).place ≡ false) (placed m) is
      (each_by (λ (j : Instance). is_after nat_cmp instance_name i.name j ≡ true) (λ (j : Instance). same_place (placed m j).place (placed m i).place ≡ false)
      (λ j after. and_right (same_key m.model m.model) (j.name == i.name) (other_name i.name j.name after)) is order.0),
  one_apart m is order.1,
)

-- instances in the order of their names
abbrev pub InstancesAscend : Counted → Type 0
InstancesAscend m = IsAscending nat_cmp instance_name m.content.instances

pub population_apart : (ms : List Counted) → IsAscending key_cmp counted_key ms → AllByRecursion InstancesAscend ms → AreApart (population ms)
population_apart [] order ascend = tt
population_apart (m ∷ ms) order ascend =
    apart_parts (placed_all m) (population ms) (one_apart m m.content.instances ascend.0) (population_apart ms order.1 ascend.1)
    (all_mapped (λ (x : Placed). AllByRecursion (λ (y : Placed). same_place y.place x.place ≡ false) (population ms)) (placed m) m.content.instances
    (all_ever (λ (i : Instance). AllByRecursion (λ (y : Placed). same_place y.place (placed m i).place ≡ false) (population ms))
    (λ i. all_flat (λ (y : Placed). same_place y.place (placed m i).place ≡ false) placed_all ms
    (each_by (λ (n : Counted). is_after key_cmp counted_key m.model n ≡ true) (λ (n : Counted). AllByRecursion (λ (y : Placed). same_place y.place (placed m i).place ≡ false) (placed_all n))
    (λ n after. all_mapped (λ (y : Placed). same_place y.place (placed m i).place ≡ false) (placed n) n.content.instances
    (all_ever (λ (j : Instance). same_place (placed n j).place (placed m i).place ≡ false)
    (λ j. and_left (same_key n.model m.model) (j.name == i.name) (apart_keys m.model n.model after).1) n.content.instances)) ms order.0)) m.content.instances))

module _ (schema : Checked) where
  -- ---- names of links are free

  abbrev FreeOf : Counted → Placed → Type 0
  FreeOf m y = same_key m.model y.place.model ≡ true → is_among (link_names m.content.links) y.place.instance ≡ false

  abbrev FreeIn : Counted → Counted → Type 0
  FreeIn m n = AllByRecursion (FreeOf m) (placed_all n)

  free_names : (ns : List ℕ) (ls : List Link) → AllByRecursion (λ (l : Link). is_among ns l.name ≡ false) ls → (n : ℕ) → is_among ns n ≡ true → is_among (link_names ls) n ≡ false
  free_names ns [] free n there = refl
  free_names ns (l ∷ ls) free n there = by (l.name == n) refl (free_names ns ls free.1 n there)
    where
      by : (t : Bool) → (l.name == n) ≡ t → is_among (link_names ls) n ≡ false → (t || is_among (link_names ls) n) ≡ false
      by true is rest = absurd (false≢true (sym free.0 ∙ ap (is_among ns) (eqb-true l.name n is) ∙ there))
      by false is rest = rest

  all_there : (ns : List ℕ) → AllByRecursion (λ n. is_among ns n ≡ true) ns
  all_there [] = tt
  all_there (n ∷ ns) = (here n ns, each_by (λ k. is_among ns k ≡ true) (λ k. is_among (n ∷ ns) k ≡ true) (λ k there. behind n k ns there) ns (all_there ns))

  unmapped : {X Y : Type 0} (P : Y → Type 0) (f : X → Y) (xs : List X) → AllByRecursion P (map f xs) → AllByRecursion (λ x. P (f x)) xs
  unmapped P f [] all = tt
  unmapped P f (x ∷ xs) all = (all.0, unmapped P f xs all.1)

  free_itself : (m : Counted) → IsSound schema m → FreeIn m m
  free_itself m sound =
      all_mapped (FreeOf m) (placed m) m.content.instances
      (each_by (λ (i : Instance). is_among (names m.content.instances) i.name ≡ true) (λ (i : Instance). FreeOf m (placed m i))
      (λ i there same. free_names (names m.content.instances) m.content.links sound.free i.name there) m.content.instances
      (unmapped (λ n. is_among (names m.content.instances) n ≡ true) instance_name m.content.instances (all_there (names m.content.instances))))

  free_apart : (m n : Counted) → same_key m.model n.model ≡ false → FreeIn m n
  free_apart m n apart =
      all_mapped (FreeOf m) (placed n) n.content.instances
      (all_ever (λ (i : Instance). FreeOf m (placed n i)) (λ i same. absurd (false≢true (sym apart ∙ same))) n.content.instances)

  all_free : (ms : List Counted) → IsAscending key_cmp counted_key ms → AllByRecursion (IsSound schema) ms → AllByRecursion (λ (m : Counted). AllByRecursion (FreeIn m) ms) ms
  all_free [] order sound = tt
  all_free (m ∷ ms) order sound = (
    (
      free_itself m sound.0,
      each_by (λ (n : Counted). is_after key_cmp counted_key m.model n ≡ true) (FreeIn m) (λ n after. free_apart m n (apart_keys m.model n.model after).0) ms order.0,
    ),
    with_both (λ (n : Counted). FreeIn n m) (λ (n : Counted). AllByRecursion (FreeIn n) ms) ms
        (each_by (λ (n : Counted). is_after key_cmp counted_key m.model n ≡ true) (λ (n : Counted). FreeIn n m) (λ n after. free_apart n m (apart_keys m.model n.model after).1) ms order.0)
        (all_free ms order.1 sound.1),
  )

  -- ---- all instances

  good_of : (xs : List Placed) (m : Counted) → IsSound schema m → AllByRecursion (FreeOf m) xs → AllByRecursion (IsGood schema xs) (placed_all m)
  good_of xs m sound free =
      all_mapped (IsGood schema xs) (placed m) m.content.instances
      (each_by (HasValues schema) (λ (i : Instance). IsGood schema xs (placed m i))
      (λ i values. record { values = values; links = sound.links; free = free }) m.content.instances sound.values)

  pub all_good : (ms : List Counted) → IsAscending key_cmp counted_key ms → AllByRecursion (IsSound schema) ms → AllByRecursion (IsGood schema (population ms)) (population ms)
  all_good ms order sound =
      let xs = population ms in
      all_flat (IsGood schema xs) placed_all ms
      (each_by (λ (m : Counted). IsSound schema m × AllByRecursion (FreeIn m) ms) (λ (m : Counted). AllByRecursion (IsGood schema xs) (placed_all m))
      (λ m both. good_of xs m both.0 (all_flat (FreeOf m) placed_all ms both.1)) ms
      (with_both (IsSound schema) (λ (m : Counted). AllByRecursion (FreeIn m) ms) ms sound (all_free ms order sound)))
