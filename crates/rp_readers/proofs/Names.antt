-- What a binary search finds among a model's instances.
use Rattle.std.proofs.Common.{◌≡◌, ℕ, Bool, ◌&&◌, ◌||◌, ◌==◌, true, false, is_some, arith, List, [], ◌∷◌, Option, Some, None, refl, ◌∙◌, ap, subst}
use Rattle.std.specs.Prelude.{map, if◌then◌else◌}
use Rattle.std.specs.List.{find, list_any, AllByRecursion}
use Rattle.std.specs.Ordering.{is_eq, nat_cmp}
use Rattle.std.proofs.lemmas.Bool.Decides.{nat_tests}
use Rattle.plain_data.specs.Numbers.{is_among}
use Rattle.sorted_tables.specs.Table.{is_at, IsAscending}
use Rattle.rp_content.specs.declared.instance.Instance.{Instance}
use Rattle.rp_rows.specs.Rows.{Text, is_row, key_cmp, row_key, Model, GroupRow}
use Rattle.rp_rows.specs.Contents.{instance_name, names}
use Rattle.rp_rows.specs.Instances.{instance_of}
use Rattle.rp_rows.specs.Sight.{counts, sees, sees_group}
use Rattle.rp_population.specs.Populations.{Counted}
use Rattle.rp_positions.specs.Positions.{AreInOrder, IsSearchable}
use Rattle.rp_plain.specs.Plain.{Plain, model_at, group_at}
use Rattle.rp_plain.specs.Readers.{asked, counted_in, held}
use Rattle.rp_plain.proofs.Counted.{all_counted, counted_ascending}
use Rattle.rp_readers.specs.Named.{IsNamed, HoldsNamed, AreNamed, TellsNamed}
use Rattle.rp_rows.specs.Listings.{IsListed}
use Rattle.rp_readers.specs.Listed.{HoldsListed, AreListed, TellsListed, TellsPopulations}

pub all_found : {X : Type 0} (P : X → Type 0) (q : X → Bool) (xs : List X) (x : X) → find q xs ≡ Some x → AllByRecursion P xs → P x
all_found P q [] x found all = cc
all_found P q (y ∷ ys) x found all = by (λ f. all_found P q ys x f all.1) (q y) found
  where
    by : (find q ys ≡ Some x → P x) → (t : Bool) → (if t then Some y else find q ys) ≡ Some x → P x
    by rest true f = let same : y ≡ x = cc in subst P same all.0
    by rest false f = rest f

pub told_named : (r : Plain) (c : Text) → AreNamed r → TellsNamed (asked r c)
told_named r c all k h = by (model_at r c k) refl
  where
    by : (o : Option Model) → model_at r c k ≡ o → held o ≡ Some h → IsNamed h
    by None seen e = cc
    by (Some m) seen e =
        let same : m.holds ≡ h = cc in
        subst IsNamed same (all_found HoldsNamed (λ m. is_row k m && sees r.groups c m) r.models m seen all)

pub told_listed : (r : Plain) (c : Text) → AreListed r → TellsListed (asked r c)
told_listed r c all k h = by (group_at r c k) refl
  where
    by : (o : Option GroupRow) → group_at r c k ≡ o → held o ≡ Some h → IsListed h
    by None seen e = cc
    by (Some g) seen e =
        let same : g.holds ≡ h = cc in
        subst IsListed same (all_found HoldsListed (λ g. is_row k g && sees_group c g) r.groups g seen all)

searchable : (q : Model → Bool) (ms : List Model) → AllByRecursion HoldsNamed ms → AllByRecursion (λ (m : Model). q m ≡ true → IsSearchable m.holds.content) ms
searchable q [] all = tt
searchable q (m ∷ ms) all = ((λ passes. record { instances = all.0.order; links = all.0.links }), searchable q ms all.1)

pub told_populations : (r : Plain) (c : Text) → IsAscending key_cmp row_key r.models → AreNamed r → TellsPopulations (asked r c)
told_populations r c order all k = by (group_at r c k)
  where
    by : (o : Option GroupRow) → AreInOrder (counted_in r.models o)
    by None = record { models = tt; contents = tt }
    by (Some g) = record {
      models = counted_ascending (λ m. counts m g) r.models order;
      contents = all_counted (λ (x : Counted). IsSearchable x.content) (λ m. counts m g) r.models (searchable (λ m. counts m g) r.models all);
    }

pub same_test : (m k : ℕ) → is_eq (nat_cmp m k) ≡ (m == k)
same_test m k = grind (arith, nat_tests)

-- a name stands among those of a list exactly if something in it has it
module _ {X : Type 0} (named : X → ℕ) where
  pub among_named : (n : ℕ) (xs : List X) → is_some (find (is_at nat_cmp named n) xs) ≡ is_among (map named xs) n
  among_named n [] = refl
  among_named n (x ∷ xs) = by (among_named n xs) (is_at nat_cmp named n x) (named x == n) (same_test (named x) n)
    where
      by : is_some (find (is_at nat_cmp named n) xs) ≡ is_among (map named xs) n → (t u : Bool) → t ≡ u → is_some (if t then Some x else find (is_at nat_cmp named n) xs) ≡ (u || is_among (map named xs) n)
      by rest true true e = refl
      by rest true false e = cc
      by rest false true e = cc
      by rest false false e = rest

pub among_names : (n : ℕ) (xs : List Instance) → is_some (instance_of n xs) ≡ is_among (names xs) n
among_names = among_named instance_name

one_has : (n : ℕ) (xs : List Instance) → is_among (names xs) n ≡ list_any (λ (i : Instance). i.name == n) xs
one_has n [] = refl
one_has n (i ∷ is) = ap (λ t. (i.name == n) || t) (one_has n is)

pub has_named : (n : ℕ) (xs : List Instance) → is_some (instance_of n xs) ≡ list_any (λ (i : Instance). i.name == n) xs
has_named n xs = among_names n xs ∙ one_has n xs
