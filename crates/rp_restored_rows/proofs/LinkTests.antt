-- Links that lack nothing are such as a valid model has, and those lack nothing.
use Rattle.std.proofs.Common.{◌≡◌, ◌≤◌, ℕ, Bool, true, false, not, ◌==◌, ◌||◌, nat_le, List, [], ◌∷◌, length, Option, Some, None, is_some, Bor, refl, sym, ◌∙◌, ap, arith}
use Rattle.std.specs.Prelude.{if◌then◌else◌}
use Rattle.std.specs.List.{AllByRecursion, find, list_all}
use Rattle.std.specs.Option.{option_copied}
use Rattle.std.specs.Ordering.{is_eq, nat_cmp}
use Rattle.std.proofs.lemmas.Bool.{and_parts, not-true, not_from_false}
use Rattle.std.proofs.lemmas.Bool.Decides.{nat_tests}
use Rattle.std.proofs.lemmas.Cmp.{nat_cmp_total}
use Rattle.plain_data.specs.Numbers.{is_among}
use Rattle.sorted_tables.specs.Table.{IsAscending, is_at}
use Rattle.rp_content.specs.declared.content.Content.{Content}
use Rattle.rp_content.specs.declared.instance.Instance.{Instance}
use Rattle.rp_content.specs.declared.link.Link.{Link}
use Rattle.rp_rows.specs.declared.rows.Key.{Key}
use Rattle.rp_rows.specs.Contents.{instance_name, names, link_name}
use Rattle.rp_rows.specs.Instances.{max_name}
use Rattle.rp_rows.specs.Names.{is_name}
use Rattle.rp_rows.specs.Rows.{Text, same_key}
use Rattle.rp_plain.specs.Links.{max_links, target_model}
use Rattle.rp_plain.specs.Meaning.{has_text}
use Rattle.rp_plain.specs.Valid.{IsValidLink}
use Rattle.rp_laws.proofs.ByName.{AreWithin}
use Rattle.rp_restored_rows.specs.Models.{links_lack}
use Rattle.rp_restored_rows.proofs.Checks.{holds, passes, all_pass}
use Rattle.rp_restored_rows.proofs.Orders.{ascending, tested}
use Rattle.rp_restored_rows.proofs.Tested.{at_most, no_more, is_within, within_test}

-- ---- names of instances

same_number : (n m : ℕ) → is_eq (nat_cmp n m) ≡ (n == m)
same_number n m = grind (arith, nat_tests)

some_found : (is : List Instance) (n : ℕ) → is_some (find (is_at nat_cmp instance_name n) is) ≡ is_among (names is) n
some_found [] n = refl
some_found (i ∷ is) n = rw (same_number i.name n) (by (some_found is n) (i.name == n))
  where
    by : is_some (find (is_at nat_cmp instance_name n) is) ≡ is_among (names is) n → (t : Bool) → is_some (if t then Some i else find (is_at nat_cmp instance_name n) is) ≡ (t || is_among (names is) n)
    by rest true = refl
    by rest false = rest

turned : (t b : Bool) → not t ≡ b → t ≡ not b
turned true b e = ap not e
turned false b e = ap not e

some_copied : (r : Option (Bor Instance)) → is_some r ≡ is_some (option_copied r)
some_copied None = refl
some_copied (Some x) = refl

-- no instance is found at a name exactly if none has it
pub none_found : (is : List Instance) (n : ℕ) (r : Option (Bor Instance)) (t : Bool) → is_some r ≡ not t → option_copied r ≡ find (is_at nat_cmp instance_name n) is → t ≡ not (is_among (names is) n)
none_found is n r t told found = turned t (is_among (names is) n) (sym told ∙ some_copied r ∙ ap is_some found ∙ some_found is n)

-- ---- links

module _ (partners : List Text) (k : Key) (greatest : ℕ) (links : List Link) where
  -- what holds of them whatever the instances are
  pub record IsLinked : Type 0 where
    pub few : length links ≤ max_links
    pub order : IsAscending nat_cmp link_name links
    pub owners : list_all (λ (l : Link). has_text partners l.owner) links ≡ true
    pub models : list_all (λ (l : Link). is_name l.model) links ≡ true
    pub others : list_all (λ l. not (same_key k (target_model l))) links ≡ true
    pub targets : list_all (λ (l : Link). nat_le l.target max_name) links ≡ true
    pub within : list_all (λ (l : Link). nat_le l.name greatest) links ≡ true

  pub are_linked : links_lack partners k greatest links ≡ None → IsLinked
  are_linked none =
      let few = holds _ _ _ none in
      let order = holds _ _ _ few.1 in
      let owners = holds _ _ _ order.1 in
      let models = holds _ _ _ owners.1 in
      let others = holds _ _ _ models.1 in
      let targets = holds _ _ _ others.1 in
      let within = holds _ _ _ targets.1 in
      record {
        few = at_most max_links _ few.0;
        order = ascending nat_cmp link_name nat_cmp_total links order.0;
        owners = owners.0;
        models = models.0;
        others = others.0;
        targets = targets.0;
        within = within.0;
      }

each_linked : (partners : List Text) (k : Key) (x : Content) (links : List Link)
    → list_all (λ (l : Link). not (is_among (names x.instances) l.name)) links ≡ true → list_all (λ (l : Link). nat_le l.target max_name) links ≡ true
    → list_all (λ (l : Link). has_text partners l.owner) links ≡ true → list_all (λ (l : Link). is_name l.model) links ≡ true
    → list_all (λ l. not (same_key k (target_model l))) links ≡ true → AllByRecursion (IsValidLink partners k x) links
each_linked partners k x [] free targets owners models others = tt
each_linked partners k x (l ∷ ls) free targets owners models others =
    let f = and_parts (not (is_among (names x.instances) l.name)) _ free in
    let t = and_parts (nat_le l.target max_name) _ targets in
    let o = and_parts (has_text partners l.owner) _ owners in
    let m = and_parts (is_name l.model) _ models in
    let a = and_parts (not (same_key k (target_model l))) _ others in (
      record {
        free = not-true (is_among (names x.instances) l.name) f.0;
        target = is_within l.target max_name t.0;
        owner = o.0;
        model = m.0;
        other = not-true (same_key k (target_model l)) a.0;
      },
      each_linked partners k x ls f.1 t.1 o.1 m.1 a.1,
    )

-- where no instance has their names
pub links_valid : (partners : List Text) (k : Key) (greatest : ℕ) (links : List Link) (x : Content) → IsLinked partners k greatest links → list_all (λ (l : Link). not (is_among (names x.instances) l.name)) links ≡ true
    → AllByRecursion (IsValidLink partners k x) links
links_valid partners k greatest links x are free = each_linked partners k x links free are.targets are.owners are.models are.others

pub all_within_test : {X : Type 0} (name : X → ℕ) (most : ℕ) (xs : List X) → AreWithin name most xs → list_all (λ x. nat_le (name x) most) xs ≡ true
all_within_test name most xs all = all_pass (λ x. name x ≤ most) (λ x. nat_le (name x) most) (λ x is. within_test (name x) most is) xs all

pub are_within : {X : Type 0} (name : X → ℕ) (most : ℕ) (xs : List X) → list_all (λ x. nat_le (name x) most) xs ≡ true → AreWithin name most xs
are_within name most [] e = tt
are_within name most (x ∷ xs) e =
    let both = and_parts (nat_le (name x) most) (list_all (λ y. nat_le (name y) most) xs) e in
    (is_within (name x) most both.0, are_within name most xs both.1)

module _ (partners : List Text) (k : Key) (greatest : ℕ) (links : List Link) (x : Content) (each : AllByRecursion (IsValidLink partners k x) links) where
  abbrev IsThis : Link → Type 0
  IsThis = IsValidLink partners k x

  pub links_pass : length links ≤ max_links → IsAscending nat_cmp link_name links → AreWithin link_name greatest links → links_lack partners k greatest links ≡ None
  links_pass few order within =
      passes _ _ _ (no_more max_links _ few)
      (passes _ _ _ (tested nat_cmp link_name nat_cmp_total links order)
      (passes _ _ _ (all_pass IsThis (λ l. has_text partners l.owner) (λ l is. is.owner) links each)
      (passes _ _ _ (all_pass IsThis (λ l. is_name l.model) (λ l is. is.model) links each)
      (passes _ _ _ (all_pass IsThis (λ l. not (same_key k (target_model l))) (λ l is. not_from_false (same_key k (target_model l)) is.other) links each)
      (passes _ _ _ (all_pass IsThis (λ l. nat_le l.target max_name) (λ l is. within_test l.target max_name is.target) links each)
      (passes _ _ _ (all_within_test link_name greatest links within)
      refl))))))

  pub free_pass : list_all (λ (l : Link). not (is_among (names x.instances) l.name)) links ≡ true
  free_pass = all_pass IsThis (λ l. not (is_among (names x.instances) l.name)) (λ l is. not_from_false (is_among (names x.instances) l.name) is.free) links each
