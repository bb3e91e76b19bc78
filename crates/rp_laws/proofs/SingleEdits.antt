-- What a model holds stays valid where one of its instances is put, replaced or dropped.
use Rattle.std.proofs.Common.{◌≡◌, ◌≤◌, ◌<◌, ℕ, Bool, true, false, not, ◌&&◌, ◌||◌, ◌==◌, List, [], ◌∷◌, ◌++◌, length, Option, Some, None, refl, sym, ◌∙◌, ap, subst, arith, le_trans}
use Rattle.std.specs.Prelude.{filter, max, option_to_list, if◌then◌else◌}
use Rattle.std.specs.List.{list_all, list_any, AllByRecursion}
use Rattle.std.specs.Ordering.{nat_cmp}
use Rattle.std.proofs.lemmas.Bool.{or_left, or_right}
use Rattle.std.proofs.lemmas.Bool.Decides.{nat_tests}
use Rattle.std.proofs.lemmas.Cmp.{nat_cmp_total}
use Rattle.std.proofs.lemmas.List.Folds.{list_any-append}
use Rattle.plain_data.specs.Numbers.{is_among}
use Rattle.ex_types.specs.Checked.{Checked}
use Rattle.rp_content.specs.declared.content.Content.{Content}
use Rattle.rp_content.specs.declared.instance.Instance.{Instance}
use Rattle.rp_content.specs.declared.link.Link.{Link}
use Rattle.sorted_tables.specs.Table.{is_at, is_before, is_after, with_row}
use Rattle.sorted_tables.proofs.Altered.{any-with_row}
use Rattle.sorted_tables.proofs.Ascending.{all-append, with_row_ascends, with_none_ascends}
use Rattle.sorted_tables.proofs.Tables.{list_any-append as none-append, list_any-filter}
use Rattle.rp_rows.specs.declared.rows.ModelContent.{ModelContent}
use Rattle.rp_rows.specs.declared.rows.Key.{Key}
use Rattle.rp_rows.specs.Rows.{Text}
use Rattle.rp_rows.specs.Contents.{instance_name, names, greatest_name, link_name, link_names, greatest_of, references_of}
use Rattle.rp_rows.specs.Instances.{max_instances, max_name, is_instance, instance_of, placed, dropped, refers_to, is_user, is_used, with_instance, without_instance}
use Rattle.p21_bind.specs.Origins.{IsSpelled}
use Rattle.rp_plain.specs.Valid.{IsSound, IsValidLink, IsValidContent}
use Rattle.rp_rows.proofs.Keys.{found_at}
use Rattle.rp_laws.proofs.ValidTables.{all_each, all_found, all-with_row}
use Rattle.rp_laws.proofs.Counts.{every, count_every, count-with_row, count-without, count-replaced}
use Rattle.rp_laws.proofs.ByName.{AreWithin, within, all_within}

-- ---- names

abbrev is_named : ℕ → Instance → Bool
is_named n i = i.name == n

any_named : (n : ℕ) (xs : List Instance) → is_among (names xs) n ≡ list_any (is_named n) xs
any_named n [] = refl
any_named n (x ∷ xs) = ap (λ t. (x.name == n) || t) (any_named n xs)

other_at : (k n : ℕ) → (k == n) ≡ false → (x : Instance) → is_at nat_cmp instance_name k x ≡ true → is_named n x ≡ false
other_at k n other x at = grind (arith, nat_tests)

-- another name than that of the row stands where it stood
other_name_stays : (k n : ℕ) → (k == n) ≡ false → (row : Option Instance) (xs : List Instance) → list_any (is_named n) (option_to_list row) ≡ false → is_among (names (with_row nat_cmp instance_name k row xs)) n ≡ is_among (names xs) n
other_name_stays k n other row xs fails =
    any_named n (with_row nat_cmp instance_name k row xs)
    ∙ any-with_row nat_cmp instance_name nat_cmp_total (is_named n) k (other_at k n other) row xs fails
    ∙ sym (any_named n xs)

is_there : (n : ℕ) (x : Instance) (xs ys : List Instance) → (x.name == n) ≡ true → is_among (names (xs ++ (x ∷ []) ++ ys)) n ≡ true
is_there n x [] ys same = or_left (x.name == n) (is_among (names ([] ++ ys)) n) same
is_there n x (z ∷ xs) ys same = or_right (z.name == n) (is_among (names (xs ++ (x ∷ []) ++ ys)) n) (is_there n x xs ys same)

-- a name that stood stands where an instance is put, whatever its name
name_stays : (i : Instance) (n : ℕ) (xs : List Instance) → is_among (names xs) n ≡ true → is_among (names (placed i xs)) n ≡ true
name_stays i n xs stood = by (i.name == n) refl
  where
    by : (t : Bool) → (i.name == n) ≡ t → is_among (names (placed i xs)) n ≡ true
    by true same = is_there n i (filter (is_before nat_cmp instance_name i.name) xs) (filter (is_after nat_cmp instance_name i.name) xs) same
    by false other = other_name_stays i.name n other (Some i) xs (ap (λ t. t || false) other) ∙ stood

-- a name that didn't stand doesn't where an instance is dropped
stays_free : (k n : ℕ) (xs : List Instance) → is_among (names xs) n ≡ false → is_among (names (dropped k xs)) n ≡ false
stays_free k n xs free =
    let before = filter (is_before nat_cmp instance_name k) xs in
    let after = filter (is_after nat_cmp instance_name k) xs in
    let none : list_any (is_named n) xs ≡ false = sym (any_named n xs) ∙ free in
    any_named n (dropped k xs)
    ∙ none-append (is_named n) (before ++ []) after (none-append (is_named n) before [] (list_any-filter (is_named n) (is_before nat_cmp instance_name k) xs none) refl) (list_any-filter (is_named n) (is_after nat_cmp instance_name k) xs none)

-- a name among several that stands among others
module _ (links : List ℕ) (xs ys : List Instance) (n : ℕ) (stays : is_among (names xs) n ≡ true → is_among (names ys) n ≡ true) where
  defined_stays : is_among (names xs ++ links) n ≡ true → is_among (names ys ++ links) n ≡ true
  defined_stays defined =
      list_any-append (λ m. m == n) (names ys) links
      ∙ by (is_among (names xs) n) (is_among links n) refl (sym (list_any-append (λ m. m == n) (names xs) links) ∙ defined)
    where
      by : (t u : Bool) → is_among (names xs) n ≡ t → (t || u) ≡ true → (is_among (names ys) n || u) ≡ true
      by true u e both = or_left (is_among (names ys) n) u (stays e)
      by false u e both = or_right (is_among (names ys) n) u both

-- ---- references

all_more : (p q : ℕ → Bool) → ((n : ℕ) → p n ≡ true → q n ≡ true) → (ns : List ℕ) → list_all p ns ≡ true → list_all q ns ≡ true
all_more p q more [] all = refl
all_more p q more (n ∷ ns) all = by (all_more p q more ns) (p n) refl all
  where
    by : (list_all p ns ≡ true → list_all q ns ≡ true) → (t : Bool) → p n ≡ t → (t && list_all p ns) ≡ true → (q n && list_all q ns) ≡ true
    by rest true e both = rw (more n e) (rest both)
    by rest false e both = cc

all_but : (k : ℕ) (p q : ℕ → Bool) → ((n : ℕ) → (k == n) ≡ false → p n ≡ true → q n ≡ true) → (ns : List ℕ) → list_any (λ m. m == k) ns ≡ false → list_all p ns ≡ true → list_all q ns ≡ true
all_but k p q more [] away all = refl
all_but k p q more (n ∷ ns) away all = by (all_but k p q more ns) (n == k) (p n) refl refl away all
  where
    turned : (n == k) ≡ false → (k == n) ≡ false
    turned e = grind (arith, nat_tests)

    by : (list_any (λ m. m == k) ns ≡ false → list_all p ns ≡ true → list_all q ns ≡ true) → (s t : Bool) → (n == k) ≡ s → p n ≡ t → (s || list_any (λ m. m == k) ns) ≡ false → (t && list_all p ns) ≡ true → (q n && list_all q ns) ≡ true
    by rest true t d e gone both = cc
    by rest false false d e gone both = cc
    by rest false true d e gone both = rw (more n (turned d) e) (rest gone both)

-- ---- instances that are put

abbrev with_placed : Instance → Content → Content
with_placed i x = record x { instances = placed i x.instances }

abbrev without : ℕ → Content → Content
without k x = record x { instances = dropped k x.instances }

placed_sound : (i : Instance) (x : Content) (j : Instance) → IsSound x j → IsSound (with_placed i x) j
placed_sound i x j sound =
    all_more (is_among (names x.instances ++ link_names x.links)) (is_among (names (placed i x.instances) ++ link_names x.links))
    (λ n. defined_stays (link_names x.links) x.instances (placed i x.instances) n (name_stays i n x.instances)) (references_of j) sound

is_same : (i : Instance) (P : Instance → Type 0) → P i → (x : Instance) → Some i ≡ Some x → P x
is_same i P here x e = let same : i ≡ x = cc in subst P same here

pub all_placed_sound : (i : Instance) (x : Content) → IsSound x i → AllByRecursion (IsSound x) x.instances → AllByRecursion (IsSound (with_placed i x)) (placed i x.instances)
all_placed_sound i x here all =
    let Sound : Instance → Type 0 = IsSound (with_placed i x) in
    all-with_row nat_cmp instance_name nat_cmp_total Sound i.name (Some i) x.instances (is_same i Sound (placed_sound i x i here)) (all_each (IsSound x) Sound (placed_sound i x) x.instances all)

-- ---- instances that are dropped

dropped_sound : (k : ℕ) (x : Content) (j : Instance) → (j.name == k) ≡ false → is_user k j ≡ false → IsSound x j → IsSound (without k x) j
dropped_sound k x j other unused sound =
    all_but k (is_among (names x.instances ++ link_names x.links)) (is_among (names (dropped k x.instances) ++ link_names x.links))
    (λ n apart. defined_stays (link_names x.links) x.instances (dropped k x.instances) n (λ stood. other_name_stays k n apart None x.instances refl ∙ stood))
    (references_of j) (sym (ap (λ t. not t && refers_to k j) other) ∙ unused) sound

left_sound : (k : ℕ) (x : Content) (keeps : Instance → Bool) → ((j : Instance) → keeps j ≡ true → (j.name == k) ≡ false) → (xs : List Instance) → is_used k xs ≡ false → AllByRecursion (IsSound x) xs
    → AllByRecursion (IsSound (without k x)) (filter keeps xs)
left_sound k x keeps other [] unused all = tt
left_sound k x keeps other (j ∷ xs) unused all = by (λ gone. left_sound k x keeps other xs gone all.1) (is_user k j) refl (keeps j) refl unused
  where
    by : (is_used k xs ≡ false → AllByRecursion (IsSound (without k x)) (filter keeps xs)) → (s : Bool) → is_user k j ≡ s → (t : Bool) → keeps j ≡ t → (s || is_used k xs) ≡ false → AllByRecursion (IsSound (without k x)) (if t then j ∷ filter keeps xs else filter keeps xs)
    by rest true e t f gone = cc
    by rest false e true f gone = (dropped_sound k x j (other j f) e all.0, rest gone)
    by rest false e false f gone = rest gone

before_other : (k : ℕ) (j : Instance) → is_before nat_cmp instance_name k j ≡ true → (j.name == k) ≡ false
before_other k j less = grind (arith, nat_tests)

after_other : (k : ℕ) (j : Instance) → is_after nat_cmp instance_name k j ≡ true → (j.name == k) ≡ false
after_other k j greater = grind (arith, nat_tests)

pub all_dropped_sound : (k : ℕ) (x : Content) → is_used k x.instances ≡ false → AllByRecursion (IsSound x) x.instances → AllByRecursion (IsSound (without k x)) (dropped k x.instances)
all_dropped_sound k x unused all =
    let Sound : Instance → Type 0 = IsSound (without k x) in
    let before = filter (is_before nat_cmp instance_name k) x.instances in
    all-append nat_cmp instance_name nat_cmp_total Sound (before ++ []) (filter (is_after nat_cmp instance_name k) x.instances)
    (all-append nat_cmp instance_name nat_cmp_total Sound before [] (left_sound k x (is_before nat_cmp instance_name k) (before_other k) x.instances unused all) tt)
    (left_sound k x (is_after nat_cmp instance_name k) (after_other k) x.instances unused all)

-- ---- how many there are

-- there is room for one more, or the instance takes the place of another
few_placed : (most : ℕ) (i : Instance) (xs : List Instance) → length xs ≤ most → (instance_of i.name xs ≡ None → length xs < most) → length (placed i xs) ≤ most
few_placed most i xs few room = by (instance_of i.name xs) refl
  where
    by : (o : Option Instance) → instance_of i.name xs ≡ o → length (placed i xs) ≤ most
    by None e =
        let more = count-with_row nat_cmp instance_name every i.name i xs in
        let one : length (filter every (i ∷ [])) ≡ 1 = count_every (i ∷ []) in
        let less = room e in
        omega (arith, more, one, less, count_every xs, count_every (placed i xs))
    by (Some x) e =
        let same = count-replaced nat_cmp instance_name every i.name i x xs e refl in
        omega (arith, same, few, count_every xs, count_every (placed i xs))

few_dropped : (most k : ℕ) (xs : List Instance) → length xs ≤ most → length (dropped k xs) ≤ most
few_dropped most k xs few =
    let less = count-without nat_cmp instance_name every k xs in
    omega (arith, few, less, count_every xs, count_every (dropped k xs))

-- ---- the greatest name

greatest_placed : (greatest : ℕ) (i : Instance) (xs : List Instance) → greatest_name 0 xs ≤ greatest → greatest_name 0 (placed i xs) ≤ max greatest i.name
greatest_placed greatest i xs low =
    let most = max greatest i.name in
    let more : greatest ≤ most = omega arith in
    let Below : Instance → Type 0 = λ (j : Instance). j.name ≤ most in
    within instance_name most 0 (placed i xs) (omega arith)
    (all-with_row nat_cmp instance_name nat_cmp_total Below i.name (Some i) xs (is_same i Below (omega arith)) (all_each (λ (j : Instance). j.name ≤ greatest) Below (λ j less. le_trans less more) xs (all_within instance_name greatest 0 xs low).1))

greatest_dropped : (greatest k : ℕ) (xs : List Instance) → greatest_name 0 xs ≤ greatest → greatest_name 0 (dropped k xs) ≤ greatest
greatest_dropped greatest k xs low =
    let Below : Instance → Type 0 = λ (j : Instance). j.name ≤ greatest in
    within instance_name greatest 0 (dropped k xs) (omega arith) (all-with_row nat_cmp instance_name nat_cmp_total Below k None xs (λ x e. cc) (all_within instance_name greatest 0 xs low).1)

-- the name of an instance is no greater
pub name_within : (greatest n : ℕ) (xs : List Instance) → greatest_name 0 xs ≤ greatest → (x : Instance) → instance_of n xs ≡ Some x → n ≤ greatest
name_within greatest n xs low x found =
    let here : x.name ≤ greatest = all_found (λ (j : Instance). j.name ≤ greatest) (is_instance n) xs x found (all_within instance_name greatest 0 xs low).1 in
    let at : is_instance n x ≡ true = found_at (is_instance n) xs x found in
    grind (arith, nat_tests)

-- those of instances and of links are no greater than the greatest
pub in_use_parts : (h : ModelContent) → greatest_of 0 h.content ≤ h.greatest → (greatest_name 0 h.content.instances ≤ h.greatest) × AreWithin link_name h.greatest h.content.links
in_use_parts h low = all_within link_name h.greatest (greatest_name 0 h.content.instances) h.content.links low

-- ---- links

-- an instance of another name is put beside the links
placed_links : (partners : List Text) (k : Key) (x : Content) (i : Instance) (ls : List Link) → AllByRecursion (λ (l : Link). (i.name == l.name) ≡ false) ls → AllByRecursion (IsValidLink partners k x) ls
    → AllByRecursion (IsValidLink partners k (with_placed i x)) ls
placed_links partners k x i [] apart all = tt
placed_links partners k x i (l ∷ ls) apart all =
    let old = all.0 in
    let free = other_name_stays i.name l.name apart.0 (Some i) x.instances (ap (λ t. t || false) apart.0) ∙ old.free in
    (record { free = free; target = old.target; owner = old.owner; model = old.model; other = old.other }, placed_links partners k x i ls apart.1 all.1)

left_link : (partners : List Text) (k : Key) (x : Content) (n : ℕ) (l : Link) → IsValidLink partners k x l → IsValidLink partners k (without n x) l
left_link partners k x n l old = record { free = stays_free n l.name x.instances old.free; target = old.target; owner = old.owner; model = old.model; other = old.other }

-- ---- contents

-- An instance of the model's schema, whose references are defined in the model, may be put into it under a name of no link: that of another, or where there is room.
pub placed_valid : (schemas : List Checked) (partners : List Text) (k : Key) (h : ModelContent) (i : Instance) (valid : IsValidContent schemas partners k h) → IsSpelled valid.schema i → IsSound h.content i → i.name ≤ max_name
    → AllByRecursion (λ (l : Link). (i.name == l.name) ≡ false) h.content.links → (instance_of i.name h.content.instances ≡ None → length h.content.instances < max_instances) → IsValidContent schemas partners k (with_instance i h)
placed_valid schemas partners k h i valid spelled sound named apart room =
    let xs = h.content.instances in
    let ls = h.content.links in
    let low = in_use_parts h valid.in_use in
    let most = max h.greatest i.name in
    let more : h.greatest ≤ most = omega arith in
    let of_schema : Instance → Type 0 = IsSpelled valid.schema in
    let greatest = valid.greatest in
    record {
      schema = valid.schema;
      loaded = valid.loaded;
      header = valid.header;
      instances = with_row_ascends nat_cmp instance_name nat_cmp_total i xs valid.instances;
      spelled = all-with_row nat_cmp instance_name nat_cmp_total of_schema i.name (Some i) xs (is_same i of_schema spelled) valid.spelled;
      sound = all_placed_sound i h.content sound valid.sound;
      few = few_placed max_instances i xs valid.few room;
      in_use = within link_name most (greatest_name 0 (placed i xs)) ls (greatest_placed h.greatest i xs low.0) (all_each (λ (l : Link). l.name ≤ h.greatest) (λ (l : Link). l.name ≤ most) (λ l less. le_trans less more) ls low.1);
      greatest = omega (arith, greatest, named);
      links = valid.links;
      linked = placed_links partners k h.content i ls apart valid.linked;
      few_links = valid.few_links;
    }

-- An instance that no other one refers to may be dropped.
pub dropped_valid : (schemas : List Checked) (partners : List Text) (k : Key) (h : ModelContent) (n : ℕ) → is_used n h.content.instances ≡ false → IsValidContent schemas partners k h → IsValidContent schemas partners k (without_instance n h)
dropped_valid schemas partners k h n unused valid =
    let xs = h.content.instances in
    let ls = h.content.links in
    let low = in_use_parts h valid.in_use in
    let of_schema : Instance → Type 0 = IsSpelled valid.schema in
    record {
      schema = valid.schema;
      loaded = valid.loaded;
      header = valid.header;
      instances = with_none_ascends nat_cmp instance_name nat_cmp_total n xs valid.instances;
      spelled = all-with_row nat_cmp instance_name nat_cmp_total of_schema n None xs (λ x e. cc) valid.spelled;
      sound = all_dropped_sound n h.content unused valid.sound;
      few = few_dropped max_instances n xs valid.few;
      in_use = within link_name h.greatest (greatest_name 0 (dropped n xs)) ls (greatest_dropped h.greatest n xs low.0) low.1;
      greatest = valid.greatest;
      links = valid.links;
      linked = all_each (IsValidLink partners k h.content) (IsValidLink partners k (without n h.content)) (left_link partners k h.content n) ls valid.linked;
      few_links = valid.few_links;
    }
