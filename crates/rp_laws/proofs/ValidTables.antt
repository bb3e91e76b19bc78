-- Valid rows stay valid under alterations, of models and of groups.
use Rattle.std.proofs.Common.{◌≡◌, ◌≤◌, ◌<◌, ◌+◌, ℕ, Bool, true, false, ◌&&◌, List, [], ◌∷◌, ◌++◌, length, Option, Some, None, refl, sym, ◌∙◌, ap, subst, arith}
use Rattle.std.specs.Prelude.{filter, option_to_list, if◌then◌else◌}
use Rattle.std.specs.List.{find, AllByRecursion}
use Rattle.std.specs.Str.{bytes_eq}
use Rattle.std.specs.Cmp.{IsTotalOrder}
use Rattle.std.specs.declared.cmp.Ordering.{Ordering}
use Rattle.std.proofs.lemmas.Cmp.{nat_list_cmp_total}
use Rattle.std.proofs.lemmas.Slice.Eq.{bytes_eq-Decides}
use Rattle.sorted_tables.specs.Table.{is_before, is_after, with_row, IsAscending}
use Rattle.sorted_tables.proofs.Ascending.{all-append, all-filter, with_row_ascends, with_none_ascends}
use Rattle.rp_rows.specs.declared.rows.Level.{Level}
use Rattle.rp_rows.specs.declared.rows.Grant.{Grant}
use Rattle.rp_rows.specs.Names.{is_name}
use Rattle.rp_rows.specs.declared.rows.Key.{Key}
use Rattle.rp_rows.specs.Rows.{Text, text_cmp, key_cmp, grant_key, Row, row_key, is_row}
use Rattle.rp_rows.specs.Sight.{owns}
use Rattle.rp_rows.specs.Alterations.{Alteration, Holds, Grants, grants_of, grant_for, granting, alter, altered}
use Rattle.rp_rows.proofs.Keys.{key_total, owner_at, found_at, altered_ascends}
use Rattle.rp_plain.specs.Meaning.{has_text}
use Rattle.rp_plain.specs.Valid.{IsValidGrant, IsValidRow}
use Rattle.rp_laws.proofs.Counts.{count-with_row, count-without, count-replaced}

-- ---- facts of all rows

pub all_each : {X : Type 0} (P Q : X → Type 0) (each : (x : X) → P x → Q x) (xs : List X) → AllByRecursion P xs → AllByRecursion Q xs
all_each P Q each [] all = tt
all_each P Q each (x ∷ xs) all = (each x all.0, all_each P Q each xs all.1)

pub all_found : {X : Type 0} (P : X → Type 0) (q : X → Bool) (xs : List X) (x : X) → find q xs ≡ Some x → AllByRecursion P xs → P x
all_found P q [] x found all = cc
all_found P q (y ∷ ys) x found all = by (λ f. all_found P q ys x f all.1) (q y) found
  where
    by : (find q ys ≡ Some x → P x) → (t : Bool) → (if t then Some y else find q ys) ≡ Some x → P x
    by rest true f = let same : y ≡ x = cc in subst P same all.0
    by rest false f = rest f

-- what is found among the rows that pass a test is there
pub found_there : {X : Type 0} (p q : X → Bool) (xs : List X) (x : X) → find (λ y. p y && q y) xs ≡ Some x → find p xs ≡ None → ⊥
found_there p q [] x found none = cc
found_there p q (y ∷ ys) x found none = by (found_there p q ys x) (p y) found none
  where
    by : (find (λ z. p z && q z) ys ≡ Some x → find p ys ≡ None → ⊥) → (t : Bool) → (if t && q y then Some y else find (λ z. p z && q z) ys) ≡ Some x → (if t then Some y else find p ys) ≡ None → ⊥
    by rest true f n = cc
    by rest false f n = rest f n

all_listed : {X : Type 0} (P : X → Type 0) (o : Option X) → ((x : X) → o ≡ Some x → P x) → AllByRecursion P (option_to_list o)
all_listed P None each = tt
all_listed P (Some x) each = (each x refl, tt)

text_total : IsTotalOrder text_cmp
text_total = nat_list_cmp_total

module _ {K X : Type 0} (cmp : K → K → Ordering) (key : X → K) (total : IsTotalOrder cmp) (P : X → Type 0) where
  pub all-with_row : (k : K) (row : Option X) (xs : List X) → ((x : X) → row ≡ Some x → P x) → AllByRecursion P xs → AllByRecursion P (with_row cmp key k row xs)
  all-with_row k row xs each all =
      let before = filter (is_before cmp key k) xs in
      all-append cmp key total P (before ++ option_to_list row) (filter (is_after cmp key k) xs)
      (all-append cmp key total P before (option_to_list row) (all-filter cmp key total P (is_before cmp key k) xs all) (all_listed P row each))
      (all-filter cmp key total P (is_after cmp key k) xs all)

-- ---- tables whose rows hold what is valid

-- V is what holds of what a row of a key holds, L of each of its grants, and no one owns more than most of them
module _ {A : Type 0} (partners : List Text) (V : Key → A → Type 0) (L : Grant → Type 0) (most : ℕ) where
  pub record IsGood (x : Row A) : Type 0 where
    pub row : IsValidRow partners x
    pub holds : V (row_key x) x.holds
    pub grants : AllByRecursion L x.grants

  pub record IsGoodTable (xs : List (Row A)) : Type 0 where
    pub order : IsAscending key_cmp row_key xs
    pub rows : AllByRecursion IsGood xs
    pub few : (owner : Text) → length (filter (owns owner) xs) ≤ most

  -- what may be put under a name, and is new there only if its owner has room
  pub record MayHold (xs : List (Row A)) (k : Key) (h : A) : Type 0 where
    pub owner : has_text partners k.owner ≡ true
    pub name : is_name k.name ≡ true
    pub valid : V k h
    pub room : find (is_row k) xs ≡ None → length (filter (owns k.owner) xs) < most

  pub record MayGrant (k : Key) (g : Grant) : Type 0 where
    pub valid : IsValidGrant partners k.owner g
    pub level : L g

  -- an alteration that keeps a table good
  abbrev pub IsFit : List (Row A) → Key → Alteration A → Type 0
  IsFit xs k (Holds None) = Unit {0}
  IsFit xs k (Holds (Some h)) = MayHold xs k h
  IsFit xs k (Grants to None) = Unit {0}
  IsFit xs k (Grants to (Some l)) = MayGrant k (record { partner = to; level = l })

  -- ---- the row that an alteration makes

  -- what may be the row at a key
  abbrev Old : Key → Option (Row A) → Type 0
  Old k o = (x : Row A) → o ≡ Some x → IsGood x × (is_row k x ≡ true)

  grants_order : (k : Key) (o : Option (Row A)) → Old k o → IsAscending text_cmp grant_key (grants_of o)
  grants_order k None old = tt
  grants_order k (Some x) old = (old x refl).0.row.grants

  grantees : (k : Key) (o : Option (Row A)) → Old k o → AllByRecursion (IsValidGrant partners k.owner) (grants_of o)
  grantees k None old = tt
  grantees k (Some x) old =
      let there = old x refl in
      subst (λ owner. AllByRecursion (IsValidGrant partners owner) x.grants) (owner_at k x there.1) there.0.row.grantees

  grant_levels : (k : Key) (o : Option (Row A)) → Old k o → AllByRecursion L (grants_of o)
  grant_levels k None old = tt
  grant_levels k (Some x) old = (old x refl).0.grants

  holding : (xs : List (Row A)) (k : Key) (h : A) (o : Option (Row A)) → Old k o → MayHold xs k h → IsGood (record { owner = k.owner; name = k.name; holds = h; grants = grants_of o })
  holding xs k h o old may = record {
    row = record { owner = may.owner; name = may.name; grants = grants_order k o old; grantees = grantees k o old };
    holds = may.valid;
    grants = grant_levels k o old;
  }

  -- another grant of a partner, or none
  granted_order : (to : Text) (l : Option Level) (gs : List Grant) → IsAscending text_cmp grant_key gs → IsAscending text_cmp grant_key (with_row text_cmp grant_key to (grant_for to l) gs)
  granted_order to None gs order = with_none_ascends text_cmp grant_key text_total to gs order
  granted_order to (Some l) gs order = with_row_ascends text_cmp grant_key text_total (record { partner = to; level = l }) gs order

  granting_good : (xs : List (Row A)) (k : Key) (to : Text) (l : Option Level) (x : Row A) → is_row k x ≡ true → IsGood x → IsFit xs k (Grants to l) → IsGood (granting to l x)
  granting_good xs k to l x at good fit = record {
    row = record {
      owner = good.row.owner;
      name = good.row.name;
      grants = granted_order to l x.grants good.row.grants;
      grantees = all-with_row text_cmp grant_key text_total (IsValidGrant partners x.owner) to (grant_for to l) x.grants (λ g e. valid l g fit e) good.row.grantees;
    };
    holds = good.holds;
    grants = all-with_row text_cmp grant_key text_total L to (grant_for to l) x.grants (λ g e. level l g fit e) good.grants;
  }
    where
      valid : (l : Option Level) (g : Grant) → IsFit xs k (Grants to l) → grant_for to l ≡ Some g → IsValidGrant partners x.owner g
      valid None g fit e = cc
      valid (Some v) g fit e =
          let same : record { partner = to; level = v } ≡ g = cc in
          subst (IsValidGrant partners x.owner) same (subst (λ owner. IsValidGrant partners owner (record { partner = to; level = v })) (sym (owner_at k x at)) fit.valid)

      level : (l : Option Level) (g : Grant) → IsFit xs k (Grants to l) → grant_for to l ≡ Some g → L g
      level None g fit e = cc
      level (Some v) g fit e = let same : record { partner = to; level = v } ≡ g = cc in subst L same fit.level

  new_good : (xs : List (Row A)) (k : Key) (a : Alteration A) (o : Option (Row A)) → Old k o → IsFit xs k a → (y : Row A) → alter k a o ≡ Some y → IsGood y
  new_good xs k (Holds None) o old fit y e = cc
  new_good xs k (Holds (Some h)) o old fit y e =
      let same : record { owner = k.owner; name = k.name; holds = h; grants = grants_of o } ≡ y = cc in
      subst IsGood same (holding xs k h o old fit)
  new_good xs k (Grants to l) None old fit y e = cc
  new_good xs k (Grants to l) (Some x) old fit y e =
      let same : granting to l x ≡ y = cc in
      let there = old x refl in
      subst IsGood same (granting_good xs k to l x there.1 there.0 fit)

  -- ---- how many rows an owner has

  one_more : (xs : List (Row A)) (k : Key) (row : Row A) (owner : Text) → row.owner ≡ k.owner → length (filter (owns k.owner) xs) < most → length (filter (owns owner) xs) ≤ most → length (filter (owns owner) (with_row key_cmp row_key k (Some row) xs)) ≤ most
  one_more xs k row owner own room few = by (bytes_eq row.owner owner) refl
    where
      more : length (filter (owns owner) (with_row key_cmp row_key k (Some row) xs)) ≤ length (filter (owns owner) (row ∷ [])) + length (filter (owns owner) xs)
      more = count-with_row key_cmp row_key (owns owner) k row xs

      by : (t : Bool) → bytes_eq row.owner owner ≡ t → length (filter (owns owner) (with_row key_cmp row_key k (Some row) xs)) ≤ most
      by true e =
          let who : k.owner ≡ owner = sym own ∙ (bytes_eq-Decides row.owner owner).0 e in
          let one : length (filter (owns owner) (row ∷ [])) ≡ 1 = rw e refl in
          let fewer : length (filter (owns owner) xs) < most = subst (λ o. length (filter (owns o) xs) < most) who room in
          let here = more in
          omega (arith, one, fewer, here)
      by false e =
          let none : length (filter (owns owner) (row ∷ [])) ≡ 0 = rw e refl in
          let here = more in
          omega (arith, none, here, few)

  same_owner : (xs : List (Row A)) (k : Key) (x row : Row A) (owner : Text) → find (is_row k) xs ≡ Some x → row.owner ≡ x.owner → length (filter (owns owner) xs) ≤ most → length (filter (owns owner) (with_row key_cmp row_key k (Some row) xs)) ≤ most
  same_owner xs k x row owner found same few =
      let less = count-replaced key_cmp row_key (owns owner) k row x xs found (ap (λ o. bytes_eq o owner) (sym same)) in
      omega (arith, less, few)

  no_more : (xs : List (Row A)) (k : Key) (owner : Text) → length (filter (owns owner) xs) ≤ most → length (filter (owns owner) (with_row key_cmp row_key k None xs)) ≤ most
  no_more xs k owner few = let less = count-without key_cmp row_key (owns owner) k xs in omega (arith, less, few)

  few_after : (xs : List (Row A)) (k : Key) (a : Alteration A) (o : Option (Row A)) → find (is_row k) xs ≡ o → IsFit xs k a → (owner : Text) → length (filter (owns owner) xs) ≤ most → length (filter (owns owner) (with_row key_cmp row_key k (alter k a o) xs)) ≤ most
  few_after xs k (Holds None) o e fit owner few = no_more xs k owner few
  few_after xs k (Holds (Some h)) None e fit owner few = one_more xs k (record { owner = k.owner; name = k.name; holds = h; grants = [] }) owner refl (fit.room e) few
  few_after xs k (Holds (Some h)) (Some x) e fit owner few =
      same_owner xs k x (record { owner = k.owner; name = k.name; holds = h; grants = x.grants }) owner e (sym (owner_at k x (found_at (is_row k) xs x e))) few
  few_after xs k (Grants to l) None e fit owner few = no_more xs k owner few
  few_after xs k (Grants to l) (Some x) e fit owner few = same_owner xs k x (granting to l x) owner e refl few

  pub altered_good : (xs : List (Row A)) (k : Key) (a : Alteration A) → IsGoodTable xs → IsFit xs k a → IsGoodTable (altered k a xs)
  altered_good xs k a good fit = record {
    order = altered_ascends k a xs good.order;
    rows = all-with_row key_cmp row_key key_total IsGood k (alter k a (find (is_row k) xs)) xs
        (new_good xs k a (find (is_row k) xs) (λ x e. (all_found IsGood (is_row k) xs x e good.rows, found_at (is_row k) xs x e)) fit) good.rows;
    few = λ owner. few_after xs k a (find (is_row k) xs) refl fit owner (good.few owner);
  }
