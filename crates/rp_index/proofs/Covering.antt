-- What is entered of instances when one of them comes or goes.
use Rattle.std.proofs.Common.{◌≡◌, ◌≢◌, ℕ, Bool, true, false, List, [], ◌∷◌, ◌++◌, map, filter, refl, sym, ◌∙◌, ap, true≢false, subst, ⊎_elim, append-nil, append_assoc, Some}
use Rattle.std.proofs.lemmas.Bool.{and_parts, cases_Bool}
use Rattle.std.proofs.lemmas.Cmp.{nat_cmp_total, tied_itself}
use Rattle.std.proofs.lemmas.List.Concat.{flat_map-append}
use Rattle.std.specs.List.{find, flat_map, list_all}
use Rattle.std.specs.Ordering.{nat_cmp, is_lt, is_gt}
use Rattle.sorted_tables.specs.Table.{is_before, is_after}
use Rattle.rp_content.specs.declared.instance.Instance.{Instance}
use Rattle.rp_content.specs.declared.link.Link.{Link}
use Rattle.rp_rows.specs.Contents.{instance_name, references_of}
use Rattle.rp_rows.specs.Instances.{is_instance, placed, dropped}
use Rattle.rp_rows.proofs.Keys.{found_at}
use Rattle.rp_index.specs.declared.index.Index.{Index}
use Rattle.rp_index.specs.Pairs.{HasAll, Grows, KeepsOthers}
use Rattle.rp_index.specs.Index.{uses_of, written, kinds_of, is_under, has, IsInOrder, Covers}
use Rattle.rp_index.proofs.Tests.{same_number, grown, has_both, has_parts}

-- some numbers of an instance, each with its name
abbrev pairs_by : (Instance → List ℕ) → Instance → List (ℕ × ℕ)
pairs_by numbers i = map (λ n. (n, i.name)) (numbers i)

-- ---- what remains

one_kept : (n name : ℕ) (former later : ℕ × ℕ → Bool) → KeepsOthers n former later → name ≢ n → (ns : List ℕ)
    → HasAll former (map (λ m. (m, name)) ns) → HasAll later (map (λ m. (m, name)) ns)
one_kept n name former later kept other [] all = refl
one_kept n name former later kept other (m ∷ ns) all =
    let parts = and_parts (former (m, name)) (list_all former (map (λ k. (k, name)) ns)) all in
    rw (kept (m, name) other parts.0) (one_kept n name former later kept other ns parts.1)

rest_kept : (numbers : Instance → List ℕ) (n : ℕ) (former later : ℕ × ℕ → Bool) → KeepsOthers n former later
    → (t : Instance → Bool) → ((i : Instance) → t i ≡ true → i.name ≢ n) → (is : List Instance)
    → HasAll former (flat_map (pairs_by numbers) is) → HasAll later (flat_map (pairs_by numbers) (filter t is))
rest_kept numbers n former later kept t others [] all = refl
rest_kept numbers n former later kept t others (i ∷ is) all =
    let parts = has_parts former (pairs_by numbers i) (flat_map (pairs_by numbers) is) all in
    let rest = rest_kept numbers n former later kept t others is parts.1 in
    ⊎_elim
    (λ (yes : t i ≡ true). rw yes (has_both later (pairs_by numbers i) (flat_map (pairs_by numbers) (filter t is)) (one_kept n i.name former later kept (others i yes) (numbers i) parts.0) rest))
    (λ (out : t i ≡ false). rw out rest)
    (cases_Bool (t i))

not_before : (n : ℕ) (i : Instance) → is_before nat_cmp instance_name n i ≡ true → i.name ≢ n
not_before n i before = λ same.
    let itself : is_lt (nat_cmp n n) ≡ true = subst (λ (m : ℕ). is_lt (nat_cmp m n) ≡ true) same before in
    true≢false (sym itself ∙ ap is_lt (tied_itself nat_cmp_total n))

not_after : (n : ℕ) (i : Instance) → is_after nat_cmp instance_name n i ≡ true → i.name ≢ n
not_after n i after = λ same.
    let itself : is_gt (nat_cmp n n) ≡ true = subst (λ (m : ℕ). is_gt (nat_cmp m n) ≡ true) same after in
    true≢false (sym itself ∙ ap is_gt (tied_itself nat_cmp_total n))

abbrev before : ℕ → List Instance → List Instance
before n is = filter (is_before nat_cmp instance_name n) is

abbrev after : ℕ → List Instance → List Instance
after n is = filter (is_after nat_cmp instance_name n) is

dropped_is : (n : ℕ) (is : List Instance) → dropped n is ≡ before n is ++ after n is
dropped_is n is = ap (λ l. l ++ after n is) (append-nil (before n is))

placed_is : (i : Instance) (is : List Instance) → placed i is ≡ before i.name is ++ (i ∷ after i.name is)
placed_is i is = append_assoc (before i.name is) (i ∷ []) (after i.name is)

dropped_kept : (numbers : Instance → List ℕ) (n : ℕ) (former later : ℕ × ℕ → Bool) → KeepsOthers n former later → (is : List Instance)
    → HasAll former (flat_map (pairs_by numbers) is) → HasAll later (flat_map (pairs_by numbers) (dropped n is))
dropped_kept numbers n former later kept is all =
    let first = rest_kept numbers n former later kept (is_before nat_cmp instance_name n) (not_before n) is all in
    let last = rest_kept numbers n former later kept (is_after nat_cmp instance_name n) (not_after n) is all in
    ap (λ l. list_all later (flat_map (pairs_by numbers) l)) (dropped_is n is)
    ∙ ap (list_all later) (flat_map-append (pairs_by numbers) (before n is) (after n is))
    ∙ has_both later (flat_map (pairs_by numbers) (before n is)) (flat_map (pairs_by numbers) (after n is)) first last

-- ---- one more

placed_has : (numbers : Instance → List ℕ) (has : ℕ × ℕ → Bool) (i : Instance) (is : List Instance)
    → HasAll has (flat_map (pairs_by numbers) (dropped i.name is)) → HasAll has (pairs_by numbers i) → HasAll has (flat_map (pairs_by numbers) (placed i is))
placed_has numbers has i is rest own =
    let first = flat_map (pairs_by numbers) (before i.name is) in
    let last = flat_map (pairs_by numbers) (after i.name is) in
    let apart : flat_map (pairs_by numbers) (dropped i.name is) ≡ first ++ last =
    ap (flat_map (pairs_by numbers)) (dropped_is i.name is) ∙ flat_map-append (pairs_by numbers) (before i.name is) (after i.name is) in
    let parts = has_parts has first last (sym (ap (list_all has) apart) ∙ rest) in
    ap (λ l. list_all has (flat_map (pairs_by numbers) l)) (placed_is i is)
    ∙ ap (list_all has) (flat_map-append (pairs_by numbers) (before i.name is) (i ∷ after i.name is))
    ∙ has_both has first (pairs_by numbers i ++ last) parts.0 (has_both has (pairs_by numbers i) last own parts.1)

-- ---- indexes

-- the pairs of all others are kept
pub left : (n : ℕ) (x y : Index) → KeepsOthers n (has x.uses) (has y.uses) → (IsInOrder x.uses → IsInOrder y.uses) → KeepsOthers n (is_under x.kinds.items) (is_under y.kinds.items) → y.leads ≡ x.leads
    → (is : List Instance) (links : List Link) → Covers x is links → Covers y (dropped n is) links
left n x y uses order kinds same is links covers = record {
  uses = dropped_kept references_of n (has x.uses) (has y.uses) uses is covers.uses;
  uses_order = order covers.uses_order;
  kinds = dropped_kept (λ i. written i.entities) n (is_under x.kinds.items) (is_under y.kinds.items) kinds is covers.kinds;
  leads = rw same covers.leads;
  leads_order = rw same covers.leads_order;
}

pub entered : (i : Instance) (x y : Index) → Grows (has x.uses) (has y.uses) → HasAll (has y.uses) (uses_of i) → (IsInOrder x.uses → IsInOrder y.uses)
    → Grows (is_under x.kinds.items) (is_under y.kinds.items) → HasAll (is_under y.kinds.items) (kinds_of i) → y.leads ≡ x.leads
    → (is : List Instance) (links : List Link) → Covers x (dropped i.name is) links → Covers y (placed i is) links
entered i x y uses used order kinds kind same is links covers = record {
  uses = placed_has references_of (has y.uses) i is (grown (has x.uses) (has y.uses) (flat_map uses_of (dropped i.name is)) uses covers.uses) used;
  uses_order = order covers.uses_order;
  kinds = placed_has (λ j. written j.entities) (is_under y.kinds.items) i is (grown (is_under x.kinds.items) (is_under y.kinds.items) (flat_map kinds_of (dropped i.name is)) kinds covers.kinds) kind;
  leads = rw same covers.leads;
  leads_order = rw same covers.leads_order;
}

-- nothing changes
pub still : (n : ℕ) (x : Index) (is : List Instance) (links : List Link) → Covers x is links → Covers x (dropped n is) links
still n x = left n x x (λ q other e. e) (λ order. order) (λ q other e. e) refl

-- what is found under a name has it
pub named : (n : ℕ) (is : List Instance) (i : Instance) → find (is_instance n) is ≡ Some i → i.name ≡ n
named n is i e = same_number i.name n (found_at (is_instance n) is i e)
