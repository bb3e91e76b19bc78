-- Turns of others that a partner doesn't notice.
use Rattle.std.proofs.Common.{◌≡◌, Bool, true, false, ◌&&◌, ◌||◌, List, [], ◌∷◌, ◌++◌, Option, Some, None, is_some, refl, sym, ◌∙◌, ap, subst, arith}
use Rattle.std.specs.Prelude.{filter, if◌then◌else◌, option_to_list}
use Rattle.std.specs.List.{find, list_any, AllByRecursion}
use Rattle.std.specs.Option.{option_map}
use Rattle.std.specs.Str.{bytes_eq}
use Rattle.std.proofs.lemmas.Bool.{or_parts}
use Rattle.sorted_tables.specs.Table.{IsAscending, is_before, is_after}
use Rattle.sorted_tables.proofs.Tables.{list_any-append, list_any-filter}
use Rattle.sorted_tables.proofs.Ascending.{hidden_rows}
use Rattle.sorted_tables.proofs.Altered.{seen_there}
use Rattle.rp_rows.specs.declared.rows.Level.{Level}
use Rattle.rp_rows.specs.declared.rows.Level.TheVariants.{Read, Group, Write}
use Rattle.rp_rows.specs.declared.rows.Right.TheVariants.{Reads, Owns}
use Rattle.rp_rows.specs.declared.rows.Grant.{Grant}
use Rattle.rp_rows.specs.declared.rows.Listing.{Listing}
use Rattle.rp_rows.specs.declared.rows.ModelContent.{ModelContent}
use Rattle.rp_plain.specs.declared.messages.Request.{Request}
use Rattle.rp_rows.specs.declared.rows.Key.{Key}
use Rattle.rp_rows.specs.Rows.{Text, text_cmp, key_cmp, grant_key, Row, row_key, is_row, Model, GroupRow}
use Rattle.rp_rows.specs.Sight.{at_least, right_of, owns, is_grant_to, is_granted, granted_right, is_counted, lists, sees_group, sees, shown, shown_group, seen_models, seen_groups, is_listed}
use Rattle.rp_rows.specs.Alterations.{Alteration, Holds, Grants, alter, altered, granting, grant_for, grants_of, gives_to}
use Rattle.rp_plain.specs.Plain.{Plain, Kind, OfModel, OfGroup, part, model_at, group_at, reaches}
use Rattle.rp_plain.specs.Edits.{Edit, EditModel, EditGroup, edited_by, changed, is_grant_for, name_of, names_of, Avoids}
use Rattle.rp_plain.specs.Readers.{asked}
use Rattle.rp_plain.specs.Step.{answer, next}
use Rattle.rp_plain.specs.Valid.{IsOrdered}
use Rattle.rp_rows.proofs.Keys.{key_total, key_at, found_at}
use Rattle.rp_laws.proofs.Sight.{alike_same, seen_alike, any_seen_group, no_find}
use Rattle.rp_laws.proofs.Reading.{model_at-part, group_at-part}
use Rattle.rp_laws.proofs.Keeping.{edited_ordered}

-- ---- what c does not own, is not granted and finds in no seen group, he does not see

-- no alteration but a grant to c gives him a grant
new_grants : {A : Type 0} (c : Text) (k : Key) (a : Alteration A) (o : Option (Row A)) → gives_to c a ≡ false → list_any (is_grant_to c) (grants_of o) ≡ false → list_any (is_grant_to c) (grants_of (alter k a o)) ≡ false
new_grants c k (Holds None) o not_to none = refl
new_grants c k (Holds (Some h)) o not_to none = none
new_grants c k (Grants to l) None not_to none = none
new_grants {A = A} c k (Grants to l) (Some x) not_to none =
    list_any-append (is_grant_to c) (filter (is_before text_cmp grant_key to) x.grants ++ option_to_list (grant_for to l)) (filter (is_after text_cmp grant_key to) x.grants)
    (list_any-append (is_grant_to c) (filter (is_before text_cmp grant_key to) x.grants) (option_to_list (grant_for to l)) (list_any-filter (is_grant_to c) (is_before text_cmp grant_key to) x.grants none) (by l not_to))
    (list_any-filter (is_grant_to c) (is_after text_cmp grant_key to) x.grants none)
  where
    by : (l : Option Level) → gives_to {A = A} c (Grants to l) ≡ false → list_any (is_grant_to c) (option_to_list (grant_for to l)) ≡ false
    by None n = refl
    by (Some v) n = ap (λ t. t || false) n

-- a row that an alteration makes has the key
pub new_owner : {A : Type 0} (k : Key) (a : Alteration A) (o : Option (Row A)) (at : (x : Row A) → o ≡ Some x → is_row k x ≡ true) (y : Row A) → alter k a o ≡ Some y → row_key y ≡ k
new_owner k (Holds None) o at y e = cc
new_owner k (Holds (Some h)) o at y e = let same : record { owner = k.owner; name = k.name; holds = h; grants = grants_of o } ≡ y = cc in ap row_key (sym same)
new_owner k (Grants to l) None at y e = cc
new_owner k (Grants to l) (Some x) at y e = let same : granting to l x ≡ y = cc in ap row_key (sym same) ∙ key_at k x (at x refl)

pub unseen_row : {A : Type 0} (p : Row A → Bool) (o : Option (Row A)) (each : (y : Row A) → o ≡ Some y → p y ≡ false) → filter p (option_to_list o) ≡ []
unseen_row p None each = refl
unseen_row p (Some y) each = ap (λ t. if t then y ∷ [] else []) (each y refl)

no_grant_found : (c : Text) (xs : List Grant) → list_any (is_grant_to c) xs ≡ false → find (is_grant_to c) xs ≡ None
no_grant_found c [] h = refl
no_grant_found c (x ∷ xs) h = grind (arith, no_grant_found c xs)

unlisted : (gs : List GroupRow) (c : Text) (m : Model) → is_listed gs c (row_key m) ≡ false → is_counted gs c m ≡ false
unlisted [] c m h = refl
unlisted (g ∷ gs) c m h = grind (arith, unlisted gs c m)

unseen_model : (gs : List GroupRow) (c : Text) (m : Model) → owns c m ≡ false → is_granted c m ≡ false → is_listed gs c (row_key m) ≡ false → sees gs c m ≡ false
unseen_model gs c m other none away =
    rw other (λ i. at_least Reads (granted_right (no_grant_found c m.grants none i) (unlisted gs c m away i)))

-- what is not seen is not granted
seen_by_grant : (gs : List GroupRow) (c : Text) (m : Model) → sees gs c m ≡ false → is_granted c m ≡ false
seen_by_grant gs c m unseen = by (owns c m) (find (is_grant_to c) m.grants) refl unseen
  where
    no_level : (l : Level) → at_least Reads (right_of l) ≡ false → list_any (is_grant_to c) m.grants ≡ false
    no_level Read h = cc
    no_level Group h = cc
    no_level Write h = cc

    by : (t : Bool) (o : Option Grant) → find (is_grant_to c) m.grants ≡ o → at_least Reads (if t then Owns else granted_right o (is_counted gs c m)) ≡ false → list_any (is_grant_to c) m.grants ≡ false
    by true o e h = cc
    by false (Some x) e h = no_level x.level h
    by false None e h = no_find c m.grants e

-- ---- one edit

old_grants : (gs : List GroupRow) (c : Text) (k : Key) (ms : List Model) → IsAscending key_cmp row_key ms → is_some (find (λ m. is_row k m && sees gs c m) ms) ≡ false → list_any (is_grant_to c) (grants_of (find (is_row k) ms)) ≡ false
old_grants gs c k ms order none = by (find (is_row k) ms) (sym (seen_there key_cmp row_key key_total (sees gs c) k ms order) ∙ none)
  where
    by : (o : Option Model) → list_any (sees gs c) (option_to_list o) ≡ false → list_any (is_grant_to c) (grants_of o) ≡ false
    by None h = refl
    by (Some m) h = seen_by_grant gs c m (or_parts (sees gs c m) false h).0

old_group_grants : (c : Text) (k : Key) (gs : List GroupRow) → IsAscending key_cmp row_key gs → is_some (find (λ g. is_row k g && sees_group c g) gs) ≡ false → list_any (is_grant_to c) (grants_of (find (is_row k) gs)) ≡ false
old_group_grants c k gs order none = by (find (is_row k) gs) (sym (seen_there key_cmp row_key key_total (sees_group c) k gs order) ∙ none)
  where
    by : (o : Option GroupRow) → list_any (sees_group c) (option_to_list o) ≡ false → list_any (is_grant_to c) (grants_of o) ≡ false
    by None h = refl
    by (Some g) h = (or_parts (owns c g) (is_granted c g) (or_parts (sees_group c g) false h).0).1

-- an altered row is not c's own and has no grant to him
new_row : {A : Type 0} (c : Text) (k : Key) (a : Alteration A) (xs : List (Row A)) → bytes_eq k.owner c ≡ false → gives_to c a ≡ false → list_any (is_grant_to c) (grants_of (find (is_row k) xs)) ≡ false → (y : Row A) → alter k a (find (is_row k) xs) ≡ Some y → (row_key y ≡ k) × (owns c y ≡ false) × (is_granted c y ≡ false)
new_row c k a xs other not_to none y e =
    let there = new_owner k a (find (is_row k) xs) (λ x f. found_at (is_row k) xs x f) y e in
    (there, ap (λ (j : Key). bytes_eq j.owner c) there ∙ other, ap (λ o. list_any (is_grant_to c) (grants_of o)) (sym e) ∙ new_grants c k a (find (is_row k) xs) not_to none)

hidden_models : (gs : List GroupRow) (c : Text) (k : Key) (a : Alteration ModelContent) (ms : List Model) → IsAscending key_cmp row_key ms
    → bytes_eq k.owner c ≡ false → is_some (find (λ m. is_row k m && sees gs c m) ms) ≡ false → is_listed gs c k ≡ false → gives_to c a ≡ false → seen_models gs c (altered k a ms) ≡ seen_models gs c ms
hidden_models gs c k a ms order other none away not_to =
    hidden_rows key_cmp row_key key_total (sees gs c) (shown gs c) k (alter k a (find (is_row k) ms)) ms order none
    (unseen_row (sees gs c) (alter k a (find (is_row k) ms)) (λ y e.
    let row = new_row c k a ms other not_to (old_grants gs c k ms order none) y e in
    unseen_model gs c y row.1 row.2 (ap (is_listed gs c) row.0 ∙ away)))

hidden_groups : (c : Text) (k : Key) (a : Alteration Listing) (gs : List GroupRow) → IsAscending key_cmp row_key gs
    → bytes_eq k.owner c ≡ false → is_some (find (λ g. is_row k g && sees_group c g) gs) ≡ false → gives_to c a ≡ false → seen_groups c (altered k a gs) ≡ seen_groups c gs
hidden_groups c k a gs order other none not_to =
    hidden_rows key_cmp row_key key_total (sees_group c) (shown_group c) k (alter k a (find (is_row k) gs)) gs order none
    (unseen_row (sees_group c) (alter k a (find (is_row k) gs)) (λ y e.
    let row = new_row c k a gs other not_to (old_group_grants c k gs order none) y e in
    rw (row.1, row.2) refl))

pub hidden_edit : (e : Edit) (r : Plain) (c : Text) → IsOrdered r → reaches r c (name_of e).0 (name_of e).1 ≡ false → is_grant_for c e ≡ false → part (edited_by e r) c ≡ part r c
hidden_edit (EditModel k a) r c ordered away not_to =
    let first = or_parts (bytes_eq k.owner c) (is_some (model_at r c k) || is_listed r.groups c k) away in
    let second = or_parts (is_some (model_at r c k)) (is_listed r.groups c k) first.1 in
    ap (λ ms. record r { models = ms; groups = seen_groups c r.groups }) (hidden_models r.groups c k a r.models ordered.models first.0 second.0 second.1 not_to)
hidden_edit (EditGroup k a) r c ordered away not_to =
    let first = or_parts (bytes_eq k.owner c) (is_some (group_at r c k)) away in
    let groups = hidden_groups c k a r.groups ordered.groups first.0 first.1 not_to in
    let models = seen_alike c (altered k a r.groups) r.groups (alike_same c (altered k a r.groups) r.groups groups) r.models in
    λ i. record r { models = models i; groups = groups i }

-- ---- what a partner reaches is told by what he sees

is_some_map : {A B : Type 0} (f : A → B) (o : Option A) → is_some (option_map f o) ≡ is_some o
is_some_map f None = refl
is_some_map f (Some x) = refl

pub reaches-part : (r : Plain) (c : Text) (kind : Kind) (k : Key) → reaches (part r c) c kind k ≡ reaches r c kind k
reaches-part r c OfModel k =
    let seen = ap is_some (model_at-part r c k) ∙ is_some_map (shown r.groups c) (model_at r c k) in
    let listed = any_seen_group c (lists k) (λ g. refl) r.groups in
    λ i. bytes_eq k.owner c || (seen i || listed i)
reaches-part r c OfGroup k = ap (λ t. bytes_eq k.owner c || t) (ap is_some (group_at-part r c k) ∙ is_some_map (shown_group c) (group_at r c k))

pub reaches_alike : (r s : Plain) (c : Text) → part r c ≡ part s c → (kind : Kind) (k : Key) → reaches r c kind k ≡ reaches s c kind k
reaches_alike r s c same kind k = sym (reaches-part r c kind k) ∙ ap (λ p. reaches p c kind k) same ∙ reaches-part s c kind k

-- ---- all edits of a turn

pub hidden_edits : (es : List Edit) (r : Plain) (c : Text) → IsOrdered r → AllByRecursion (λ (n : Kind × Key). reaches r c n.0 n.1 ≡ false) (names_of es) → AllByRecursion (λ (e : Edit). is_grant_for c e ≡ false) es → part (changed es r) c ≡ part r c
hidden_edits [] r c ordered names grants = refl
hidden_edits (e ∷ es) r c ordered names grants =
    let one = hidden_edit e r c ordered names.0 grants.0 in
    let still : reaches r c ≡ reaches (edited_by e r) c = λ i kind k. reaches_alike r (edited_by e r) c (sym one) kind k i in
    hidden_edits es (edited_by e r) c (edited_ordered e r ordered) (subst (λ (f : Kind → Key → Bool). AllByRecursion (λ (n : Kind × Key). f n.0 n.1 ≡ false) (names_of es)) still names.1) grants.1 ∙ one

pub outside_turn_part : (r : Plain) (c d : Text) (q : Request) → IsOrdered r → Avoids r c (answer (asked r d) d q).edits → part (next r d q) c ≡ part r c
outside_turn_part r c d q ordered away = hidden_edits (answer (asked r d) d q).edits r c ordered away.names away.grants

pub outside_turn_reach : (r : Plain) (c d : Text) (q : Request) → IsOrdered r → Avoids r c (answer (asked r d) d q).edits → (kind : Kind) (k : Key) → reaches (next r d q) c kind k ≡ reaches r c kind k
outside_turn_reach r c d q ordered away kind k = reaches_alike (next r d q) r c (outside_turn_part r c d q ordered away) kind k
