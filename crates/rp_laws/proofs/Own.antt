-- What a partner sees after his own turn comes from what he sees.
use Rattle.std.proofs.Common.{◌≡◌, Bool, true, false, not, ◌&&◌, ◌||◌, inl, inr, List, [], ◌∷◌, map, Option, Some, None, is_some, refl, sym, ◌∙◌, ap, subst}
use Rattle.std.specs.Prelude.{filter, if◌then◌else◌, option_to_list, ◌⊎◌}
use Rattle.std.specs.List.{find, list_any}
use Rattle.std.specs.Str.{bytes_eq}
use Rattle.sorted_tables.specs.Table.{IsAscending}
use Rattle.sorted_tables.proofs.Altered.{same_rows, same_at, whole_at, seen_there, any-with_row}
use Rattle.rp_rows.specs.declared.rows.Grant.{Grant}
use Rattle.rp_rows.specs.declared.rows.Listing.{Listing}
use Rattle.rp_rows.specs.declared.rows.ModelContent.{ModelContent}
use Rattle.rp_rows.specs.declared.rows.Key.{Key}
use Rattle.rp_rows.specs.Rows.{Text, key_cmp, Row, row_key, is_row, Model, GroupRow}
use Rattle.rp_rows.specs.Sight.{owns, is_grant_to, sees_group, sees, is_shown, shown_grant, shown_grants, shown, shown_group, seen_models, seen_groups}
use Rattle.rp_rows.specs.Alterations.{Alteration, Holds, Grants, alter, altered, granting, grants_of}
use Rattle.rp_plain.specs.Plain.{Plain, part, model_at}
use Rattle.rp_plain.specs.Edits.{Edit, EditModel, EditGroup, edited_by, changed}
use Rattle.rp_plain.specs.Valid.{IsOrdered}
use Rattle.rp_rows.proofs.Keys.{key_total, owner_at, key_at, found_at}
use Rattle.rp_laws.proofs.Sight.{Alike, alike_same, seen_alike, shown-sees, shown_twice}
use Rattle.rp_laws.proofs.Reading.{own_sees, own_sees_group}
use Rattle.rp_laws.proofs.Keeping.{edited_ordered}

-- ---- edits that a partner may make: of what is his own; and of what another's model holds that he sees
abbrev pub MayAlter : {A : Type 0} → Alteration A → Type 0
MayAlter (Holds None) = ⊥
MayAlter (Holds (Some h)) = Unit {0}
MayAlter (Grants to l) = ⊥

abbrev pub MayEdit : Plain → Text → Edit → Type 0
MayEdit r c (EditModel k a) = (bytes_eq k.owner c ≡ true) ⊎ (MayAlter a × (is_some (model_at r c k) ≡ true))
MayEdit r c (EditGroup k a) = bytes_eq k.owner c ≡ true

abbrev pub MayAll : Plain → Text → List Edit → Type 0
MayAll r c [] = Unit {0}
MayAll r c (e ∷ es) = MayEdit r c e × MayAll (edited_by e r) c es

-- ---- one's own rows are seen whole

own_at : {A : Type 0} (c : Text) (k : Key) → bytes_eq k.owner c ≡ true → (x : Row A) → is_row k x ≡ true → owns c x ≡ true
own_at c k own x at = subst (λ o. bytes_eq o c ≡ true) (sym (owner_at k x at)) own

own_shown : (gs : List GroupRow) (c : Text) (m : Model) → owns c m ≡ true → shown gs c m ≡ m
own_shown gs c m own = ap (λ t. record m { grants = if t then m.grants else map (shown_grant c) (filter (is_shown gs c (row_key m)) m.grants) }) own

own_shown_group : (c : Text) (g : GroupRow) → owns c g ≡ true → shown_group c g ≡ g
own_shown_group c g own = ap (λ t. record g { grants = if t then g.grants else filter (is_grant_to c) g.grants }) own

-- ---- what is put into a seen model is seen alike

abbrev join : Key → ModelContent → List Grant → Model
join k h xs = record { owner = k.owner; name = k.name; holds = h; grants = xs }

abbrev kept_grants : List GroupRow → Text → Key → List Grant → List Grant
kept_grants gs c k xs = if bytes_eq k.owner c then xs else map (shown_grant c) (filter (is_shown gs c k) xs)

abbrev view : List GroupRow → Text → Option Model → List Model
view gs c o = map (shown gs c) (filter (sees gs c) (option_to_list o))

view_shown : (gs : List GroupRow) (c : Text) (m : Model) → view gs c (Some m) ≡ view gs c (Some (shown gs c m))
view_shown gs c m = by (sees gs c m) refl
  where
    by : (t : Bool) → sees gs c m ≡ t → view gs c (Some m) ≡ view gs c (Some (shown gs c m))
    by true e = rw (e, shown-sees gs c m ∙ e) (ap (λ x. x ∷ []) (sym (shown_twice gs c m)))
    by false e = rw (e, shown-sees gs c m ∙ e) refl

view_join : (gs : List GroupRow) (c : Text) (k : Key) (h : ModelContent) (m : Model) → is_row k m ≡ true → view gs c (Some (join k h m.grants)) ≡ view gs c (Some (join k h (shown_grants gs c m)))
view_join gs c k h m at = view_shown gs c (join k h m.grants) ∙ ap (λ j. view gs c (Some (join k h (kept_grants gs c j m.grants)))) (sym (key_at k m at))

filled_alike : (gs : List GroupRow) (c : Text) (k : Key) (h : ModelContent) (o u : Option Model) → ((m : Model) → o ≡ Some m → is_row k m ≡ true) → ((m : Model) → u ≡ Some m → is_row k m ≡ true)
    → list_any (sees gs c) (option_to_list o) ≡ true → view gs c o ≡ view gs c u → view gs c (alter k (Holds (Some h)) o) ≡ view gs c (alter k (Holds (Some h)) u)
filled_alike gs c k h None u at at' seen same = cc
filled_alike gs c k h (Some m) None at at' seen same = by (sees gs c m) refl seen same
  where
    by : (t : Bool) → sees gs c m ≡ t → (t || false) ≡ true → map (shown gs c) (if t then m ∷ [] else []) ≡ [] → view gs c (alter k (Holds (Some h)) (Some m)) ≡ view gs c (alter k (Holds (Some h)) None)
    by true e s v = cc
    by false e s v = cc
filled_alike gs c k h (Some m) (Some n) at at' seen same = by (sees gs c m) seen (sees gs c n) same
  where
    by : (t : Bool) → (t || false) ≡ true → (u : Bool) → map (shown gs c) (if t then m ∷ [] else []) ≡ map (shown gs c) (if u then n ∷ [] else []) → view gs c (alter k (Holds (Some h)) (Some m)) ≡ view gs c (alter k (Holds (Some h)) (Some n))
    by false s u v = cc
    by true s false v = cc
    by true s true v =
        let alike : shown gs c m ≡ shown gs c n = cc in
        view_join gs c k h m (at m refl) ∙ ap (λ (x : Model). view gs c (Some (join k h x.grants))) alike ∙ sym (view_join gs c k h n (at' n refl))

-- ---- one edit

same_models : (gs : List GroupRow) (c : Text) (k : Key) (a : Alteration ModelContent) (ms ns : List Model) → IsAscending key_cmp row_key ms → IsAscending key_cmp row_key ns → seen_models gs c ms ≡ seen_models gs c ns
    → (bytes_eq k.owner c ≡ true) ⊎ (MayAlter a × (is_some (find (λ m. is_row k m && sees gs c m) ms) ≡ true)) → seen_models gs c (altered k a ms) ≡ seen_models gs c (altered k a ns)
same_models gs c k a ms ns order order' same may =
    same_rows key_cmp row_key (sees gs c) (shown gs c) (λ m. refl) k (alter k a (find (is_row k) ms)) (alter k a (find (is_row k) ns)) ms ns same (elim may [ inl own ↦ of_own own | inr more ↦ of_seen a more.0 more.1 ])
  where
    of_own : bytes_eq k.owner c ≡ true → view gs c (alter k a (find (is_row k) ms)) ≡ view gs c (alter k a (find (is_row k) ns))
    of_own own =
        ap (λ o. view gs c (alter k a o))
        (whole_at key_cmp row_key key_total (sees gs c) (shown gs c) (λ m. refl) k
        (λ m at. (own_sees gs c m (own_at c k own m at), own_shown gs c m (own_at c k own m at))) ms ns order order' same)

    of_seen : (b : Alteration ModelContent) → MayAlter b → is_some (find (λ m. is_row k m && sees gs c m) ms) ≡ true → view gs c (alter k b (find (is_row k) ms)) ≡ view gs c (alter k b (find (is_row k) ns))
    of_seen (Holds None) m s = absurd m
    of_seen (Grants to l) m s = absurd m
    of_seen (Holds (Some h)) m s =
        filled_alike gs c k h (find (is_row k) ms) (find (is_row k) ns) (λ x e. found_at (is_row k) ms x e) (λ x e. found_at (is_row k) ns x e)
        (sym (seen_there key_cmp row_key key_total (sees gs c) k ms order) ∙ s)
        (same_at key_cmp row_key key_total (sees gs c) (shown gs c) (λ m. refl) k ms ns order order' same)

same_groups : (c : Text) (k : Key) (a : Alteration Listing) (gs hs : List GroupRow) → IsAscending key_cmp row_key gs → IsAscending key_cmp row_key hs → seen_groups c gs ≡ seen_groups c hs → bytes_eq k.owner c ≡ true → seen_groups c (altered k a gs) ≡ seen_groups c (altered k a hs)
same_groups c k a gs hs order order' same own =
    same_rows key_cmp row_key (sees_group c) (shown_group c) (λ g. refl) k (alter k a (find (is_row k) gs)) (alter k a (find (is_row k) hs)) gs hs same
    (ap (λ o. map (shown_group c) (filter (sees_group c) (option_to_list (alter k a o))))
    (whole_at key_cmp row_key key_total (sees_group c) (shown_group c) (λ g. refl) k
    (λ g at. (own_sees_group c g (own_at c k own g at), own_shown_group c g (own_at c k own g at))) gs hs order order' same))

-- one's own groups change nothing of what is seen of models
alike_own : (c : Text) (k : Key) (a : Alteration Listing) (gs : List GroupRow) → bytes_eq k.owner c ≡ true → Alike c (altered k a gs) gs
alike_own c k a gs own q same =
    any-with_row key_cmp row_key key_total (λ g. sees_group c g && (not (owns c g) && q g)) k (λ g at. fails g (own_at c k own g at)) (alter k a (find (is_row k) gs)) gs (new_fails a (find (is_row k) gs) (λ g e. own_at c k own g (found_at (is_row k) gs g e)))
  where
    and_false : (t : Bool) → (t && false) ≡ false
    and_false true = refl
    and_false false = refl

    fails : (g : GroupRow) → owns c g ≡ true → (sees_group c g && (not (owns c g) && q g)) ≡ false
    fails g e = ap (λ t. sees_group c g && (not t && q g)) e ∙ and_false (sees_group c g)

    new_fails : (b : Alteration Listing) (o : Option GroupRow) → ((g : GroupRow) → o ≡ Some g → owns c g ≡ true) → list_any (λ g. sees_group c g && (not (owns c g) && q g)) (option_to_list (alter k b o)) ≡ false
    new_fails (Holds None) o own_row = refl
    new_fails (Holds (Some h)) o own_row = ap (λ t. t || false) (fails (record { owner = k.owner; name = k.name; holds = h; grants = grants_of o }) own)
    new_fails (Grants to l) None own_row = refl
    new_fails (Grants to l) (Some g) own_row = ap (λ t. t || false) (fails (granting to l g) (own_row g refl))

pub own_edit : (e : Edit) (r s : Plain) (c : Text) → IsOrdered r → IsOrdered s → part r c ≡ part s c → MayEdit r c e → part (edited_by e r) c ≡ part (edited_by e s) c
own_edit (EditModel k a) r s c ordered ordered' same may =
    let schemas = ap (λ p. p.schemas) same in
    let partners = ap (λ p. p.partners) same in
    let groups : seen_groups c r.groups ≡ seen_groups c s.groups = ap (λ p. p.groups) same in
    let sight = seen_alike c r.groups s.groups (alike_same c r.groups s.groups groups) in
    let there : seen_models r.groups c r.models ≡ seen_models s.groups c s.models = ap (λ p. p.models) same in
    let models = same_models r.groups c k a r.models s.models ordered.models ordered'.models (there ∙ sym (sight s.models)) may ∙ sight (altered k a s.models) in
    λ i. record { schemas = schemas i; partners = partners i; models = models i; groups = groups i }
own_edit (EditGroup k a) r s c ordered ordered' same own =
    let schemas = ap (λ p. p.schemas) same in
    let partners = ap (λ p. p.partners) same in
    let groups = same_groups c k a r.groups s.groups ordered.groups ordered'.groups (ap (λ p. p.groups) same) own in
    let there : seen_models r.groups c r.models ≡ seen_models s.groups c s.models = ap (λ p. p.models) same in
    let models =
    seen_alike c (altered k a r.groups) r.groups (alike_own c k a r.groups own) r.models
    ∙ there
    ∙ sym (seen_alike c (altered k a s.groups) s.groups (alike_own c k a s.groups own) s.models) in
    λ i. record { schemas = schemas i; partners = partners i; models = models i; groups = groups i }

pub own_edits : (es : List Edit) (r s : Plain) (c : Text) → IsOrdered r → IsOrdered s → part r c ≡ part s c → MayAll r c es → part (changed es r) c ≡ part (changed es s) c
own_edits [] r s c ordered ordered' same may = same
own_edits (e ∷ es) r s c ordered ordered' same may =
    own_edits es (edited_by e r) (edited_by e s) c (edited_ordered e r ordered) (edited_ordered e s ordered') (own_edit e r s c ordered ordered' same may.0) may.1
