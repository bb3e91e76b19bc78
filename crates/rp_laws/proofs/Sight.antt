-- What a partner sees of models and groups is told by what he sees.
use Rattle.std.proofs.Common.{◌≡◌, Bool, true, false, not, ◌&&◌, ◌||◌, List, [], ◌∷◌, map, Option, Some, None, refl, sym, ◌∙◌, ap, subst, arith}
use Rattle.std.specs.Prelude.{filter, if◌then◌else◌}
use Rattle.std.specs.List.{find, list_any, AllByRecursion}
use Rattle.std.specs.Str.{bytes_eq}
use Rattle.std.proofs.lemmas.Slice.Eq.{bytes_eq-Decides}
use Rattle.std.proofs.lemmas.Bool.{and_parts, or_right}
use Rattle.rp_rows.specs.declared.rows.Level.{Level}
use Rattle.rp_rows.specs.declared.rows.Level.TheVariants.{Group}
use Rattle.rp_rows.specs.declared.rows.Right.TheVariants.{Unseen, Reads, Owns}
use Rattle.rp_rows.specs.declared.rows.Grant.{Grant}
use Rattle.rp_rows.specs.declared.rows.Key.{Key}
use Rattle.rp_rows.specs.Rows.{Text, row_key, Model, GroupRow}
use Rattle.rp_rows.specs.Sight.{at_least, owns, is_grant_to, is_granted, sees_group, group_right, lists, is_group_level, is_group_grant, may_group, counts, is_counted, granted_right, level, sees, is_shared_by, is_shown, shown_grant, shown, shown_group, seen_models, seen_groups}
use Rattle.rp_plain.specs.Plain.{Plain, part}

-- ---- lists

pub any_agree : {X : Type 0} (p q : X → Bool) (xs : List X) → AllByRecursion (λ x. p x ≡ q x) xs → list_any p xs ≡ list_any q xs
any_agree p q [] all = refl
any_agree p q (x ∷ xs) all = grind (arith, all.0, any_agree p q xs)

pub any_same : {X : Type 0} (p q : X → Bool) (same : (x : X) → p x ≡ q x) (xs : List X) → list_any p xs ≡ list_any q xs
any_same p q same xs = ap (λ h. list_any h xs) (λ i x. same x i)

any_of_filter : {X : Type 0} (p : X → Bool) (xs : List X) → list_any p (filter p xs) ≡ list_any p xs
any_of_filter p [] = refl
any_of_filter p (x ∷ xs) = grind (arith, any_of_filter p xs)

-- each row of a list passes what no row of it fails
abbrev pub IsIn : {X : Type 0} → List X → X → Type 0
IsIn {X} xs x = (q : X → Bool) → q x ≡ true → list_any q xs ≡ true

in_more : {X : Type 0} (y : X) (xs ys : List X) → AllByRecursion (IsIn ys) xs → AllByRecursion (IsIn (y ∷ ys)) xs
in_more y [] ys all = tt
in_more y (x ∷ xs) ys all = (λ q h. let rest = all.0 q h in grind arith, in_more y xs ys all.1)

pub all_in : {X : Type 0} (xs : List X) → AllByRecursion (IsIn xs) xs
all_in [] = tt
all_in (x ∷ xs) = (λ q h. grind arith, in_more x xs xs (all_in xs))

-- ---- groups as a partner sees them

pub shown_group-granted : (c : Text) (g : GroupRow) → (owns c g || is_granted c (shown_group c g)) ≡ (owns c g || is_granted c g)
shown_group-granted c g = by (owns c g) g.grants
  where
    by : (t : Bool) (xs : List Grant) → (t || list_any (is_grant_to c) (if t then xs else filter (is_grant_to c) xs)) ≡ (t || list_any (is_grant_to c) xs)
    by true xs = refl
    by false xs = any_of_filter (is_grant_to c) xs

pub shown_group-sees : (c : Text) (g : GroupRow) → sees_group c (shown_group c g) ≡ sees_group c g
shown_group-sees c g = shown_group-granted c g

pub shown_group-right : (c : Text) (g : GroupRow) → group_right c (shown_group c g) ≡ group_right c g
shown_group-right c g = by (owns c g) g.grants
  where
    by : (t : Bool) (xs : List Grant) → (if t then Owns else (if list_any (is_grant_to c) (if t then xs else filter (is_grant_to c) xs) then Reads else Unseen)) ≡ (if t then Owns else (if list_any (is_grant_to c) xs then Reads else Unseen))
    by true xs = refl
    by false xs = ap (λ b. if b then Reads else Unseen) (any_of_filter (is_grant_to c) xs)

filter_twice : {X : Type 0} (t : Bool) (p : X → Bool) (xs : List X) → (if t then (if t then xs else filter p xs) else filter p (if t then xs else filter p xs)) ≡ (if t then xs else filter p xs)
filter_twice true p xs = refl
filter_twice false p [] = refl
filter_twice false p (x ∷ xs) = grind (arith, filter_twice false p xs)

pub shown_group_twice : (c : Text) (g : GroupRow) → shown_group c (shown_group c g) ≡ shown_group c g
shown_group_twice c g = ap (λ xs. record g { grants = xs }) (filter_twice (owns c g) (is_grant_to c) g.grants)

-- a test of the groups that a partner sees, which does not ask who else sees them
pub any_seen_group : (c : Text) (q : GroupRow → Bool) (same : (g : GroupRow) → q (shown_group c g) ≡ q g) (gs : List GroupRow) → list_any (λ g. sees_group c g && q g) (seen_groups c gs) ≡ list_any (λ g. sees_group c g && q g) gs
any_seen_group c q same [] = refl
any_seen_group c q same (g ∷ gs) = grind (arith, same g, shown_group-sees c g, any_seen_group c q same gs)

-- ---- two lists of groups that are alike for what a partner sees of models: of the seen groups of others the same can be said
abbrev pub Alike : Text → List GroupRow → List GroupRow → Type 0
Alike c gs hs = (q : GroupRow → Bool) → ((g : GroupRow) → q (shown_group c g) ≡ q g) → list_any (λ g. sees_group c g && (not (owns c g) && q g)) gs ≡ list_any (λ g. sees_group c g && (not (owns c g) && q g)) hs

pub alike_seen : (c : Text) (gs : List GroupRow) → Alike c (seen_groups c gs) gs
alike_seen c gs q same = any_seen_group c (λ g. not (owns c g) && q g) (λ g. ap (λ t. not (owns c g) && t) (same g)) gs

pub alike_same : (c : Text) (gs hs : List GroupRow) → seen_groups c gs ≡ seen_groups c hs → Alike c gs hs
alike_same c gs hs e q same = sym (alike_seen c gs q same) ∙ ap (list_any (λ g. sees_group c g && (not (owns c g) && q g))) e ∙ alike_seen c hs q same

-- ---- one's own groups show nothing that one does not see without them

group_to_granted : (c : Text) (xs : List Grant) → list_any (is_grant_to c) xs ≡ false → list_any (is_group_grant c) xs ≡ false
group_to_granted c [] h = h
group_to_granted c (x ∷ xs) h = grind (arith, group_to_granted c xs)

own_counts : (c : Text) (m : Model) (g : GroupRow) → owns c m ≡ false → is_granted c m ≡ false → owns c g ≡ true → counts m g ≡ false
own_counts c m g other none own =
    let who : g.owner ≡ c = (bytes_eq-Decides g.owner c).0 own in
    let no : may_group c m ≡ false = rw (other, group_to_granted c m.grants none) refl in
    let none_here : may_group g.owner m ≡ false = subst (λ p. may_group p m ≡ false) (sym who) no in
    rw none_here (both (lists (row_key m) g) (bytes_eq m.holds.schema g.holds.schema))
  where
    both : (a b : Bool) → (a && (b && false)) ≡ false
    both true true = refl
    both true false = refl
    both false b = refl

counted_others : (c : Text) (m : Model) → owns c m ≡ false → is_granted c m ≡ false → (gs : List GroupRow) → is_counted gs c m ≡ list_any (λ g. sees_group c g && (not (owns c g) && counts m g)) gs
counted_others c m other none gs = any_same (λ g. sees_group c g && counts m g) (λ g. sees_group c g && (not (owns c g) && counts m g)) each gs
  where
    by : (s o k : Bool) → (o ≡ true → k ≡ false) → (s && k) ≡ (s && (not o && k))
    by s true k h = ap (λ t. s && t) (h refl)
    by s false k h = refl

    each : (g : GroupRow) → (sees_group c g && counts m g) ≡ (sees_group c g && (not (owns c g) && counts m g))
    each g = by (sees_group c g) (owns c g) (counts m g) (own_counts c m g other none)

pub no_find : (c : Text) (xs : List Grant) → find (is_grant_to c) xs ≡ None → list_any (is_grant_to c) xs ≡ false
no_find c [] h = refl
no_find c (x ∷ xs) h = grind (arith, no_find c xs)

-- what is seen of a model hangs on the groups only as they are seen, and not on one's own
pub level_alike : (c : Text) (gs hs : List GroupRow) → Alike c gs hs → (m : Model) → level gs c m ≡ level hs c m
level_alike c gs hs alike m = by (owns c m) refl (find (is_grant_to c) m.grants) refl
  where
    by : (t : Bool) → owns c m ≡ t → (o : Option Grant) → find (is_grant_to c) m.grants ≡ o → (if t then Owns else granted_right o (is_counted gs c m)) ≡ (if t then Owns else granted_right o (is_counted hs c m))
    by true own o e = refl
    by false other (Some x) e = refl
    by false other None e =
        let none = no_find c m.grants e in
        ap (granted_right None) (counted_others c m other none gs ∙ alike (counts m) (λ g. refl) ∙ sym (counted_others c m other none hs))

pub shown_alike : (c : Text) (gs hs : List GroupRow) → Alike c gs hs → (m : Model) → shown gs c m ≡ shown hs c m
shown_alike c gs hs alike m =
    ap (λ p. record m { grants = if owns c m then m.grants else map (shown_grant c) (filter p m.grants) })
    (λ i x. is_grant_to c x || (is_group_level x.level && alike (λ g. bytes_eq g.owner x.partner && lists (row_key m) g) (λ g. refl) i))

pub seen_alike : (c : Text) (gs hs : List GroupRow) → Alike c gs hs → (ms : List Model) → seen_models gs c ms ≡ seen_models hs c ms
seen_alike c gs hs alike ms = λ i. map (λ m. shown_alike c gs hs alike m i) (filter (λ m. at_least Reads (level_alike c gs hs alike m i)) ms)

-- ---- a model as a partner sees it

-- c's own grants are kept
pub grant_kept : (gs : List GroupRow) (c : Text) (k : Key) (xs : List Grant) → find (is_grant_to c) (map (shown_grant c) (filter (is_shown gs c k) xs)) ≡ find (is_grant_to c) xs
grant_kept gs c k [] = refl
grant_kept gs c k (x ∷ xs) = by (grant_kept gs c k xs) (is_grant_to c x) refl
  where
    hidden : find (is_grant_to c) (map (shown_grant c) (filter (is_shown gs c k) xs)) ≡ find (is_grant_to c) xs → is_grant_to c x ≡ false → (t : Bool) → find (is_grant_to c) (map (shown_grant c) (if t then x ∷ filter (is_shown gs c k) xs else filter (is_shown gs c k) xs)) ≡ find (is_grant_to c) xs
    hidden rest e true = rw e rest
    hidden rest e false = rest

    by : find (is_grant_to c) (map (shown_grant c) (filter (is_shown gs c k) xs)) ≡ find (is_grant_to c) xs → (t : Bool) → is_grant_to c x ≡ t → find (is_grant_to c) (map (shown_grant c) (filter (is_shown gs c k) (x ∷ xs))) ≡ find (is_grant_to c) (x ∷ xs)
    by rest true e = rw (e, e) refl
    by rest false e = rw e (hidden rest e (is_group_level x.level && is_shared_by gs c k x.partner))

-- the right of a partner who shares the model, and c's, are kept
group_grant_kept : (gs : List GroupRow) (c p : Text) (k : Key) (shares : (x : Grant) → is_grant_to p x ≡ true → (is_grant_to c x || is_shared_by gs c k x.partner) ≡ true) (xs : List Grant) → list_any (is_group_grant p) (map (shown_grant c) (filter (is_shown gs c k) xs)) ≡ list_any (is_group_grant p) xs
group_grant_kept gs c p k shares [] = refl
group_grant_kept gs c p k shares (x ∷ xs) = grind (arith, shares x, group_grant_kept gs c p k shares xs)

-- a member of the groups which c sees and which lists the model shares it, if its owner is another
shares_listed : (gs : List GroupRow) (c : Text) (k : Key) (g : GroupRow) → IsIn gs g → sees_group c g ≡ true → lists k g ≡ true → (x : Grant) → is_grant_to g.owner x ≡ true → (is_grant_to c x || is_shared_by gs c k x.partner) ≡ true
shares_listed gs c k g member seen listed x is = by (owns c g) refl
  where
    by : (t : Bool) → owns c g ≡ t → (is_grant_to c x || is_shared_by gs c k x.partner) ≡ true
    by true own =
        let who : x.partner ≡ c = (bytes_eq-Decides x.partner g.owner).0 is ∙ (bytes_eq-Decides g.owner c).0 own in
        ap (λ t. t || is_shared_by gs c k x.partner) ((bytes_eq-Decides x.partner c).1 who)
    by false other =
        let who : x.partner ≡ g.owner = (bytes_eq-Decides x.partner g.owner).0 is in
        let itself : bytes_eq g.owner x.partner ≡ true = (bytes_eq-Decides g.owner x.partner).1 (sym who) in
        or_right (is_grant_to c x) (is_shared_by gs c k x.partner) (member (λ h. sees_group c h && (not (owns c h) && (bytes_eq h.owner x.partner && lists k h))) (rw (seen, other, itself, listed) refl))

-- whether it counts is told by what is seen of the model, for the groups that are seen
pub counts_shown : (gs : List GroupRow) (c : Text) (m : Model) (g : GroupRow) → owns c m ≡ false → IsIn gs g → sees_group c g ≡ true → counts (record m { grants = map (shown_grant c) (filter (is_shown gs c (row_key m)) m.grants) }) g ≡ counts m g
counts_shown gs c m g other member seen = by (lists (row_key m) g) refl
  where
    by : (t : Bool) → lists (row_key m) g ≡ t → (lists (row_key m) g && (bytes_eq m.holds.schema g.holds.schema && (owns g.owner m || list_any (is_group_grant g.owner) (map (shown_grant c) (filter (is_shown gs c (row_key m)) m.grants))))) ≡ (lists (row_key m) g && (bytes_eq m.holds.schema g.holds.schema && (owns g.owner m || list_any (is_group_grant g.owner) m.grants)))
    by true listed = ap (λ t. lists (row_key m) g && (bytes_eq m.holds.schema g.holds.schema && (owns g.owner m || t))) (group_grant_kept gs c g.owner (row_key m) (shares_listed gs c (row_key m) g member seen listed) m.grants)
    by false listed = rw listed refl

counts_shown_if : (gs : List GroupRow) (c : Text) (m : Model) (g : GroupRow) → owns c m ≡ false → IsIn gs g → (sees_group c g && counts (record m { grants = map (shown_grant c) (filter (is_shown gs c (row_key m)) m.grants) }) g) ≡ (sees_group c g && counts m g)
counts_shown_if gs c m g other member = by (sees_group c g) refl
  where
    by : (t : Bool) → sees_group c g ≡ t → (t && counts (record m { grants = map (shown_grant c) (filter (is_shown gs c (row_key m)) m.grants) }) g) ≡ (t && counts m g)
    by true seen = counts_shown gs c m g other member seen
    by false seen = refl

all_counts_shown : (gs hs : List GroupRow) (c : Text) (m : Model) → owns c m ≡ false → AllByRecursion (IsIn gs) hs → AllByRecursion (λ g. (sees_group c g && counts (record m { grants = map (shown_grant c) (filter (is_shown gs c (row_key m)) m.grants) }) g) ≡ (sees_group c g && counts m g)) hs
all_counts_shown gs [] c m other all = tt
all_counts_shown gs (g ∷ hs) c m other all = (counts_shown_if gs c m g other all.0, all_counts_shown gs hs c m other all.1)

pub shown-level : (gs : List GroupRow) (c : Text) (m : Model) → level gs c (shown gs c m) ≡ level gs c m
shown-level gs c m = by (owns c m) refl
  where
    kept : List Grant
    kept = map (shown_grant c) (filter (is_shown gs c (row_key m)) m.grants)

    by : (t : Bool) → owns c m ≡ t → level gs c (shown gs c m) ≡ level gs c m
    by true own = rw own refl
    by false other =
        let granted = grant_kept gs c (row_key m) m.grants in
        let counted = any_agree (λ g. sees_group c g && counts (record m { grants = map (shown_grant c) (filter (is_shown gs c (row_key m)) m.grants) }) g) (λ g. sees_group c g && counts m g) gs (all_counts_shown gs gs c m other (all_in gs)) in
        rw other (λ i. granted_right (granted i) (counted i))

pub shown-sees : (gs : List GroupRow) (c : Text) (m : Model) → sees gs c (shown gs c m) ≡ sees gs c m
shown-sees gs c m = ap (at_least Reads) (shown-level gs c m)

shown_grant_twice : (c : Text) (x : Grant) → shown_grant c (shown_grant c x) ≡ shown_grant c x
shown_grant_twice c x = ap (λ l. record x { level = l }) (elim (is_grant_to c x) as (λ t. (if t then (if t then x.level else Group) else Group) ≡ (if t then x.level else Group)) [ true ↦ refl | false ↦ refl ])

kept_level : (a s : Bool) (l : Level) → (a || (is_group_level l && s)) ≡ true → (a || (is_group_level (if a then l else Group) && s)) ≡ true
kept_level true s l h = refl
kept_level false s l h = (and_parts (is_group_level l) s h).1

view_again : {X : Type 0} (p : X → Bool) (f : X → X) (kept : (x : X) → p x ≡ true → p (f x) ≡ true) (twice : (x : X) → f (f x) ≡ f x) (xs : List X) → map f (filter p (map f (filter p xs))) ≡ map f (filter p xs)
view_again p f kept twice [] = refl
view_again p f kept twice (x ∷ xs) = grind (arith, kept x, twice x, view_again p f kept twice xs)

pub shown_twice : (gs : List GroupRow) (c : Text) (m : Model) → shown gs c (shown gs c m) ≡ shown gs c m
shown_twice gs c m = ap (λ xs. record m { grants = xs }) (by (owns c m) (view_again (is_shown gs c (row_key m)) (shown_grant c) (λ x h. kept_level (is_grant_to c x) (is_shared_by gs c (row_key m) x.partner) x.level h) (shown_grant_twice c) m.grants))
  where
    by : (t : Bool) → map (shown_grant c) (filter (is_shown gs c (row_key m)) (map (shown_grant c) (filter (is_shown gs c (row_key m)) m.grants))) ≡ map (shown_grant c) (filter (is_shown gs c (row_key m)) m.grants) → (if t then (if t then m.grants else map (shown_grant c) (filter (is_shown gs c (row_key m)) m.grants)) else map (shown_grant c) (filter (is_shown gs c (row_key m)) (if t then m.grants else map (shown_grant c) (filter (is_shown gs c (row_key m)) m.grants)))) ≡ (if t then m.grants else map (shown_grant c) (filter (is_shown gs c (row_key m)) m.grants))
    by true again = refl
    by false again = again

-- ---- the part of the part

pub seen_models_twice : (gs : List GroupRow) (c : Text) (ms : List Model) → seen_models gs c (seen_models gs c ms) ≡ seen_models gs c ms
seen_models_twice gs c ms = view_again (sees gs c) (shown gs c) (λ m h. shown-sees gs c m ∙ h) (shown_twice gs c) ms

pub seen_groups_twice : (c : Text) (gs : List GroupRow) → seen_groups c (seen_groups c gs) ≡ seen_groups c gs
seen_groups_twice c gs = view_again (sees_group c) (shown_group c) (λ g h. shown_group-sees c g ∙ h) (shown_group_twice c) gs

pub part_twice : (r : Plain) (c : Text) → part (part r c) c ≡ part r c
part_twice r c =
    let models = seen_alike c (seen_groups c r.groups) r.groups (alike_seen c r.groups) (seen_models r.groups c r.models) ∙ seen_models_twice r.groups c r.models in
    let groups = seen_groups_twice c r.groups in
    λ i. record r { models = models i; groups = groups i }
