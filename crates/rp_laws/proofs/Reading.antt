-- What a request asks of a repository is in the part that its caller sees.
use Rattle.std.proofs.Common.{◌≡◌, suc, Bool, true, false, ◌&&◌, ◌||◌, List, [], ◌∷◌, length, map, Option, Some, None, refl, sym, ◌∙◌, ap, subst, arith}
use Rattle.std.specs.Prelude.{filter, if◌then◌else◌}
use Rattle.std.specs.List.{find, list_any}
use Rattle.std.specs.Option.{option_map}
use Rattle.std.proofs.lemmas.Bool.{and_parts, or_right}
use Rattle.sorted_tables.proofs.Tables.{find-view}
use Rattle.rp_rows.specs.declared.rows.Level.{Level}
use Rattle.rp_rows.specs.declared.rows.Level.TheVariants.{Read, Group, Write}
use Rattle.rp_rows.specs.declared.rows.Right.TheVariants.{Reads, Owns}
use Rattle.rp_rows.specs.declared.rows.Grant.{Grant}
use Rattle.rp_plain.specs.declared.lists.Item.{Item}
use Rattle.rp_plain.specs.declared.messages.Request.{Request}
use Rattle.rp_rows.specs.declared.rows.Key.{Key}
use Rattle.rp_rows.specs.Rows.{Text, key_cmp, Row, row_key, is_row, Model, GroupRow}
use Rattle.rp_rows.specs.Sight.{at_least, right_of, owns, is_grant_to, sees_group, counts, is_counted, granted_right, level, sees, shown, shown_group, seen_models, seen_groups}
use Rattle.rp_plain.specs.Plain.{Plain, part, model_at, group_at}
use Rattle.rp_plain.specs.Readers.{asked, right_at, group_right_at, held, model_item, group_item, as_counted, counted_in}
use Rattle.rp_plain.specs.Step.{answer, reply_to}
use Rattle.rp_laws.proofs.Sight.{IsIn, alike_seen, level_alike, shown-level, shown-sees, shown_group-sees, shown_group-right, counts_shown}

-- sight by the groups that are seen is sight
level-seen_groups : (gs : List GroupRow) (c : Text) → level (seen_groups c gs) c ≡ level gs c
level-seen_groups gs c = λ i m. level_alike c (seen_groups c gs) gs (alike_seen c gs) m i

pub model_at-part : (r : Plain) (c : Text) (k : Key) → model_at (part r c) c k ≡ option_map (shown r.groups c) (model_at r c k)
model_at-part r c k =
    (λ i. find (λ m. is_row k m && at_least Reads (level-seen_groups r.groups c i m)) (seen_models r.groups c r.models))
    ∙ find-view key_cmp row_key (sees r.groups c) (shown r.groups c) (λ m. refl) (shown-sees r.groups c) k r.models

pub group_at-part : (r : Plain) (c : Text) (k : Key) → group_at (part r c) c k ≡ option_map (shown_group c) (group_at r c k)
group_at-part r c k = find-view key_cmp row_key (sees_group c) (shown_group c) (λ g. refl) (shown_group-sees c) k r.groups

right_shown : (gs : List GroupRow) (c : Text) (o : Option Model) → right_at (seen_groups c gs) c (option_map (shown gs c) o) ≡ right_at gs c o
right_shown gs c None = refl
right_shown gs c (Some m) = ap (λ l. l (shown gs c m)) (level-seen_groups gs c) ∙ shown-level gs c m

group_right_shown : (c : Text) (o : Option GroupRow) → group_right_at c (option_map (shown_group c) o) ≡ group_right_at c o
group_right_shown c None = refl
group_right_shown c (Some g) = shown_group-right c g

held_shown : {A : Type 0} (f : Row A → Row A) (same : (x : Row A) → (f x).holds ≡ x.holds) (o : Option (Row A)) → held (option_map f o) ≡ held o
held_shown f same None = refl
held_shown f same (Some x) = ap Some (same x)

-- what is one's own is seen
pub own_sees : (gs : List GroupRow) (c : Text) (m : Model) → owns c m ≡ true → sees gs c m ≡ true
own_sees gs c m own = rw own refl

pub own_sees_group : (c : Text) (g : GroupRow) → owns c g ≡ true → sees_group c g ≡ true
own_sees_group c g own = rw own refl

count_seen : {A : Type 0} (c : Text) (p : Row A → Bool) (f : Row A → Row A) (own : (x : Row A) → owns c x ≡ true → p x ≡ true) (same : (x : Row A) → (f x).owner ≡ x.owner) (xs : List (Row A)) → length (filter (owns c) (map f (filter p xs))) ≡ length (filter (owns c) xs)
count_seen c p f own same [] = refl
count_seen c p f own same (x ∷ xs) = by (count_seen c p f own same xs) (p x) refl (owns c x) refl
  where
    by : length (filter (owns c) (map f (filter p xs))) ≡ length (filter (owns c) xs) → (s : Bool) → p x ≡ s → (o : Bool) → owns c x ≡ o → length (filter (owns c) (map f (filter p (x ∷ xs)))) ≡ length (filter (owns c) (x ∷ xs))
    by rest true es true eo = rw (es, same x, eo) (ap (λ n. suc n) rest)
    by rest true es false eo = rw (es, same x, eo) rest
    by rest false es true eo = let shows = own x eo in cc
    by rest false es false eo = rw (es, eo) rest

items_seen : {X : Type 0} (p : X → Bool) (f : X → X) (item : X → Item) (kept : (x : X) → p (f x) ≡ p x) (same : (x : X) → item (f x) ≡ item x) (xs : List X) → map item (filter p (map f (filter p xs))) ≡ map item (filter p xs)
items_seen p f item kept same [] = refl
items_seen p f item kept same (x ∷ xs) = grind (arith, kept x, same x, items_seen p f item kept same xs)

-- ---- the models that count in a group

counted_right : (o : Option Grant) → at_least Reads (granted_right o true) ≡ true
counted_right None = refl
counted_right (Some x) = by x.level
  where
    by : (l : Level) → at_least Reads (right_of l) ≡ true
    by Read = refl
    by Group = refl
    by Write = refl

-- what counts in a group that c sees, he sees
counted_sees : (gs : List GroupRow) (c : Text) (m : Model) → is_counted gs c m ≡ true → sees gs c m ≡ true
counted_sees gs c m counted_here = by (owns c m)
  where
    by : (t : Bool) → at_least Reads (if t then Owns else granted_right (find (is_grant_to c) m.grants) (is_counted gs c m)) ≡ true
    by true = refl
    by false = ap (λ t. at_least Reads (granted_right (find (is_grant_to c) m.grants) t)) counted_here ∙ counted_right (find (is_grant_to c) m.grants)

-- whether a model counts in a group that c sees is told by what he is shown of it
counts-shown : (gs : List GroupRow) (c : Text) (g : GroupRow) (m : Model) → IsIn gs g → sees_group c g ≡ true → counts (shown gs c m) g ≡ counts m g
counts-shown gs c g m member seen = by (owns c m) refl
  where
    by : (t : Bool) → owns c m ≡ t → counts (shown gs c m) g ≡ counts m g
    by true own = rw own refl
    by false other = rw other (counts_shown gs c m g other member seen)

-- the models that count in a group that c sees are among those that he sees
counted-seen : (gs : List GroupRow) (c : Text) (g : GroupRow) → IsIn gs g → sees_group c g ≡ true → (ms : List Model) → map as_counted (filter (λ m. counts m g) (seen_models gs c ms)) ≡ map as_counted (filter (λ m. counts m g) ms)
counted-seen gs c g member seen [] = refl
counted-seen gs c g member seen (m ∷ ms) =
    by (counted-seen gs c g member seen ms) (sees gs c m) refl (counts m g) refl
  where
    by : map as_counted (filter (λ m. counts m g) (seen_models gs c ms)) ≡ map as_counted (filter (λ m. counts m g) ms) → (s : Bool) → sees gs c m ≡ s → (t : Bool) → counts m g ≡ t
        → map as_counted (filter (λ m. counts m g) (seen_models gs c (m ∷ ms))) ≡ map as_counted (filter (λ m. counts m g) (m ∷ ms))
    by rest true es true et = rw (es, counts-shown gs c g m member seen, et) (ap (λ ys. as_counted m ∷ ys) rest)
    by rest true es false et = rw (es, counts-shown gs c g m member seen, et) rest
    by rest false es true et =
        let here : is_counted gs c m ≡ true = member (λ h. sees_group c h && counts m h) (rw (seen, et) refl) in
        let shows = counted_sees gs c m here in
        cc
    by rest false es false et = rw (es, et) rest

found_in : {X : Type 0} (p : X → Bool) (xs : List X) (x : X) → find p xs ≡ Some x → IsIn xs x × (p x ≡ true)
found_in p [] x h = cc
found_in p (y ∷ ys) x h = by (found_in p ys x) (p y) refl h
  where
    by : (find p ys ≡ Some x → IsIn ys x × (p x ≡ true)) → (t : Bool) → p y ≡ t → (if t then Some y else find p ys) ≡ Some x → IsIn (y ∷ ys) x × (p x ≡ true)
    by rest true e f = let same : y ≡ x = cc in ((λ q g. ap (λ t. t || list_any q ys) (subst (λ z. q z ≡ true) (sym same) g)), subst (λ z. p z ≡ true) same e)
    by rest false e f = let later = rest f in ((λ q g. or_right (q y) (list_any q ys) (later.0 q g)), later.1)

counted-part : (r : Plain) (c : Text) (k : Key) → counted_in (part r c).models (group_at (part r c) c k) ≡ counted_in r.models (group_at r c k)
counted-part r c k = ap (counted_in (part r c).models) (group_at-part r c k) ∙ by (group_at r c k) refl
  where
    by : (o : Option GroupRow) → group_at r c k ≡ o → counted_in (part r c).models (option_map (shown_group c) o) ≡ counted_in r.models o
    by None e = refl
    by (Some g) e =
        let found = found_in (λ h. is_row k h && sees_group c h) r.groups g e in
        counted-seen r.groups c g found.0 (and_parts (is_row k g) (sees_group c g) found.1).1 r.models

-- every way in which a partner's requests read the repository
pub asked-part : (r : Plain) (c : Text) → asked (part r c) c ≡ asked r c
asked-part r c =
    let rights = λ (k : Key). ap (right_at (seen_groups c r.groups) c) (model_at-part r c k) ∙ right_shown r.groups c (model_at r c k) in
    let group_rights = λ (k : Key). ap (group_right_at c) (group_at-part r c k) ∙ group_right_shown c (group_at r c k) in
    let contents = λ (k : Key). ap held (model_at-part r c k) ∙ held_shown (shown r.groups c) (λ m. refl) (model_at r c k) in
    let listings = λ (k : Key). ap held (group_at-part r c k) ∙ held_shown (shown_group c) (λ g. refl) (group_at r c k) in
    let countings = λ (k : Key). counted-part r c k in
    let model_count = ap (λ n. n) (count_seen c (sees r.groups c) (shown r.groups c) (own_sees r.groups c) (λ m. refl) r.models) in
    let group_count = ap (λ n. n) (count_seen c (sees_group c) (shown_group c) (own_sees_group c) (λ g. refl) r.groups) in
    let models =
    (λ i. map (λ (m : Model). record { owner = m.owner; name = m.name; schema = m.holds.schema; right = level-seen_groups r.groups c i m }) (filter (λ m. at_least Reads (level-seen_groups r.groups c i m)) (seen_models r.groups c r.models)))
    ∙ items_seen (sees r.groups c) (shown r.groups c) (model_item r.groups c) (shown-sees r.groups c)
    (λ m i. record { owner = m.owner; name = m.name; schema = m.holds.schema; right = shown-level r.groups c m i }) r.models in
    let groups =
    items_seen (sees_group c) (shown_group c) (group_item c) (shown_group-sees c)
    (λ g i. record { owner = g.owner; name = g.name; schema = g.holds.schema; right = shown_group-right c g i }) r.groups in
    λ i. record {
      schemas = r.schemas;
      partners = r.partners;
      model_right = λ k. rights k i;
      group_right = λ k. group_rights k i;
      content = λ k. contents k i;
      listing = λ k. listings k i;
      counted = λ k. countings k i;
      model_count = model_count i;
      group_count = group_count i;
      models = models i;
      groups = groups i;
    }

pub own_turn_reply : (r : Plain) (c : Text) (q : Request) → reply_to r c q ≡ reply_to (part r c) c q
own_turn_reply r c q = sym (ap (λ a. (answer a c q).reply) (asked-part r c))
