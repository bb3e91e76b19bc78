-- What is told of one model is its part of the users.
use Rattle.std.proofs.Common.{◌≡◌, ◌<◌, ◌+◌, ℕ, Bool, true, false, List, [], ◌∷◌, ◌++◌, drop, get_or, length, map, filter, Some, if◌then◌else◌, refl, sym, ◌∙◌, ap, append_assoc}
use Rattle.std.proofs.lemmas.List.{drop_more, map-append}
use Rattle.std.proofs.lemmas.List.Concat.{flat_map-append}
use Rattle.std.proofs.lemmas.List.Folds.{flat_map-map}
use Rattle.std.specs.List.{flat_map, zip}
use Rattle.plain_data.specs.Numbers.{is_among}
use Rattle.ex_layouts.specs.Entities.{entities_of, line_of}
use Rattle.ex_layouts.specs.Layouts.{layout}
use Rattle.ex_slots.specs.Slots.{Slot, slots}
use Rattle.ex_schemas.specs.Schemas.{Checked}
use Rattle.rp_content.specs.declared.instance.Instance.{Instance}
use Rattle.rp_rows.specs.Contents.{references}
use Rattle.rp_value.specs.declared.value.Value.{Value}
use Rattle.rp_population.specs.declared.place.Place.{Place}
use Rattle.rp_population.specs.declared.roles.Role.{Role}
use Rattle.rp_population.specs.declared.roles.Role.TheVariants.{Every, Of}
use Rattle.rp_population.specs.Populations.{Counted, Placed, placed, placed_all, places, stands_for}
use Rattle.rp_population.specs.Uses.{is_attribute, is_slot_of, references_in, as_user, users_in}
use Rattle.rp_population.specs.Found.{AreNames, Attribute, all_slots, place_in, told_at, told_in, told_in_all, User, user_in, values_by, values_of}
use Rattle.rp_population.proofs.Layouts.{entities_are, slots_are}

-- ---- the values of an attribute

-- what a test takes of the first of some attributes with their values
taken : (v : Value) (xs : List Value) (t : Bool) (s : Slot) (zs : List (Slot × Value)) → xs ≡ map (λ (a : Slot × Value). a.1) zs
    → (if t then v ∷ xs else xs) ≡ map (λ (a : Slot × Value). a.1) (if t then (s, v) ∷ zs else zs)
taken v xs true s zs same = ap (λ vs. v ∷ vs) same
taken v xs false s zs same = same

pub values_of_none : (line name : List ℕ) (slots : List Slot) → values_of line name slots [] ≡ []
values_of_none line name [] = refl
values_of_none line name (s ∷ slots) = refl

values_are : (schema : Checked) (entity : ℕ) (name : List ℕ) (ss : List Slot) (vs : List Value)
    → values_of (line_of schema entity) name ss vs ≡ map (λ (a : Slot × Value). a.1) (filter (is_attribute schema entity name) (zip ss vs))
values_are schema entity name [] vs = refl
values_are schema entity name (s ∷ ss) [] = refl
values_are schema entity name (s ∷ ss) (v ∷ vs) =
    taken v (values_of (line_of schema entity) name ss vs) (is_slot_of (line_of schema entity) name s) s
    (filter (is_attribute schema entity name) (zip ss vs)) (values_are schema entity name ss vs)

either : (v : Value) (xs ys : List Value) (t : Bool) → (if t then v ∷ (xs ++ ys) else (xs ++ ys)) ≡ (if t then v ∷ xs else xs) ++ ys
either v xs ys true = refl
either v xs ys false = refl

-- those of two records are those of the first, and those of the second behind its values
pub values_of_both : (line name : List ℕ) (ss ts : List Slot) (vs : List Value)
    → values_of line name (ss ++ ts) vs ≡ values_of line name ss vs ++ values_of line name ts (drop (length ss) vs)
values_of_both line name [] ts vs = refl
values_of_both line name (s ∷ ss) ts [] = sym (values_of_none line name ts)
values_of_both line name (s ∷ ss) ts (v ∷ vs) =
    ap (λ xs. if is_slot_of line name s then v ∷ xs else xs) (values_of_both line name ss ts vs)
    ∙ either v (values_of line name ss vs) (values_of line name ts (drop (length ss) vs)) (is_slot_of line name s)

-- what is told of the attributes of a name in some values
abbrev pub told_of : User → Attribute → List Slot → List Value → List Place
told_of user a slots values = flat_map (told_at user) (flat_map references (values_of a.line a.name slots values))

told_of_both : (user : User) (a : Attribute) (ss ts : List Slot) (vs : List Value) → told_of user a (ss ++ ts) vs ≡ told_of user a ss vs ++ told_of user a ts (drop (length ss) vs)
told_of_both user a ss ts vs =
    let own = values_of a.line a.name ss vs in
    let others = values_of a.line a.name ts (drop (length ss) vs) in
    ap (λ xs. flat_map (told_at user) (flat_map references xs)) (values_of_both a.line a.name ss ts vs)
    ∙ ap (flat_map (told_at user)) (flat_map-append references own others)
    ∙ flat_map-append (told_at user) (flat_map references own) (flat_map references others)

-- a record more
pub told_of_more : (user : User) (a : Attribute) (records : List (List Slot)) (k : ℕ) (ss : List Slot) (vs : List Value) (found more whole : List Place) → k < length records
    → ss ≡ get_or records k ss → more ≡ found ++ told_of user a ss vs → found ++ told_of user a (all_slots (drop k records)) vs ≡ whole
    → more ++ told_of user a (all_slots (drop (k + 1) records)) (drop (length ss) vs) ≡ whole
told_of_more user a records k ss vs found more whole within is own before =
    let rest = all_slots (drop (k + 1) records) in
    let here : ss ∷ drop (k + 1) records ≡ drop k records = ap (λ x. x ∷ drop (k + 1) records) is ∙ sym (drop_more records k ss within) in
    ap (λ ps. ps ++ told_of user a rest (drop (length ss) vs)) own
    ∙ append_assoc found (told_of user a ss vs) (told_of user a rest (drop (length ss) vs))
    ∙ ap (λ ps. found ++ ps) (sym (told_of_both user a ss rest vs))
    ∙ ap (λ rs. found ++ told_of user a (all_slots rs) vs) here
    ∙ before

-- an attribute with the line of its entity
abbrev pub attribute_of : Checked → ℕ → List ℕ → Attribute
attribute_of schema entity name = record { entity = entity; line = line_of schema entity; name = name }

chosen : (t : Bool) (xs ys : List Value) → xs ≡ ys → (if t then xs else []) ≡ (if t then ys else [])
chosen true xs ys same = same
chosen false xs ys same = refl

references_are : (schema : Checked) (entity : ℕ) (name : List ℕ) (i : Instance)
    → flat_map references (values_by (attribute_of schema entity name) (layout schema i.entities) i.values) ≡ references_in schema (Of entity name) i
references_are schema entity name i =
    let line = line_of schema entity in
    let all = slots schema.named.schema.entities (entities_of schema i.entities) in
    let there : is_among (layout schema i.entities).entities entity ≡ is_among (entities_of schema i.entities) entity = ap (λ ns. is_among ns entity) (entities_are schema i.entities) in
    ap (λ t. flat_map references (if t then values_of line name (all_slots (layout schema i.entities).slots) i.values else [])) there
    ∙ ap (flat_map references)
    (chosen (is_among (entities_of schema i.entities) entity) (values_of line name (all_slots (layout schema i.entities).slots) i.values)
    (map (λ (a : Slot × Value). a.1) (filter (is_attribute schema entity name) (zip all i.values)))
    (ap (λ ss. values_of line name ss i.values) (slots_are schema i.entities) ∙ values_are schema entity name all i.values))

-- ---- what is told of an instance

told_step : (x : Placed) (names : List ℕ) (name : ℕ) (t : Bool) (ns : List ℕ) (ps : List Place) → ps ≡ places (map (λ (n : ℕ). x) ns)
    → (if t then x.place ∷ [] else []) ++ ps ≡ places (map (λ (n : ℕ). x) (if t then name ∷ ns else ns))
told_step x names name true ns ps same = ap (λ qs. x.place ∷ qs) same
told_step x names name false ns ps same = same

told_is : (p : Place) (m : Counted) (i : Instance) (names : List ℕ) → AreNames p m.model m.content.links names → (ns : List ℕ)
    → flat_map (told_at (user_in names m.model i)) ns ≡ places (map (λ (n : ℕ). placed m i) (filter (stands_for p (placed m i)) ns))
told_is p m i names are [] = refl
told_is p m i names are (n ∷ ns) =
    ap (λ t. (if t then place_in m.model i ∷ [] else []) ++ flat_map (told_at (user_in names m.model i)) ns) (are n)
    ∙ told_step (placed m i) names n (stands_for p (placed m i) n) (filter (stands_for p (placed m i)) ns)
    (flat_map (told_at (user_in names m.model i)) ns) (told_is p m i names are ns)

some_are : (schema : Checked) (role : Role) (p : Place) (m : Counted) (names : List ℕ) → AreNames p m.model m.content.links names
    → (F : Instance → List Place) → ((i : Instance) → F i ≡ flat_map (told_at (user_in names m.model i)) (references_in schema role i))
    → (xs : List Instance) → flat_map F xs ≡ places (users_in schema (Some role) p (map (placed m) xs))
some_are schema role p m names are F each [] = refl
some_are schema role p m names are F each (i ∷ xs) =
    ap (λ ps. ps ++ flat_map F xs) (each i ∙ told_is p m i names are (references_in schema role i))
    ∙ ap (λ ps. places (as_user schema role p (placed m i)) ++ ps) (some_are schema role p m names are F each xs)
    ∙ sym (map-append (λ (x : Placed). x.place) (as_user schema role p (placed m i)) (users_in schema (Some role) p (map (placed m) xs)))

-- the users in all attributes
pub all_are : (schema : Checked) (p : Place) (m : Counted) (names : List ℕ) → AreNames p m.model m.content.links names
    → flat_map (told_in_all names m.model) m.content.instances ≡ places (users_in schema (Some Every) p (placed_all m))
all_are schema p m names are = some_are schema Every p m names are (told_in_all names m.model) (λ i. refl) m.content.instances

-- the users in an attribute
pub attribute_are : (schema : Checked) (entity : ℕ) (name : List ℕ) (p : Place) (m : Counted) (names : List ℕ) → AreNames p m.model m.content.links names
    → flat_map (told_in schema (attribute_of schema entity name) names m.model) m.content.instances ≡ places (users_in schema (Some (Of entity name)) p (placed_all m))
attribute_are schema entity name p m names are =
    some_are schema (Of entity name) p m names are (told_in schema (attribute_of schema entity name) names m.model)
    (λ i. ap (flat_map (told_at (user_in names m.model i))) (references_are schema entity name i)) m.content.instances
