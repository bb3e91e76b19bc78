-- What a request takes for no role is the name of no role of the schema.
use Rattle.std.proofs.Common.{◌≡◌, ℕ, zero, suc, Bool, true, false, if◌then◌else◌, List, [], ◌∷◌, map, Option, Some, None, is_some, option_map, slice_get, refl, sym, ◌∙◌, ap, subst}
use Rattle.std.proofs.lemmas.Bool.{and_parts}
use Rattle.std.proofs.lemmas.List.Splits.{slice_split_none}
use Rattle.std.proofs.lemmas.Slice.Eq.{bytes_eq-Decides}
use Rattle.std.specs.List.{AllByRecursion, filter_map, find, flat_map, list_all, slice_split}
use Rattle.std.specs.Option.{option_map_or}
use Rattle.std.specs.Str.{bytes_eq}
use Rattle.plain_data.specs.Numbers.{numbered_from}
use Rattle.ex_attributes.specs.Attributes.{own}
use Rattle.ex_named.specs.declared.declaration.NamedAttribute.{NamedAttribute}
use Rattle.ex_named.specs.declared.declaration.NamedAttribute.TheVariants as na
use Rattle.ex_named.specs.declared.declaration.NamedEntity.{NamedEntity}
use Rattle.ex_named.specs.declared.declaration.NamedExplicit.{NamedExplicit}
use Rattle.ex_named.specs.declared.reference.AttributePlace.{AttributePlace}
use Rattle.ex_slots.specs.Slots.{declared_by, declared_together, explicit_place}
use Rattle.ex_schemas.specs.Schemas.{Checked, entity_names}
use Rattle.ex_layouts.specs.Entities.{entity_named}
use Rattle.ex_tree.specs.Identifiers.{is_identifier}
use Rattle.ex_tree.specs.declared.expression.Name.{Name}
use Rattle.graphs.specs.Graphs.{family}
use Rattle.name_tables.specs.Names.{named, place_of}
use Rattle.rp_code.specs.declared.role.NamedRole.{NamedRole}
use Rattle.rp_code.specs.declared.role.Role.TheVariants as r
use Rattle.rp_meaning.specs.Compiled as compiling
use Rattle.rp_meaning.specs.CompiledNames.{explicit_rows, inherited_rows, joined, roles_of}
use Rattle.rp_population.specs.declared.roles.Role.TheVariants as a
use Rattle.rp_population.specs.Uses.{is_full_stop, role_of_parts}
use Rattle.rp_use_laws.proofs.Lists.{all_parts, each_by}
use Rattle.rp_use_laws.proofs.Roles.{IsPlainName, parts_of, plain_name}
use Rattle.rp_use_laws.specs.Schemas.{IsBound, is_attribute_identified, is_entity_identified, is_explicit_identified}

-- ---- the names of attributes

abbrev Declared : Type 0
Declared = Name × NamedExplicit

abbrev Row : Type 0
Row = List ℕ × AttributePlace

abbrev IsPlain : Declared → Type 0
IsPlain d = IsPlainName d.0.text

abbrev IsPlainRow : Row → Type 0
IsPlainRow row = IsPlainName row.0

plain_own : (x : NamedExplicit) (attributes : List NamedAttribute) → list_all is_attribute_identified attributes ≡ true → AllByRecursion IsPlain (map (λ n. (n, x)) (filter_map own attributes))
plain_own x [] all = tt
plain_own x (na.Own n ∷ attributes) all =
    let both = and_parts (is_identifier n.text) (list_all is_attribute_identified attributes) all in
    (plain_name n.text both.0, plain_own x attributes both.1)
plain_own x (na.Redeclared it ∷ attributes) all = plain_own x attributes all

plain_declared : (xs : List NamedExplicit) → list_all is_explicit_identified xs ≡ true → AllByRecursion IsPlain (flat_map declared_together xs)
plain_declared [] all = tt
plain_declared (x ∷ xs) all =
    let both = and_parts (is_explicit_identified x) (list_all is_explicit_identified xs) all in
    all_parts IsPlain (declared_together x) (flat_map declared_together xs) (plain_own x x.attributes both.0) (plain_declared xs both.1)

plain_entity : (es : List NamedEntity) → list_all is_entity_identified es ≡ true → (m : ℕ) (e : NamedEntity) → slice_get es m ≡ Some e → AllByRecursion IsPlain (declared_by e)
plain_entity [] all m e there = cc
plain_entity (x ∷ es) all zero e there =
    let it : x ≡ e = cc in
    subst (λ (z : NamedEntity). AllByRecursion IsPlain (declared_by z)) it (plain_declared x.explicit (and_parts (is_entity_identified x) (list_all is_entity_identified es) all).0)
plain_entity (x ∷ es) all (suc m) e there = plain_entity es (and_parts (is_entity_identified x) (list_all is_entity_identified es) all).1 m e there

plain_rows : (m k : ℕ) (ds : List Declared) → AllByRecursion IsPlain ds → AllByRecursion IsPlainRow (numbered_from (λ place d. (d.0.text, explicit_place m place)) k ds)
plain_rows m k [] all = tt
plain_rows m k (d ∷ ds) all = (all.0, plain_rows m (suc k) ds all.1)

-- ---- the names of entities

named_later : (n name : List ℕ) (ns : List (List ℕ)) → is_some (place_of name ns) ≡ true → is_some (place_of name (n ∷ ns)) ≡ true
named_later n name ns there = by (bytes_eq n name) (place_of name ns) there
  where
    by : (t : Bool) (o : Option ℕ) → is_some o ≡ true → is_some (if t then Some zero else option_map suc o) ≡ true
    by true o e = refl
    by false None e = e
    by false (Some m) e = refl

all_named : (es : List NamedEntity) → AllByRecursion (λ (e : NamedEntity). is_some (place_of e.name.text (entity_names es)) ≡ true) es
all_named [] = tt
all_named (x ∷ es) = (
  ap (λ t. is_some (if t then Some zero else option_map suc (place_of x.name.text (entity_names es)))) ((bytes_eq-Decides x.name.text x.name.text).1 refl),
  each_by (λ (e : NamedEntity). is_some (place_of e.name.text (entity_names es)) ≡ true) (λ (e : NamedEntity). is_some (place_of e.name.text (entity_names (x ∷ es))) ≡ true)
      (λ e there. named_later x.name.text e.name.text (entity_names es) there) es (all_named es),
)

-- ---- the names of roles

not_there : {A : Type 0} (f : ℕ → A) (o : Option ℕ) → option_map f o ≡ None → is_some o ≡ true → ⊥
not_there f None e is = cc
not_there f (Some n) e is = cc

found_none : (test : NamedRole → Bool) (xs : List NamedRole) → AllByRecursion (λ (x : NamedRole). test x ≡ false) xs → find test xs ≡ None
found_none test [] all = refl
found_none test (x ∷ xs) all = rw all.0 (found_none test xs all.1)

module _ (schema : Checked) (bound : IsBound schema.named) where
  abbrev entities : List NamedEntity
  entities = schema.named.schema.entities

  abbrev supertypes : List (List ℕ)
  supertypes = compiling.supertypes schema.named.schema

  abbrev schema_name : List ℕ
  schema_name = schema.named.schema.name.text

  explicit_plain : (m : ℕ) → AllByRecursion IsPlainRow (explicit_rows entities m)
  explicit_plain m = by (slice_get entities m) refl
    where
      by : (o : Option NamedEntity) → slice_get entities m ≡ o → AllByRecursion IsPlainRow (option_map_or (λ x. numbered_from (λ place d. (d.0.text, explicit_place m place)) zero (declared_by x)) o [])
      by None is = tt
      by (Some e) is = plain_rows m zero (declared_by e) (plain_entity entities bound.attributes m e is)

  inherited_plain : (ns : List ℕ) → AllByRecursion IsPlainRow (flat_map (explicit_rows entities) ns)
  inherited_plain [] = tt
  inherited_plain (n ∷ ns) = all_parts IsPlainRow (explicit_rows entities n) (flat_map (explicit_rows entities) ns) (explicit_plain n) (inherited_plain ns)

  -- it is made of the schema's name, the name of an entity, and a third name
  record IsRoleName (x : NamedRole) : Type 0 where
    pub entity : List ℕ
    pub attribute : List ℕ
    pub parts : slice_split is_full_stop x.name ≡ schema_name ∷ entity ∷ attribute ∷ []
    pub there : is_some (entity_named schema entity) ≡ true

  rows_named : (number : ℕ) (e : NamedEntity) → is_identifier e.name.text ≡ true → is_some (entity_named schema e.name.text) ≡ true → (rows all : List Row) → AllByRecursion IsPlainRow rows
      → AllByRecursion IsRoleName (map (λ (row : Row). record { name = joined (joined schema_name e.name.text) row.0; role = r.Of number (named row.0 all) }) rows)
  rows_named number e word there [] all plain = tt
  rows_named number e word there (row ∷ rows) all plain = (
    record {
      entity = e.name.text;
      attribute = row.0;
      parts = parts_of schema_name e.name.text row.0 (plain_name schema_name bound.identified.schema) (plain_name e.name.text word)
          ∙ ap (λ l. schema_name ∷ e.name.text ∷ l) (slice_split_none is_full_stop row.0 plain.0);
      there = there;
    },
    rows_named number e word there rows all plain.1,
  )

  abbrev made_by : ℕ → NamedEntity → List NamedRole
  made_by k x = roles_of entities supertypes k (joined schema_name x.name.text)

  roles_named : (k : ℕ) (es : List NamedEntity) → list_all (λ e. is_identifier e.name.text) es ≡ true → AllByRecursion (λ (e : NamedEntity). is_some (entity_named schema e.name.text) ≡ true) es
      → AllByRecursion IsRoleName (flat_map (λ roles. roles) (numbered_from made_by k es))
  roles_named k [] words there = tt
  roles_named k (e ∷ es) words there =
      let both = and_parts (is_identifier e.name.text) (list_all (λ e. is_identifier e.name.text) es) words in
      let rows : List Row = inherited_rows entities supertypes k in
      all_parts IsRoleName (made_by k e) (flat_map (λ roles. roles) (numbered_from made_by (suc k) es))
      (rows_named k e both.0 there.0 rows rows (inherited_plain (family supertypes k))) (roles_named (suc k) es both.1 there.1)

  other_name : (text : List ℕ) → role_of_parts schema (slice_split is_full_stop text) ≡ None → (x : NamedRole) → IsRoleName x → bytes_eq x.name text ≡ false
  other_name text none x is = by (bytes_eq x.name text) refl
    where
      by : (t : Bool) → bytes_eq x.name text ≡ t → t ≡ false
      by false same = refl
      by true same =
          let it : x.name ≡ text = (bytes_eq-Decides x.name text).0 same in
          let parts : slice_split is_full_stop text ≡ schema_name ∷ is.entity ∷ is.attribute ∷ [] = ap (slice_split is_full_stop) (sym it) ∙ is.parts in
          let nothing : option_map (λ number. a.Of number is.attribute) (entity_named schema is.entity) ≡ None =
          ap (λ t. if t then option_map (λ number. a.Of number is.attribute) (entity_named schema is.entity) else None) (sym ((bytes_eq-Decides schema_name schema_name).1 refl))
          ∙ ap (role_of_parts schema) (sym parts) ∙ none in
          absurd (not_there (λ number. a.Of number is.attribute) (entity_named schema is.entity) nothing is.there)

  -- no role has such a name
  pub none_named : (text : List ℕ) → role_of_parts schema (slice_split is_full_stop text) ≡ None → find (λ (x : NamedRole). bytes_eq x.name text) (compiling.roles schema.named.schema) ≡ None
  none_named text none =
      let roles : List NamedRole = compiling.roles schema.named.schema in
      found_none (λ (x : NamedRole). bytes_eq x.name text) roles
      (each_by IsRoleName (λ (x : NamedRole). bytes_eq x.name text ≡ false) (other_name text none) roles (roles_named zero entities bound.identified.entities (all_named entities)))
