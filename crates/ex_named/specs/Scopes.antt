-- What a name means (ISO 10303-11:1994, clause 10).
use Rattle.std.specs.Prelude.{ℕ, suc, ◌+◌, ◌-◌, Bool, false, ◌==◌, List, [], ◌∷◌, length, filter, Option, Some, None, option_map, unwrap_or, slice_get, if◌then◌else◌, Ok}
use Rattle.std.specs.List.{find}
use Rattle.plain_data.specs.Numbers.{is_among}
use Rattle.name_tables.specs.Names.{named, place_of}
use Rattle.ex_tree.specs.declared.expression.Name.{Name}
use Rattle.ex_named.specs.declared.expression.NamedExpression.{NamedExpression}
use Rattle.ex_named.specs.declared.expression.NamedExpression.TheVariants as e
use Rattle.ex_named.specs.declared.fault.NameFaultKind.TheVariants.{Undeclared}
use Rattle.ex_named.specs.declared.reference.AttributeMeaning.{AttributeMeaning}
use Rattle.ex_named.specs.declared.reference.AttributeMeaning.TheVariants as m
use Rattle.ex_named.specs.declared.reference.AttributePlace.{AttributePlace}
use Rattle.ex_named.specs.declared.reference.Declared.{Declared}
use Rattle.ex_named.specs.declared.reference.Declared.TheVariants as d
use Rattle.ex_named.specs.declared.reference.EnumerationItem.{EnumerationItem}
use Rattle.ex_named.specs.declared.reference.TypeName.{TypeName}
use Rattle.ex_named.specs.declared.reference.TypeName.TheVariants as t
use Rattle.ex_named.specs.Outcomes.{Outcome, refused, given}

-- What a schema declares, each list in the order of the text.
pub record Declarations : Type 0 where
  -- constants, types, entities, functions and rules
  pub names : List (List ℕ × Declared)
  -- the attributes that entities declare
  pub attributes : List (List ℕ × AttributePlace)
  -- the items of enumerations
  pub items : List (List ℕ × EnumerationItem)
  -- of each type, whether it is an enumeration
  pub enumerations : List Bool

-- What an expression or a statement stands in.
pub record Scope : Type 0 where
  -- the open variables of QUERY and REPEAT, the innermost first
  pub nested : List (List ℕ)
  -- the parameters and locals in their order, which are the first slots
  pub frame : List (List ℕ)
  -- whether SELF stands for something
  pub has_self : Bool
  -- the entities whose attributes are in scope: the entity at hand and its ancestors
  pub family : List ℕ
  -- the entities that a rule is for
  pub populations : List ℕ

abbrev pub first : {A : Type 0} → List A → Option A
first [] = None
first (a ∷ others) = Some a

-- whether a number is marked in a list of marks
abbrev pub is_marked : List Bool → ℕ → Bool
is_marked marks k = unwrap_or (slice_get marks k) false

-- what the name of an attribute means, if these are all its declarations
abbrev pub meaning_of : List AttributePlace → Option AttributeMeaning
meaning_of [] = None
meaning_of (a ∷ []) = Some (m.One a)
meaning_of (a ∷ b ∷ others) = Some m.Several

-- what was found, or that the name means nothing here
abbrev pub or_undeclared : {A : Type 0} → Name → Option A → Outcome A
or_undeclared n None = refused Undeclared n.at
or_undeclared n (Some a) = Ok a

abbrev pub or_else : {A : Type 0} → Option A → Option A → Option A
or_else None second = second
or_else (Some a) second = Some a

abbrev pub and_then : {A B : Type 0} → Option A → (A → Option B) → Option B
and_then None next = None
and_then (Some a) next = next a

-- ---- variables

-- the slot of the variable of this name: the innermost, and from the outermost they have the slots behind the frame's
abbrev pub nested_variable : Scope → List ℕ → Option ℕ
nested_variable s name = option_map (λ depth. length s.frame + (length s.nested - suc depth)) (place_of name s.nested)

abbrev pub frame_variable : Scope → List ℕ → Option ℕ
frame_variable s name = place_of name s.frame

abbrev pub variable : Scope → List ℕ → Option ℕ
variable s name = or_else (nested_variable s name) (frame_variable s name)

-- a variable that can be assigned: the innermost of its name, which has to be a parameter or local
abbrev pub assigned_by : Option ℕ → Option ℕ → Option ℕ
assigned_by None frame = frame
assigned_by (Some nested) frame = None

abbrev pub assigned : Scope → Name → Outcome ℕ
assigned s n = or_undeclared n (assigned_by (nested_variable s n.text) (frame_variable s n.text))

-- SELF, where it stands for something
abbrev pub itself : Scope → ℕ → Outcome NamedExpression
itself s at = if s.has_self then Ok e.Itself else refused Undeclared at

-- a scope with one variable more
abbrev pub within : Scope → List ℕ → Scope
within s name = record s { nested = name ∷ s.nested }

-- ---- what the schema declares

module _ (schema : Declarations) where
  -- what the schema declares by a name: the first, where it declares two
  abbrev pub declared : List ℕ → Option Declared
  declared name = first (named name schema.names)

  -- ---- names of types and entities: the schema's declarations alone

  abbrev pub as_type : Declared → Option TypeName
  as_type (d.Entity k) = Some (t.Entity k)
  as_type (d.Type k) = Some (t.Defined k)
  as_type _ = None

  abbrev pub as_entity : Declared → Option ℕ
  as_entity (d.Entity k) = Some k
  as_entity _ = None

  abbrev pub type_name : Name → Outcome TypeName
  type_name n = or_undeclared n (and_then (declared n.text) as_type)

  abbrev pub entity : Name → Outcome ℕ
  entity n = or_undeclared n (and_then (declared n.text) as_entity)

  -- ---- names of values: variables, then attributes, then the schema's declarations

  -- the attributes of this name that one of these entities declares
  abbrev pub attributes_of : List ℕ → List ℕ → List AttributePlace
  attributes_of family name = filter (λ a. is_among family a.entity) (named name schema.attributes)

  abbrev pub attribute : Scope → Name → Option NamedExpression
  attribute s n = option_map (λ meaning. e.Attribute (record { at = n.at; meaning = meaning })) (meaning_of (attributes_of s.family n.text))

  -- a constant, a function without arguments, or the instances of an entity that the rule is for
  abbrev pub declared_value : Scope → ℕ → Declared → Option NamedExpression
  declared_value s at (d.Constant k) = Some (e.Constant k)
  declared_value s at (d.Function k) = Some (e.Call k at [])
  declared_value s at (d.Entity k) = if is_among s.populations k then Some (e.Population k) else None
  declared_value s at _ = None

  abbrev pub value : Scope → Name → Option NamedExpression
  value s n = or_else (option_map e.Variable (variable s n.text))
      (or_else (attribute s n) (and_then (declared n.text) (declared_value s n.at)))

  -- ---- items of enumerations: where no value has the name

  abbrev pub item_from : Name → List EnumerationItem → Outcome NamedExpression
  item_from n [] = refused Undeclared n.at
  item_from n (i ∷ []) = Ok (e.Item i)
  item_from n (i ∷ j ∷ js) = Ok (e.AmbiguousItem n.at)

  abbrev pub value_or_item : Option NamedExpression → Name → Outcome NamedExpression
  value_or_item (Some found) n = Ok found
  value_or_item None n = item_from n (named n.text schema.items)

  -- a name alone in an expression
  abbrev pub name : Scope → Name → Outcome NamedExpression
  name s n = value_or_item (value s n) n

  -- the item of this name in this type
  abbrev pub item_of_type : ℕ → Name → Outcome NamedExpression
  item_of_type k n = or_undeclared n (option_map e.Item (find (λ i. i.type_number == k) (named n.text schema.items)))

  abbrev pub enumeration_item : Name → ℕ → Name → Outcome NamedExpression
  enumeration_item n k item = if is_marked schema.enumerations k then item_of_type k item else refused Undeclared n.at

  abbrev pub as_defined : Declared → Option ℕ
  as_defined (d.Type k) = Some k
  as_defined _ = None

  abbrev pub item_of_declared : Option ℕ → Name → Name → Outcome NamedExpression
  item_of_declared None type item = refused Undeclared type.at
  item_of_declared (Some k) type item = enumeration_item type k item

  abbrev pub item_of_by : Option NamedExpression → Name → Name → Outcome (Option NamedExpression)
  item_of_by (Some found) type item = Ok None
  item_of_by None type item = given Some (item_of_declared (and_then (declared type.text) as_defined) type item)

  abbrev pub item_of : Scope → Name → Name → Outcome (Option NamedExpression)
  item_of s type item = item_of_by (value s type) type item

  -- ---- calls: the innermost name, which has to be a function

  abbrev pub as_function : Declared → Option ℕ
  as_function (d.Function k) = Some k
  as_function _ = None

  abbrev pub function_by : Option ℕ → List AttributePlace → List ℕ → Option ℕ
  function_by None [] name = and_then (declared name) as_function
  function_by _ _ name = None

  abbrev pub function : Scope → Name → Outcome ℕ
  function s n = or_undeclared n (function_by (variable s n.text) (attributes_of s.family n.text) n.text)
