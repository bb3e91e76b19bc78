-- What a name means is in range, where all that is declared is.
use Rattle.std.proofs.Common.{◌≡◌, ℕ, zero, suc, ◌+◌, ◌-◌, ◌<◌, Bool, true, false, if◌then◌else◌, ◌==◌, nat_lt, List, [], ◌∷◌, length, Option, Some, None, Ok, refl, sym, ap, ◌∙◌, arith}
use Rattle.std.specs.List.{find, list_all}
use Rattle.std.specs.Option.{option_map}
use Rattle.std.specs.Str.{bytes_eq}
use Rattle.plain_data.specs.Numbers.{is_among}
use Rattle.name_tables.specs.Names.{named, place_of}
use Rattle.ex_tree.specs.declared.expression.Name.{Name}
use Rattle.ex_named.specs.declared.expression.NamedExpression.{NamedExpression}
use Rattle.ex_named.specs.declared.expression.NamedExpression.TheVariants as e
use Rattle.ex_named.specs.declared.expression.NamedExpression.TheOpen.{NamedExpression-F}
use Rattle.ex_named.specs.declared.reference.AttributeMeaning.{AttributeMeaning}
use Rattle.ex_named.specs.declared.reference.AttributeMeaning.TheVariants as m
use Rattle.ex_named.specs.declared.reference.AttributePlace.{AttributePlace}
use Rattle.ex_named.specs.declared.reference.Declared.{Declared}
use Rattle.ex_named.specs.declared.reference.Declared.TheVariants as d
use Rattle.ex_named.specs.declared.reference.EnumerationItem.{EnumerationItem}
use Rattle.ex_named.specs.declared.reference.TypeName.{TypeName}
use Rattle.ex_named.specs.declared.reference.TypeName.TheVariants as t
use Rattle.ex_named.specs.declared.fault.NameFaultKind.TheVariants.{Undeclared}
use Rattle.ex_named.specs.Outcomes.{refused}
use Rattle.ex_named.specs.Scopes.{Declarations, Scope, and_then, or_else, or_undeclared, is_marked, meaning_of, nested_variable, frame_variable, variable, assigned, assigned_by, itself, declared, as_type, as_entity, as_defined, as_function, type_name, entity, attributes_of, attribute, declared_value, value, item_from, value_or_item, name, item_of_type, item_of_declared, item_of_by, item_of, function_by, function}
use Rattle.ex_resolve.proofs.Layers.{expression_made}
use Rattle.ex_resolve.proofs.Truths.{true_and, and_true, below, first_in, found_in, all_kept, all_named}
use Rattle.ex_resolve.proofs.Wholes.{given_ok, meant}
use Rattle.ex_resolve.specs.Ranges as range
use Rattle.ex_resolve.specs.Ranges.{Range}

-- ---- variables

-- how many are open
abbrev pub variables_of : Scope → ℕ
variables_of s = length s.frame + length s.nested

place_if : (b : Bool) (rest : Option ℕ) (k n : ℕ) → ((j : ℕ) → rest ≡ Some j → j < n) → (if b then Some zero else option_map suc rest) ≡ Some k → k < suc n
place_if true rest k n further h = let e : zero ≡ k = cc in omega (arith, e)
place_if false None k n further h = absurd cc
place_if false (Some j) k n further h = let e : suc j ≡ k = cc in let less = further j refl in omega (arith, e, less)

place_below : (name : List ℕ) (names : List (List ℕ)) (k : ℕ) → place_of name names ≡ Some k → k < length names
place_below name [] k h = absurd cc
place_below name (n ∷ ns) k h = place_if (bytes_eq n name) (place_of name ns) k (length ns) (place_below name ns) h

frame_below : (s : Scope) (name : List ℕ) (k : ℕ) → frame_variable s name ≡ Some k → k < variables_of s
frame_below s name k h = let less = place_below name s.frame k h in omega (arith, less)

depth_below : (a b k : ℕ) (o : Option ℕ) → ((j : ℕ) → o ≡ Some j → j < b) → option_map (λ depth. a + (b - suc depth)) o ≡ Some k → k < a + b
depth_below a b k None inside h = absurd cc
depth_below a b k (Some j) inside h = let e : a + (b - suc j) ≡ k = cc in let less = inside j refl in omega (arith, e, less)

nested_below : (s : Scope) (name : List ℕ) (k : ℕ) → nested_variable s name ≡ Some k → k < variables_of s
nested_below s name k h = depth_below (length s.frame) (length s.nested) k (place_of name s.nested) (place_below name s.nested) h

either_below : (a b : Option ℕ) (k n : ℕ) → (a ≡ Some k → k < n) → (b ≡ Some k → k < n) → or_else a b ≡ Some k → k < n
either_below None b k n one other h = other h
either_below (Some x) b k n one other h = one h

variable_below : (s : Scope) (name : List ℕ) (k : ℕ) → variable s name ≡ Some k → k < variables_of s
variable_below s name k h = either_below (nested_variable s name) (frame_variable s name) k (variables_of s) (nested_below s name k) (frame_below s name k) h

assigned_in_frame : (a b : Option ℕ) (k : ℕ) → assigned_by a b ≡ Some k → b ≡ Some k
assigned_in_frame None b k h = h
assigned_in_frame (Some x) b k h = absurd cc

pub assigned_below : (s : Scope) (n : Name) (k : ℕ) → assigned s n ≡ Ok k → nat_lt k (variables_of s) ≡ true
assigned_below s n k h = below k (variables_of s) (frame_below s n.text k (assigned_in_frame (nested_variable s n.text) (frame_variable s n.text) k (meant n _ k h)))

-- ---- what is declared

abbrev pub declared_in : Range → Declared → Bool
declared_in r (d.Constant k) = r.constant k
declared_in r (d.Entity k) = r.entity k
declared_in r (d.Function k) = r.function k
declared_in r (d.Rule k) = true
declared_in r (d.Type k) = r.type k

-- all that is declared is in range
pub record IsIn (r : Range) (schema : Declarations) : Type 0 where
  pub names : list_all (λ row. declared_in r row.1) schema.names ≡ true
  pub attributes : list_all (λ row. r.attribute row.1) schema.attributes ≡ true
  pub items : list_all (λ row. r.item row.1) schema.items ≡ true

module _ (r : Range) (schema : Declarations) (in_range : IsIn r schema) where
  declared_by : (n : List ℕ) (x : Declared) → declared schema n ≡ Some x → declared_in r x ≡ true
  declared_by n x is = first_in (declared_in r) (named n schema.names) x (all_named (declared_in r) n schema.names in_range.names) is

  -- ---- types and entities

  abbrev Known : Option Declared → Type 0
  Known o = (x : Declared) → o ≡ Some x → declared_in r x ≡ true

  entity_by : (o : Option Declared) (k : ℕ) → Known o → and_then o (as_entity schema) ≡ Some k → r.entity k ≡ true
  entity_by None k known h = absurd cc
  entity_by (Some (d.Entity j)) k known h = let e : j ≡ k = cc in ap r.entity (sym e) ∙ known (d.Entity j) refl
  entity_by (Some (d.Constant j)) k known h = absurd cc
  entity_by (Some (d.Function j)) k known h = absurd cc
  entity_by (Some (d.Rule j)) k known h = absurd cc
  entity_by (Some (d.Type j)) k known h = absurd cc

  pub entity_in : (n : Name) (k : ℕ) → entity schema n ≡ Ok k → r.entity k ≡ true
  entity_in n k h = entity_by (declared schema n.text) k (declared_by n.text) (meant n _ k h)

  defined_by : (o : Option Declared) (k : ℕ) → Known o → and_then o (as_defined schema) ≡ Some k → r.type k ≡ true
  defined_by None k known h = absurd cc
  defined_by (Some (d.Type j)) k known h = let e : j ≡ k = cc in ap r.type (sym e) ∙ known (d.Type j) refl
  defined_by (Some (d.Constant j)) k known h = absurd cc
  defined_by (Some (d.Function j)) k known h = absurd cc
  defined_by (Some (d.Rule j)) k known h = absurd cc
  defined_by (Some (d.Entity j)) k known h = absurd cc

  pub defined_in : (n : Name) (k : ℕ) → or_undeclared n (and_then (declared schema n.text) (as_defined schema)) ≡ Ok k → r.type k ≡ true
  defined_in n k h = defined_by (declared schema n.text) k (declared_by n.text) (meant n _ k h)

  type_by : (o : Option Declared) (x : TypeName) → Known o → and_then o (as_type schema) ≡ Some x → range.type_name r x ≡ true
  type_by None x known h = absurd cc
  type_by (Some (d.Entity j)) x known h = let e : t.Entity j ≡ x = cc in ap (range.type_name r) (sym e) ∙ known (d.Entity j) refl
  type_by (Some (d.Type j)) x known h = let e : t.Defined j ≡ x = cc in ap (range.type_name r) (sym e) ∙ known (d.Type j) refl
  type_by (Some (d.Constant j)) x known h = absurd cc
  type_by (Some (d.Function j)) x known h = absurd cc
  type_by (Some (d.Rule j)) x known h = absurd cc

  pub type_in : (n : Name) (x : TypeName) → type_name schema n ≡ Ok x → range.type_name r x ≡ true
  type_in n x h = type_by (declared schema n.text) x (declared_by n.text) (meant n _ x h)

  -- ---- attributes

  pub attributes_in : (family : List ℕ) (n : List ℕ) → list_all r.attribute (attributes_of schema family n) ≡ true
  attributes_in family n = all_kept r.attribute (λ a. is_among family a.entity) (named n schema.attributes) (all_named r.attribute n schema.attributes in_range.attributes)

  -- ---- values

  pub meaning_in : (places : List AttributePlace) (x : AttributeMeaning) → list_all r.attribute places ≡ true → meaning_of places ≡ Some x → range.meaning r x ≡ true
  meaning_in [] x h is = absurd cc
  meaning_in (a ∷ []) x h is = let e : m.One a ≡ x = cc in ap (range.meaning r) (sym e) ∙ (and_true (r.attribute a) true h).0
  meaning_in (a ∷ b ∷ others) x h is = let e : m.Several ≡ x = cc in ap (range.meaning r) (sym e)

  attribute_by : (at n : ℕ) (o : Option AttributeMeaning) (y : NamedExpression) → ((x : AttributeMeaning) → o ≡ Some x → range.meaning r x ≡ true)
      → option_map (λ meaning. e.Attribute (record { at = at; meaning = meaning })) o ≡ Some y → range.expression r y n ≡ true
  attribute_by at n None y known is = absurd cc
  attribute_by at n (Some x) y known is =
      let same : e.Attribute (record { at = at; meaning = x }) ≡ y = cc in
      expression_made r (NamedExpression-F.«NamedExpression::Attribute» (record { at = at; meaning = x })) y n (e.rolls-Attribute (record { at = at; meaning = x }) ∙ same) (known x refl)

  variable_by : (n : ℕ) (o : Option ℕ) (y : NamedExpression) → ((k : ℕ) → o ≡ Some k → k < n) → option_map e.Variable o ≡ Some y → range.expression r y n ≡ true
  variable_by n None y known is = absurd cc
  variable_by n (Some slot) y known is =
      let same : e.Variable slot ≡ y = cc in
      expression_made r (NamedExpression-F.Variable slot) y n (e.rolls-Variable slot ∙ same) (below slot n (known slot refl))

  population_if : (b : Bool) (k n : ℕ) (y : NamedExpression) → r.entity k ≡ true → (if b then Some (e.Population k) else None) ≡ Some y → range.expression r y n ≡ true
  population_if true k n y h is = let same : e.Population k ≡ y = cc in expression_made r (NamedExpression-F.Population k) y n (e.rolls-Population k ∙ same) h
  population_if false k n y h is = absurd cc

  value_by : (s : Scope) (at n : ℕ) (o : Option Declared) (y : NamedExpression) → Known o → and_then o (declared_value schema s at) ≡ Some y → range.expression r y n ≡ true
  value_by s at n None y known is = absurd cc
  value_by s at n (Some (d.Constant k)) y known is = let same : e.Constant k ≡ y = cc in expression_made r (NamedExpression-F.Constant k) y n (e.rolls-Constant k ∙ same) (known (d.Constant k) refl)
  value_by s at n (Some (d.Function k)) y known is =
      let same : e.Call k at [] ≡ y = cc in
      expression_made r (NamedExpression-F.Call k at []) y n (e.rolls-Call k at [] ∙ same) (true_and (r.function k) true (known (d.Function k) refl) refl)
  value_by s at n (Some (d.Entity k)) y known is = population_if (is_among s.populations k) k n y (known (d.Entity k) refl) is
  value_by s at n (Some (d.Rule k)) y known is = absurd cc
  value_by s at n (Some (d.Type k)) y known is = absurd cc

  either_in : (a b : Option NamedExpression) (y : NamedExpression) (n : ℕ) → (a ≡ Some y → range.expression r y n ≡ true) → (b ≡ Some y → range.expression r y n ≡ true)
      → or_else a b ≡ Some y → range.expression r y n ≡ true
  either_in None b y n one other h = other h
  either_in (Some x) b y n one other h = one h

  value_in : (s : Scope) (n : Name) (y : NamedExpression) → value schema s n ≡ Some y → range.expression r y (variables_of s) ≡ true
  value_in s n y h =
      let places = attributes_of schema s.family n.text in
      either_in (option_map e.Variable (variable s n.text)) _ y (variables_of s) (variable_by (variables_of s) (variable s n.text) y (variable_below s n.text))
      (either_in (attribute schema s n) _ y (variables_of s)
      (attribute_by n.at (variables_of s) (meaning_of places) y (λ x. meaning_in places x (attributes_in s.family n.text)))
      (value_by s n.at (variables_of s) (declared schema n.text) y (declared_by n.text))) h

  -- ---- items

  item_by : (n : Name) (v : ℕ) (items : List EnumerationItem) (y : NamedExpression) → list_all r.item items ≡ true → item_from schema n items ≡ Ok y → range.expression r y v ≡ true
  item_by n v [] y h is = absurd cc
  item_by n v (i ∷ []) y h is = let same : e.Item i ≡ y = cc in expression_made r (NamedExpression-F.Item i) y v (e.rolls-Item i ∙ same) (and_true (r.item i) true h).0
  item_by n v (i ∷ j ∷ js) y h is = let same : e.AmbiguousItem n.at ≡ y = cc in expression_made r (NamedExpression-F.AmbiguousItem n.at) y v (e.rolls-AmbiguousItem n.at ∙ same) refl

  name_by : (o : Option NamedExpression) (n : Name) (v : ℕ) (y : NamedExpression) → (o ≡ Some y → range.expression r y v ≡ true) → value_or_item schema o n ≡ Ok y → range.expression r y v ≡ true
  name_by (Some x) n v y known h = known cc
  name_by None n v y known h = item_by n v (named n.text schema.items) y (all_named r.item n.text schema.items in_range.items) h

  pub name_in : (s : Scope) (n : Name) (y : NamedExpression) → name schema s n ≡ Ok y → range.expression r y (variables_of s) ≡ true
  name_in s n y h = name_by (value schema s n) n (variables_of s) y (value_in s n y) h

  of_type_by : (v : ℕ) (o : Option EnumerationItem) (y : NamedExpression) → ((i : EnumerationItem) → o ≡ Some i → r.item i ≡ true) → option_map e.Item o ≡ Some y → range.expression r y v ≡ true
  of_type_by v None y known is = absurd cc
  of_type_by v (Some i) y known is = let same : e.Item i ≡ y = cc in expression_made r (NamedExpression-F.Item i) y v (e.rolls-Item i ∙ same) (known i refl)

  of_type_in : (v k : ℕ) (n : Name) (y : NamedExpression) → item_of_type schema k n ≡ Ok y → range.expression r y v ≡ true
  of_type_in v k n y h = of_type_by v (find (λ i. i.type_number == k) (named n.text schema.items)) y
      (λ i. found_in r.item (λ i. i.type_number == k) (named n.text schema.items) i (all_named r.item n.text schema.items in_range.items)) (meant n _ y h)

  enumeration_in : (b : Bool) (type item : Name) (v k : ℕ) (y : NamedExpression) → (if b then item_of_type schema k item else refused Undeclared type.at) ≡ Ok y → range.expression r y v ≡ true
  enumeration_in true type item v k y h = of_type_in v k item y h
  enumeration_in false type item v k y h = absurd cc

  of_declared_in : (v : ℕ) (o : Option ℕ) (type item : Name) (y : NamedExpression) → item_of_declared schema o type item ≡ Ok y → range.expression r y v ≡ true
  of_declared_in v None type item y h = absurd cc
  of_declared_in v (Some k) type item y h = enumeration_in (is_marked schema.enumerations k) type item v k y h

  item_of_in_by : (v : ℕ) (o : Option NamedExpression) (type item : Name) (y : NamedExpression) → item_of_by schema o type item ≡ Ok (Some y) → range.expression r y v ≡ true
  item_of_in_by v (Some x) type item y h = absurd cc
  item_of_in_by v None type item y h =
      let named = and_then (declared schema type.text) (as_defined schema) in
      let found = given_ok Some (item_of_declared schema named type item) (Some y) h in
      let e : found.0 ≡ y = cc in
      of_declared_in v named type item y (found.1.0 ∙ ap Ok e)

  pub item_of_in : (s : Scope) (type item : Name) (y : NamedExpression) → item_of schema s type item ≡ Ok (Some y) → range.expression r y (variables_of s) ≡ true
  item_of_in s type item y h = item_of_in_by (variables_of s) (value schema s type) type item y h

  -- ---- functions

  as_function_by : (o : Option Declared) (k : ℕ) → Known o → and_then o (as_function schema) ≡ Some k → r.function k ≡ true
  as_function_by None k known h = absurd cc
  as_function_by (Some (d.Function j)) k known h = let e : j ≡ k = cc in ap r.function (sym e) ∙ known (d.Function j) refl
  as_function_by (Some (d.Constant j)) k known h = absurd cc
  as_function_by (Some (d.Entity j)) k known h = absurd cc
  as_function_by (Some (d.Rule j)) k known h = absurd cc
  as_function_by (Some (d.Type j)) k known h = absurd cc

  function_in_by : (o : Option ℕ) (places : List AttributePlace) (n : List ℕ) (k : ℕ) → function_by schema o places n ≡ Some k → r.function k ≡ true
  function_in_by None [] n k h = as_function_by (declared schema n) k (declared_by n) h
  function_in_by None (a ∷ others) n k h = absurd cc
  function_in_by (Some slot) places n k h = absurd cc

  pub function_in : (s : Scope) (n : Name) (k : ℕ) → function schema s n ≡ Ok k → r.function k ≡ true
  function_in s n k h = function_in_by (variable s n.text) (attributes_of schema s.family n.text) n.text k (meant n _ k h)

  -- ---- SELF

  itself_by : (b : Bool) (at v : ℕ) (y : NamedExpression) → (if b then Ok e.Itself else refused Undeclared at) ≡ Ok y → range.expression r y v ≡ true
  itself_by true at v y h = let same : e.Itself ≡ y = cc in expression_made r NamedExpression-F.Itself y v (e.rolls-Itself ∙ same) refl
  itself_by false at v y h = absurd cc

  pub itself_in : (s : Scope) (at : ℕ) (y : NamedExpression) → itself s at ≡ Ok y → range.expression r y (variables_of s) ≡ true
  itself_in s at y h = itself_by s.has_self at (variables_of s) y h
