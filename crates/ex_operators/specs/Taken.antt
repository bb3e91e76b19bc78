-- Built-in functions, calls, qualifiers and QUERY (ISO 10303-11:1994, 12.6 to 12.9 and 15): what they take and give.
use Rattle.std.specs.Prelude.{true, false, ℕ, Bool, not, ◌||◌, ◌&&◌, List, [], ◌∷◌, ◌++◌, Ok, Err, if◌then◌else◌}
use Rattle.ex_tree.specs.declared.expression.BuiltInFunction.{BuiltInFunction}
use Rattle.ex_tree.specs.declared.expression.BuiltInFunction.TheVariants as f
use Rattle.ex_kinds.specs.declared.fault.TypeFaultKind.TheVariants.{EntityComparison, Operand, Arguments, Qualifier}
use Rattle.ex_kinds.specs.declared.kind.Sort.TheVariants as k
use Rattle.ex_kinds.specs.Kinds.{Kinds, itself, joined, elements, aggregate_of}
use Rattle.ex_kinds.specs.Types.{Possible, plain, may_hold_instance}
use Rattle.ex_operators.specs.Fitting.{can_be_integer, can_be_string, can_be_binary, can_be_instance, can_be_aggregate, is_nothing, all_fit, is_integer, possibly}
use Rattle.ex_operators.specs.Operators.{Rule, or_else_fault, logical, kinds_if, aggregate_if}

abbrev pub integer : Kinds
integer = itself k.Integer ∷ []

-- ---- what is taken of strings, binaries and aggregates

abbrev pub indexed_kinds : Kinds → Possible → Kinds
indexed_kinds base p = elements base ++ kinds_if p.string k.String ++ kinds_if p.binary k.Binary

abbrev pub indexed_by : Kinds → Possible → Bool → Rule
indexed_by base p fine = or_else_fault ((can_be_aggregate p || p.string || p.binary) && fine) Qualifier (indexed_kinds base p)

abbrev pub ranged_by : Possible → Bool → Rule
ranged_by p fine = or_else_fault ((can_be_string p || p.binary) && fine) Qualifier (kinds_if (p.string || p.generic) k.String ++ kinds_if (p.binary || p.generic) k.Binary)

-- the instances that use an instance: in a schema without entities they are of no kind
abbrev pub users : Bool → Kinds
users true = aggregate_of (itself k.Instance ∷ [])
users false = aggregate_of []

-- what a function gives whatever its arguments are, in a schema with or without entities
abbrev pub built_in_anyway : Bool → BuiltInFunction → Kinds
built_in_anyway has_entities f.Exists = logical
built_in_anyway has_entities f.Nvl = []
built_in_anyway has_entities f.Odd = logical
built_in_anyway has_entities f.TypeOf = aggregate_of (itself k.String ∷ [])
built_in_anyway has_entities f.UsedIn = users has_entities
built_in_anyway has_entities f.ValueIn = logical
built_in_anyway has_entities _ = integer

module _ (types : List Kinds) where
  -- what the elements of these may be
  unfoldable pub elements_of : Kinds → Kinds
  elements_of kinds = elements (plain types kinds)

  -- ---- built-in functions

  -- the instances that use an instance in a role
  abbrev pub used_in : Bool → Kinds → Kinds → Rule
  used_in has_entities x y = or_else_fault (can_be_instance (possibly types x) && can_be_string (possibly types y)) Arguments (users has_entities)

  -- an aggregate of instances can be searched for no value by `=`
  abbrev pub value_in : Kinds → Rule
  value_in aggregate = if may_hold_instance types (elements_of aggregate) then Err EntityComparison
      else or_else_fault (can_be_aggregate (possibly types aggregate)) Arguments logical

  unfoldable pub built_in : Bool → BuiltInFunction → List Kinds → Rule
  built_in has_entities f.Abs (x ∷ []) = or_else_fault (can_be_integer (possibly types x)) Arguments integer
  built_in has_entities f.BLength (x ∷ []) = or_else_fault (can_be_binary (possibly types x)) Arguments integer
  built_in has_entities f.Exists (x ∷ []) = Ok logical
  built_in has_entities f.HiIndex (x ∷ []) = or_else_fault (can_be_aggregate (possibly types x)) Arguments integer
  built_in has_entities f.Length (x ∷ []) = or_else_fault (can_be_string (possibly types x)) Arguments integer
  built_in has_entities f.LoIndex (x ∷ []) = or_else_fault (can_be_aggregate (possibly types x)) Arguments integer
  built_in has_entities f.Nvl (x ∷ y ∷ []) = Ok (joined x y)
  built_in has_entities f.Odd (x ∷ []) = or_else_fault (can_be_integer (possibly types x)) Arguments logical
  built_in has_entities f.SizeOf (x ∷ []) = or_else_fault (can_be_aggregate (possibly types x)) Arguments integer
  built_in has_entities f.TypeOf (x ∷ []) = Ok (aggregate_of (itself k.String ∷ []))
  built_in has_entities f.UsedIn (x ∷ y ∷ []) = used_in has_entities x y
  built_in has_entities f.ValueIn (x ∷ y ∷ []) = value_in x
  built_in has_entities _ _ = Err Arguments

  -- ---- functions of the schema

  unfoldable pub called : List Kinds → Kinds → List Kinds → Rule
  called parameters result arguments = or_else_fault (all_fit types arguments parameters) Arguments result

  -- ---- qualifiers

  -- `base[index]`
  unfoldable pub indexed : Kinds → Kinds → Rule
  indexed base index = indexed_by (plain types base) (possibly types base) (is_integer types index)

  -- `base[low:high]`
  unfoldable pub ranged : Kinds → Kinds → Kinds → Rule
  ranged base low high = ranged_by (possibly types base) (is_integer types low && is_integer types high)

  -- `base\entity`
  unfoldable pub grouped : Kinds → ℕ → Rule
  grouped base entity = or_else_fault (can_be_instance (possibly types base)) Qualifier (itself (k.Entity entity) ∷ [])

  -- ---- QUERY

  -- what it gives over this source: an aggregate of its elements, and nothing is known over `?`
  unfoldable pub queried : Kinds → Rule
  queried source = or_else_fault (can_be_aggregate (possibly types source)) Operand
      (aggregate_if (not (is_nothing (possibly types source))) (elements_of source))
