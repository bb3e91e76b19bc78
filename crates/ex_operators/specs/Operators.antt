-- Operators (ISO 10303-11:1994, 12.1 to 12.5): what they take, and what they give.
use Rattle.std.specs.Prelude.{Bool, true, false, not, ◌||◌, ◌&&◌, List, [], ◌∷◌, ◌++◌, Result, Ok, Err, Option, Some, None, if◌then◌else◌}
use Rattle.std.specs.List.{list_any}
use Rattle.ex_tree.specs.declared.expression.BinaryOperator.{BinaryOperator}
use Rattle.ex_tree.specs.declared.expression.BinaryOperator.TheVariants as b
use Rattle.ex_tree.specs.declared.expression.UnaryOperator.{UnaryOperator}
use Rattle.ex_tree.specs.declared.expression.UnaryOperator.TheVariants as u
use Rattle.ex_tree.specs.declared.expression.IntervalOperator.{IntervalOperator}
use Rattle.ex_tree.specs.declared.expression.IntervalOperator.TheVariants as i
use Rattle.ex_kinds.specs.declared.fault.TypeFaultKind.{TypeFaultKind}
use Rattle.ex_kinds.specs.declared.fault.TypeFaultKind.TheVariants.{RealArithmetic, EntityComparison, Operand}
use Rattle.ex_kinds.specs.declared.kind.Sort.{Sort}
use Rattle.ex_kinds.specs.declared.kind.Sort.TheVariants as k
use Rattle.ex_kinds.specs.Kinds.{Kinds, itself, joined, elements, apart, aggregate_of}
use Rattle.ex_kinds.specs.Types.{Possible, plain, possible, may_hold_instance}
use Rattle.ex_operators.specs.Fitting.{is_open, can_be_integer, can_be_logical, can_be_aggregate, are_integers, are_strings, are_binaries, are_logicals, are_aggregates, are_ordered, are_comparable, possibly}

-- what a rule says: the kinds of the result, or what is wrong
abbrev pub Rule : Type 0
Rule = Result Kinds TypeFaultKind

abbrev pub or_else_fault : Bool → TypeFaultKind → Kinds → Rule
or_else_fault fine fault kinds = if fine then Ok kinds else Err fault

abbrev pub logical : Kinds
logical = itself k.Logical ∷ []

abbrev pub kinds_if : Bool → Sort → Kinds
kinds_if true sort = itself sort ∷ []
kinds_if false sort = []

-- ---- arithmetic: none on what may be REAL

abbrev pub may_be_real : Possible → Bool
may_be_real p = p.real || p.generic

abbrev pub arithmetic : Possible → Possible → Bool → Kinds → Rule
arithmetic p q fine kinds = if may_be_real p || may_be_real q then Err RealArithmetic else or_else_fault fine Operand kinds

-- INTEGER, where both may be; nothing where one is `?`
abbrev pub integers : Possible → Possible → Kinds
integers p q = kinds_if (p.integer && q.integer) k.Integer

-- an aggregate of these elements, where there is one
abbrev pub aggregate_if : Bool → Kinds → Kinds
aggregate_if true elements = aggregate_of elements
aggregate_if false elements = []

abbrev pub if_any : Bool → Kinds → Kinds
if_any true kinds = kinds
if_any false kinds = []

-- the elements of a sum: those of both aggregates, or of one and the element
abbrev pub summed : Kinds → Kinds → Possible → Possible → Kinds
summed l r p q = joined (joined (joined (elements l) (elements r)) (if_any p.aggregate (apart r))) (if_any q.aggregate (apart l))

-- of an aggregate, and something that is not `?`
abbrev pub sums_elements : Possible → Possible → Bool
sums_elements p q = (p.aggregate && not (is_open q)) || (not (is_open p) && q.aggregate)

abbrev pub sum_aggregate : Kinds → Kinds → Possible → Possible → Kinds
sum_aggregate l r p q = aggregate_if (sums_elements p q) (summed l r p q)

-- strings and binaries are put together
abbrev pub sum_texts : Possible → Possible → Kinds
sum_texts p q = kinds_if (p.string && q.string) k.String ++ kinds_if (p.binary && q.binary) k.Binary

abbrev pub sum_kinds : Kinds → Kinds → Possible → Possible → Kinds
sum_kinds l r p q = integers p q ++ sum_texts p q ++ sum_aggregate l r p q

abbrev pub sum : Kinds → Kinds → Possible → Possible → Rule
sum l r p q = arithmetic p q (are_integers p q || are_strings p q || are_binaries p q || can_be_aggregate p || can_be_aggregate q) (sum_kinds l r p q)

-- the elements of the left that are left
abbrev pub difference : Kinds → Possible → Possible → Rule
difference l p q = arithmetic p q (are_integers p q || can_be_aggregate p)
    (integers p q ++ aggregate_if (p.aggregate && not (is_open q)) (elements l))

abbrev pub product : Kinds → Possible → Possible → Rule
product l p q = arithmetic p q (are_integers p q || are_aggregates p q)
    (integers p q ++ aggregate_if (p.aggregate && q.aggregate) (elements l))

abbrev pub whole : Possible → Possible → Rule
whole p q = arithmetic p q (are_integers p q) (integers p q)

-- ---- intervals

-- each of the two comparisons
abbrev pub comparison : IntervalOperator → BinaryOperator
comparison i.Less = b.Less
comparison i.LessEqual = b.LessEqual

-- ---- operators on one operand

abbrev pub signed : Possible → Rule
signed p = if may_be_real p then Err RealArithmetic else or_else_fault (can_be_integer p) Operand (kinds_if p.integer k.Integer)

abbrev pub unary_by : UnaryOperator → Possible → Rule
unary_by u.Plus p = signed p
unary_by u.Minus p = signed p
unary_by u.Not p = or_else_fault (can_be_logical p) Operand logical

-- ---- what an operator gives whatever stands beside it: a comparison is LOGICAL even where it is refused

abbrev pub binary_anyway : BinaryOperator → Kinds
binary_anyway b.Power = []
binary_anyway b.Multiply = []
binary_anyway b.Divide = []
binary_anyway b.Div = []
binary_anyway b.Mod = []
binary_anyway b.Add = []
binary_anyway b.Subtract = []
binary_anyway _ = logical

abbrev pub unary_anyway : UnaryOperator → Kinds
unary_anyway u.Not = logical
unary_anyway _ = []

-- ---- operators on two operands whose kinds are plain

module _ (types : List Kinds) where
  -- `=` and `<>` compare no instances of entities
  abbrev pub equality : Kinds → Kinds → Possible → Possible → Rule
  equality l r p q = if may_hold_instance types l || may_hold_instance types r then Err EntityComparison
      else or_else_fault (are_comparable p q) Operand logical

  abbrev pub binary_by : BinaryOperator → Kinds → Kinds → Possible → Possible → Rule
  binary_by b.Power l r p q = whole p q
  binary_by b.Multiply l r p q = product l p q
  binary_by b.Divide l r p q = Err RealArithmetic
  binary_by b.Div l r p q = whole p q
  binary_by b.Mod l r p q = whole p q
  binary_by b.And l r p q = or_else_fault (are_logicals p q) Operand logical
  binary_by b.Add l r p q = sum l r p q
  binary_by b.Subtract l r p q = difference l p q
  binary_by b.Or l r p q = or_else_fault (are_logicals p q) Operand logical
  binary_by b.Xor l r p q = or_else_fault (are_logicals p q) Operand logical
  binary_by b.Less l r p q = or_else_fault (are_ordered p q) Operand logical
  binary_by b.Greater l r p q = or_else_fault (are_ordered p q) Operand logical
  binary_by b.LessEqual l r p q = or_else_fault (are_comparable p q) Operand logical
  binary_by b.GreaterEqual l r p q = or_else_fault (are_comparable p q) Operand logical
  binary_by b.NotEqual l r p q = equality l r p q
  binary_by b.Equal l r p q = equality l r p q
  binary_by b.InstanceNotEqual l r p q = Ok logical
  binary_by b.InstanceEqual l r p q = Ok logical
  binary_by b.In l r p q = or_else_fault (can_be_aggregate q) Operand logical

  abbrev pub binary_plain : BinaryOperator → Kinds → Kinds → Rule
  binary_plain operator l r = binary_by operator l r (possible l) (possible r)

  unfoldable pub binary : BinaryOperator → Kinds → Kinds → Rule
  binary operator l r = binary_plain operator (plain types l) (plain types r)

  unfoldable pub unary : UnaryOperator → Kinds → Rule
  unary operator kinds = unary_by operator (possibly types kinds)

  -- ---- CASE: `=` of the selector with each label

  abbrev pub case_by : Kinds → List Kinds → Option TypeFaultKind
  case_by selector labels = if may_hold_instance types selector || list_any (may_hold_instance types) labels then Some EntityComparison
      else (if list_any (λ label. not (are_comparable (possibly types selector) (possibly types label))) labels then Some Operand else None)

  unfoldable pub case_fault : Kinds → List Kinds → Option TypeFaultKind
  case_fault selector labels = case_by selector labels
