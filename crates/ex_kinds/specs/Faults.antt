-- The faults of types, and which of them is told: the one of least offset.
use Rattle.std.specs.Prelude.{ℕ, Bool, nat_lt, ◌==◌, ◌&&◌, ◌||◌, [], Option, Some, None, Result, Ok, Err, if◌then◌else◌}
use Rattle.ex_kinds.specs.declared.fault.TypeFault.{TypeFault}
use Rattle.ex_kinds.specs.declared.fault.TypeFaultKind.{TypeFaultKind}
use Rattle.ex_kinds.specs.declared.fault.TypeFaultKind.TheVariants.{RealArithmetic, EntityComparison, Operand, Arguments, Assign, Qualifier, Ambiguous}
use Rattle.ex_kinds.specs.declared.typed.Typed.{Typed}
use Rattle.ex_kinds.specs.Kinds.{Kinds}

-- the order of faults at one offset
abbrev pub rank : TypeFaultKind → ℕ
rank RealArithmetic = 0
rank EntityComparison = 1
rank Operand = 2
rank Arguments = 3
rank Assign = 4
rank Qualifier = 5
rank Ambiguous = 6

abbrev pub precedes : TypeFault → TypeFault → Bool
precedes f g = nat_lt f.at g.at || ((f.at == g.at) && nat_lt (rank f.kind) (rank g.kind))

abbrev pub lesser : TypeFault → TypeFault → TypeFault
lesser f g = if precedes g f then g else f

-- of two parts the fault that is told
abbrev pub either : Option TypeFault → Option TypeFault → Option TypeFault
either None g = g
either (Some f) None = Some f
either (Some f) (Some g) = Some (lesser f g)

abbrev pub fault_at : TypeFaultKind → ℕ → Option TypeFault
fault_at kind at = Some (record { kind = kind; at = at })

-- ---- what is said of an expression: what its value may be, and its fault

abbrev pub fine : Kinds → Typed
fine kinds = record { kinds = kinds; fault = None }

-- what is refused has no kinds, so that it brings no further fault
abbrev pub refused : TypeFaultKind → ℕ → Typed
refused kind at = record { kinds = []; fault = fault_at kind at }

-- what a rule says of an operator, a call or a qualifier that stands there
abbrev pub ruled : ℕ → Result Kinds TypeFaultKind → Typed
ruled at (Ok kinds) = fine kinds
ruled at (Err kind) = refused kind at

-- the same, behind the fault of a part
abbrev pub behind : Option TypeFault → Typed → Typed
behind fault typed = record { kinds = typed.kinds; fault = either fault typed.fault }
