-- The kinds of values, by which declared types are checked.
use Rattle.std.specs.Prelude.{ℕ, zero, suc, Bool, true, false, ◌==◌}
use Rattle.ex_kinds.specs.Kinds.{of_type}
use Rattle.ex_kinds.specs.Types.{of_types, some_plain}
use Rattle.ex_kinds.specs.declared.kind.Sort.{Sort}
use Rattle.ex_kinds.specs.declared.kind.Sort.TheVariants as k
use Rattle.ex_kinds.specs.declared.kind.ValueKind.{ValueKind}
use Rattle.ex_named.specs.declared.expression.NamedDataType.{NamedDataType}
use Rattle.ex_schemas.specs.Schemas.{Checked}
use Rattle.rp_meaning.specs.Bare.{bare}
use Rattle.rp_value.specs.declared.value.Value.{Value, out-Value}
use Rattle.rp_value.specs.declared.value.Value.TheOpen.{Value-F}

-- whether a value is of a sort: an INTEGER is a REAL as well, any instance is one of each entity, and any value is GENERIC
abbrev pub is_of_sort : Sort → Value-F Value → Bool
is_of_sort k.Integer (Value-F.Int n) = true
is_of_sort k.Real (Value-F.Int n) = true
is_of_sort k.Real (Value-F.Dec d) = true
is_of_sort k.String (Value-F.Str text) = true
is_of_sort k.Binary (Value-F.Bin bits) = true
is_of_sort k.Logical (Value-F.Log x) = true
is_of_sort (k.Enumeration n) (Value-F.Item enumeration place) = enumeration == n
is_of_sort (k.Entity n) (Value-F.Inst place) = true
is_of_sort k.Instance (Value-F.Inst place) = true
is_of_sort k.Aggregate (Value-F.Agg kind elements) = true
is_of_sort k.Generic x = true
is_of_sort _ _ = false

-- kinds at a depth are those of elements
abbrev pub is_of_kind_at : ℕ → Sort → Value-F Value → Bool
is_of_kind_at zero sort x = is_of_sort sort x
is_of_kind_at (suc depth) sort x = false

-- whether a value, without the defined types that it carries, is of a kind
abbrev pub is_of_kind : Value → ValueKind → Bool
is_of_kind x kind = is_of_kind_at kind.depth kind.sort (out-Value (bare x))

-- whether it is of one of the kinds of a type, where each defined type stands for what it is
abbrev pub is_of_type : Checked → NamedDataType → Value → Bool
is_of_type schema data_type x = some_plain (of_types schema.named.schema.types) (is_of_kind x) (of_type data_type)
