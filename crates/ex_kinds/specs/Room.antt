-- What is kept where kinds are.
use Rattle.std.specs.Prelude.{List, []}
use Rattle.ex_kinds.specs.declared.kind.ValueKind.{ValueKind}
use Rattle.ex_kinds.specs.declared.kinds.Room.{Room}
use Rattle.ex_kinds.specs.declared.kinds.Room.TheVariants as r

abbrev pub kinds_in : Room → List ValueKind
kinds_in r.None = []
kinds_in (r.One kinds) = kinds
kinds_in (r.Two kinds) = kinds
kinds_in (r.Several kinds) = kinds.items
kinds_in (r.Many kinds) = kinds
kinds_in (r.Shared kinds) = kinds
