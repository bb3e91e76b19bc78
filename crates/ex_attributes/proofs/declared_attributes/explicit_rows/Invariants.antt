use Rattle.std.proofs.Common.{◌≡◌, ◌++◌, drop}
use Rattle.std.specs.List.{flat_map}
use Rattle.ex_attributes.specs.Attributes as spec
use Rattle.ex_attributes.specs.Steps.{rows_of}
use Rattle.ex_attributes.proofs.declared_attributes.explicit_rows.Given as goal

abbrev pub invariant-loop-explicit : goal.invariant-loop-explicit
invariant-loop-explicit l = rows_of l.rows.items ++ flat_map spec.explicit_names (drop l.explicit-index l.list) ≡ flat_map spec.explicit_names l.list
