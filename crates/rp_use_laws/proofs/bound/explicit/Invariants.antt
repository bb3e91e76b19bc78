use Rattle.std.proofs.Common.{◌≡◌, drop}
use Rattle.std.specs.List.{list_all}
use Rattle.rp_use_laws.specs.Schemas.{is_explicit_identified}
use Rattle.rp_use_laws.proofs.bound.explicit.Given as goal

abbrev pub invariant-loop-declared : goal.invariant-loop-declared
invariant-loop-declared l = list_all is_explicit_identified (drop l.declared-index l.explicit) ≡ list_all is_explicit_identified l.explicit
