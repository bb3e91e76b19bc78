use Rattle.std.proofs.Common.{IsTrue}
use Rattle.ancestors.specs.Labels as spec
use Rattle.ancestors.proofs.told.leads_up.Given as goal

abbrev pub invariant-loop : goal.invariant-loop
invariant-loop l = IsTrue (spec.is_up l._graph l.from l.at)
