use Rattle.ex_selects.specs.Kept.{IsTable}
use Rattle.ex_selects.proofs.kept.all_kept.Given as goal

abbrev pub invariant-loop-number : goal.invariant-loop-number
invariant-loop-number l = IsTable l.graph l.sorts l.class l.all.items
