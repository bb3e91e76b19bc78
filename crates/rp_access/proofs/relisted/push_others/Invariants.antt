use Rattle.std.proofs.Common.{◌≡◌, ◌++◌, take}
use Rattle.rp_store.specs.Entries.{without_name}
use Rattle.rp_access.proofs.relisted.push_others.Given as goal

abbrev pub invariant-loop-other : goal.invariant-loop-other
invariant-loop-other l = l.out.items ≡ l.fn.out.items ++ without_name l.name (take l.other-index l.names)
