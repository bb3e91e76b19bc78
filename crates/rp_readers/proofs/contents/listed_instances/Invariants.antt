use Rattle.std.proofs.Common.{◌≡◌, take, map}
use Rattle.rp_plain.specs.Lists.{named}
use Rattle.rp_readers.proofs.contents.listed_instances.Given as goal

abbrev pub invariant-loop-instance : goal.invariant-loop-instance
invariant-loop-instance l = l.rows.items ≡ map (named l.fn.schema) (take l.instance-index l.instances)
