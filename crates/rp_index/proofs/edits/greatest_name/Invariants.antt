use Rattle.std.proofs.Common.{◌≡◌, drop}
use Rattle.rp_rows.specs.Contents as contents
use Rattle.rp_index.proofs.edits.greatest_name.Given as goal

abbrev pub invariant-loop-instance : goal.invariant-loop-instance
invariant-loop-instance l = contents.greatest_name l.greatest (drop l.instance-index l.instances) ≡ contents.greatest_name l.fn.start l.instances
