use Rattle.std.proofs.Common.{◌≡◌, ◌++◌, drop}
use Rattle.rp_rows.specs.Contents as contents
use Rattle.rp_file_plans.proofs.links.instance_names.Given as goal

abbrev pub invariant-loop-instance : goal.invariant-loop-instance
invariant-loop-instance l = l.names.items ++ contents.names (drop l.instance-index l.instances) ≡ contents.names l.instances
