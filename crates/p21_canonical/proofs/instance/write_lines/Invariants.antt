use Rattle.std.proofs.Common.{◌≡◌, ◌++◌, map, drop}
use Rattle.p21_spelling.specs.Instances.{lines}
use Rattle.p21_canonical.specs.Trees.{instance_tree}
use Rattle.p21_canonical.proofs.instance.write_lines.Given as goal

abbrev pub invariant-loop-instance : goal.invariant-loop-instance
invariant-loop-instance l =
    (l.layouts ≡ l.schema)
    × (l.out ++ lines (map (instance_tree l.schema) (drop l.instance-index l.instances)) ≡ l.fn.out ++ lines (map (instance_tree l.schema) l.instances))
