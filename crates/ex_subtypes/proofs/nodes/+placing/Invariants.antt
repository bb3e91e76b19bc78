use Rattle.std.proofs.Common.{◌≡◌, ◌++◌, drop, length, map}
use Rattle.ex_subtypes.specs.Nodes as spec
use Rattle.ex_subtypes.proofs.nodes.+placing.Given as goal

abbrev pub invariant-joined_node-loop-part : goal.invariant-joined_node-loop-part
invariant-joined_node-loop-part l = record {
  named : l.named.items ++ spec.all_named (map spec.placed (drop l.part-index l.parts)) ≡ l.fn.named.items ++ spec.all_named (map spec.placed l.parts);
  ends : l.ends.items ++ spec.ends_from (length l.named.items) (map spec.placed (drop l.part-index l.parts)) ≡ spec.ends_from (length l.fn.named.items) (map spec.placed l.parts);
  nodes : l.nodes.items ++ spec.nodes_from (length l.named.items) (map spec.placed (drop l.part-index l.parts)) ≡ spec.nodes_from (length l.fn.named.items) (map spec.placed l.parts);
}
