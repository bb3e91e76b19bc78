use Rattle.std.proofs.Common.{◌≡◌, ◌++◌, map}
use Rattle.rp_meaning.specs.Reading.{instance_of}
use Rattle.rp_domain.proofs.read.kept_instances.Given as goal

abbrev pub invariant-loop-instance : goal.invariant-loop-instance
invariant-loop-instance l = record {
  combinations : l.combinations ≡ l.schema;
  readings : l.readings ≡ (l.schema, l.count);
  found : l.found ++ map (λ i. instance_of l.schema l.count i.entities i.values) l.instance-iterator.rest.items ≡ map (λ i. instance_of l.schema l.count i.entities i.values) l.fn.instances.items;
}
