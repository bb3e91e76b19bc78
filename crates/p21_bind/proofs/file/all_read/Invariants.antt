use Rattle.std.proofs.Common.{◌≡◌, ◌++◌, true, false, length, reverse}
use Rattle.plain_data.specs.Numbers.{is_among}
use Rattle.p21_instances.specs.Instances.{has_twice, names}
use Rattle.p21_instances.proofs.SortedNames.{is_one}
use Rattle.p21_bind.specs.Files as spec
use Rattle.p21_bind.proofs.file.all_read.Given as goal

abbrev pub decreases-instances : goal.decreases-instances
decreases-instances l = length l.rest.items

abbrev pub invariant-instances : goal.invariant-instances
invariant-instances l = record {
  layouts : l.layouts ≡ l.fn.layouts;
  once : l.are_distinct ≡ true → has_twice is_one (names (reverse l.rest.items)) ≡ false;
  read :
      spec.behind l.found.items (spec.instances_after l.fn.layouts (is_among (l.names ++ l.linked)) (is_among l.before.keys) (reverse l.rest.items))
      ≡ spec.instances_after l.fn.layouts (is_among (l.names ++ l.linked)) (λ n. false) (reverse l.fn.reversed.items);
}
