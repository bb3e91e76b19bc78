use Rattle.std.proofs.Common.{◌≡◌, ◌++◌, map, drop, option_map}
use Rattle.ex_layouts.specs.Entities.{entity_spelled}
use Rattle.p21_values.specs.Taking.{all_there}
use Rattle.p21_mappings.proofs.parts.entities_of.Given as goal

abbrev pub invariant-loop-part : goal.invariant-loop-part
invariant-loop-part l = record {
  same : l.layouts ≡ l.fn.layouts;
  found :
      option_map (λ ns. l.entities.items ++ ns) (all_there (map (λ r. entity_spelled l.fn.layouts r.keyword) (drop l.part-index l.parts)))
      ≡ all_there (map (λ r. entity_spelled l.fn.layouts r.keyword) l.parts);
}
