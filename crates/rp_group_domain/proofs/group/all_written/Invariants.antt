use Rattle.std.proofs.Common.{◌≡◌}
use Rattle.rp_group_domain.specs.Models.{written_before}
use Rattle.rp_group_domain.proofs.group.all_written.Given as goal

abbrev pub invariant-loop-at : goal.invariant-loop-at
invariant-loop-at l = record {
  lines : l.lines ≡ l.schema;
  found : l.found.items ≡ written_before l.schema l.population l.models l.at;
}
