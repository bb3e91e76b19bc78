use Rattle.std.proofs.Common.{◌≡◌, ◌++◌, map, drop}
use Rattle.rp_group_domain.specs.Models.{written}
use Rattle.rp_group_domain.proofs.group.push_written.Given as goal

abbrev pub invariant-loop-place : goal.invariant-loop-place
invariant-loop-place l = record {
  lines : l.lines ≡ l.initial.lines;
  written : l.found.items ++ map (written l.initial.lines l.names) (drop l.place l.instances) ≡ l.initial.found.items ++ map (written l.initial.lines l.names) l.instances;
}
