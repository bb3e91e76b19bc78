use Rattle.std.proofs.Common.{◌≡◌, length}
use Rattle.rp_rules.specs.Layouts.{Lays}
use Rattle.rp_rules.proofs.layouts.layouts_of.Given as goal

abbrev pub invariant-loop-at : goal.invariant-loop-at
invariant-loop-at g l = record {
  many : length l.found.numbers ≡ l.at;
  lays : Lays (g.D.Domain.population l.domain) l.found;
}
