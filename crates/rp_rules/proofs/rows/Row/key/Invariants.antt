use Rattle.std.proofs.Common.{◌≡◌, drop}
use Rattle.rp_rules.specs.Buckets.{with_values}
use Rattle.rp_rules.proofs.rows.Row.key.Given as goal

abbrev pub invariant-loop-value : goal.invariant-loop-value
invariant-loop-value l = with_values l.key (drop l.value-index l.value-items) ≡ with_values 0 l.self.values
