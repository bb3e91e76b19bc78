use Rattle.rp_faults.proofs.Aggregates.{no-elements}
use Rattle.rp_faults.proofs.keys.+aggregate_key.Goals as goal

pub returns-in_default : goal.returns-in_default
returns-in_default t c = no-elements c.args.value.now c.in_default.not-Agg c.in_default.not-Named
