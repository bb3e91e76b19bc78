use Rattle.std.specs.Option.{option_map}
use Rattle.rp_operators.specs.Ends.{aggregate_type_behind}
use Rattle.rp_operators.proofs.Parts.{inside-scalar}
use Rattle.rp_operators.proofs.declared.+declared.Goals as goal

pub inside-returns-in_default : goal.inside-returns-in_default
inside-returns-in_default t c =
    rw (inside-scalar c.args.types.now (option_map aggregate_type_behind c.args.declared) c.args.value.now c.in_default.not-Agg c.in_default.not-Named) c.copy.ensures
