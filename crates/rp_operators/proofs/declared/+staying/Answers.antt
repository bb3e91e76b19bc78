use Rattle.std.specs.Option.{option_map}
use Rattle.rp_operators.specs.Ends.{aggregate_type_behind}
use Rattle.rp_operators.proofs.Parts.{inside-scalar}
use Rattle.rp_operators.proofs.Staying.{all_stay}
use Rattle.rp_operators.proofs.declared.+staying.Goals as goal

pub inside_stays-returns-in_default : goal.inside_stays-returns-in_default
inside_stays-returns-in_default t c =
    λ _. inside-scalar c.args.types.now (option_map aggregate_type_behind c.args.declared) c.args.value.now c.in_default.not-Agg c.in_default.not-Named

pub all_stay-returns-then-changes_nothing : goal.all_stay-returns-then-changes_nothing
all_stay-returns-then-changes_nothing t c = λ _. all_stay c.args.types.now c.args.data_type.now (c.changes_nothing.ensures c.if-changes_nothing.true) c.args.values.now
