use Rattle.std.proofs.Common.{sym, ◌∙◌, ap}
use Rattle.std.proofs.lemmas.Bool.{not-true}
use Rattle.ex_named.specs.declared.expression.NamedDataType.TheVariants as d
use Rattle.rp_operators.proofs.Staying.{stays-Entity, stays-Select}
use Rattle.rp_operators.proofs.ends.name_changes_nothing.Goals as goal

pub returns-in-Entity : goal.returns-in-Entity
returns-in-Entity c = λ _ x. stays-Entity c.args.types.now (d.Named c.args.name) _ x (ap d.Named c.in-Entity.is)

pub returns-in-Select : goal.returns-in-Select
returns-in-Select c = λ none x.
    stays-Select c.args.types.now (d.Named c.args.name) c.in-Defined.number c.in-Select.choices.now x (ap d.Named c.in-Defined.is) c.in-Select.ensures
    (sym c.chooses_aggregates.ensures ∙ not-true c.chooses_aggregates.result none)
