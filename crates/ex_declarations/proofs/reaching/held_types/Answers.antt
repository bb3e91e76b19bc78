use Rattle.std.proofs.Common.{sym, ◌∙◌, ap}
use Rattle.std.specs.List.{filter_map}
use Rattle.std.proofs.lemmas.Result.{IfOk-weaker}
use Rattle.ex_named.specs.Scopes.{declared, as_defined, and_then}
use Rattle.ex_declarations.specs.Declared as spec
use Rattle.ex_declarations.proofs.Selected.{selected}
use Rattle.ex_declarations.proofs.reaching.held_types.Goals as goal

pub returns-in-Select : goal.returns-in-Select
returns-in-Select c =
    let schema = c.args.declarations.now in
    IfOk-weaker c.types_of.result _ _
    (λ found is.
    is
    ∙ ap (filter_map (λ n. and_then (declared schema n.text) (as_defined schema))) c.as_slice.ensures
    ∙ selected schema c.in-Select.names
    ∙ sym (ap (spec.held_types schema) c.in-Select.is))
    c.types_of.ensures
