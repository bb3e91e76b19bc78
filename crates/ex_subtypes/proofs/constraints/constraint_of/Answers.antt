use Rattle.std.proofs.Common.{◌++◌, ◌∙◌, ap}
use Rattle.ex_subtypes.specs.Combinations.{is_distinct}
use Rattle.ex_subtypes.specs.Nodes.{placed}
use Rattle.ex_subtypes.proofs.Placed.{same_named}
use Rattle.ex_subtypes.proofs.constraints.constraint_of.Goals as goal

pub new-requires : goal.new-requires
new-requires c =
    let x = c.args.expression.now in
    ap is_distinct (c.in_ok-node.ensures.named ∙ ap (λ l. l ++ (placed x).named) c.new-named.ensures.items ∙ same_named x) ∙ c.requires
