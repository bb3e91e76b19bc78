use Rattle.std.proofs.Common.{◌≡◌, ◌∙◌, ap}
use Rattle.ex_declarations.specs.Declared.{declarations, entities, supertype_graph}
use Rattle.ex_resolve.proofs.Cycles.{resolved_by}
use Rattle.ex_resolve.proofs.schema.named.Goals as goal

pub new-requires-clause-resolved : goal.new-requires-clause-resolved
new-requires-clause-resolved c =
    let graph : c.in_ok-supertypes.supertypes ≡ supertype_graph (declarations c.args.schema) (entities c.args.schema) =
    c.in_ok-supertypes.ensures ∙ ap (λ d. supertype_graph d (entities c.args.schema)) c.requires in
    rw graph (resolved_by c.args.schema c.in_ok-found.found c.in_ok-found.ensures)
