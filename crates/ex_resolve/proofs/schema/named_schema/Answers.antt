use Rattle.std.proofs.Common.{subst}
use Rattle.ex_named.specs.Outcomes.{Binds}
use Rattle.ex_resolve.specs.Schemas.{named_schema, schema_parts}
use Rattle.ex_resolve.proofs.Bound.{all_of_schema}
use Rattle.ex_resolve.proofs.schema.named_schema.Goals as goal

pub returns : goal.returns
unfolding named_schema
returns c =
    let all = c.both-parts.ensures _ _ c.names_once-names.ensures c.all_bound-all.ensures in
    c.made.ensures (schema_parts c.args.schema) (subst (λ o. Binds c.both-parts.result o) (all_of_schema c.args.schema c.args.declarations.now c.requires.declared) all)
