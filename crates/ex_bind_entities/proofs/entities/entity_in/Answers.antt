use Rattle.std.proofs.Common.{◌≡◌, Ok, refl, rules}
use Rattle.ex_named.specs.Outcomes.{Binds, both}
use Rattle.ex_bind_entities.specs.Entities.{entity_names}
use Rattle.ex_bind_entities.specs.Wholes.{entity_parts}
use Rattle.ex_bind_entities.proofs.Parts.{entity_by}
use Rattle.ex_bind_entities.proofs.entities.entity_in.Goals as goal

pub returns-in_err-head : goal.returns-in_err-head
returns-in_err-head c =
    let schema = c.args.context.now.declarations.now in
    let graph = c.args.context.now.supertypes.now in
    let number = c.args.context.now.entity in
    let entity = c.args.entity.now in
    let all : Binds c.both.result (both (entity_names schema graph number entity.body) (entity_parts schema graph number entity)) =
    c.both.ensures (entity_names schema graph number entity.body) (entity_parts schema graph number entity) c.entity_names-names.ensures c.entity_parts-parts.ensures in
    rw (entity_by schema graph number entity) (search rules)

pub returns : goal.returns
returns c =
    let schema = c.args.context.now.declarations.now in
    let graph = c.args.context.now.supertypes.now in
    let number = c.args.context.now.entity in
    let entity = c.args.entity.now in
    let all : Binds c.both.result (both (entity_names schema graph number entity.body) (entity_parts schema graph number entity)) =
    c.both.ensures (entity_names schema graph number entity.body) (entity_parts schema graph number entity) c.entity_names-names.ensures c.entity_parts-parts.ensures in
    let found : both (entity_names schema graph number entity.body) (entity_parts schema graph number entity) ≡ Ok (c.in_ok-head.field-0-0, (c.in_ok-head.head, (c.in_ok-head.attributes, c.in_ok-head.rules))) =
    rw c.in_ok-head.was at all in
    rw (entity_by schema graph number entity, found, c.in_ok-name.ensures) refl
