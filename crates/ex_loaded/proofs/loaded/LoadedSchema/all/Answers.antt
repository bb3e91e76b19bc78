use Rattle.std.proofs.Common.{◌<◌, length, arith}
use Rattle.std.proofs.lemmas.List.{take_more}
use Rattle.ex_loaded.proofs.loaded.LoadedSchema.all.Goals as goal

pub loop-schema-preserved : goal.loop-schema-preserved
loop-schema-preserved c =
    let schemas = c.args.schemas.now in
    let i = c.loop-schema.schema-index in
    let within : i < length schemas = omega arith in
    let more = take_more schemas i c.schema-item.result within in
    grind (arith, more, c.in_ok-push.ensures.items, c.in_ok-of.ensures, c.loop-schema.invariant, c.schema-item.is)
