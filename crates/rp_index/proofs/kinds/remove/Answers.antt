use Rattle.std.proofs.Common.{◌<◌, length, refl, arith}
use Rattle.rp_index.specs.declared.kinds.Kind.{Kind}
use Rattle.rp_index.proofs.Entries.{kind_keeps}
use Rattle.rp_index.proofs.kinds.remove.Goals as goal

pub returns-then-index-entity : goal.returns-then-index-entity
returns-then-index-entity c =
    let kinds = c.args.kinds.now.items in
    let place = c.place_of-place.result in
    let k : Kind = c.index_mut.result.now in
    let l : Kind = record { entity = k.entity; names = c.remove_name.new.names } in
    let within : place < length kinds = omega (arith, c.if-place-len.true, c.len.ensures, c.args.kinds.now.ok.0) in
    kind_keeps c.args.name kinds place k l within c.index_mut.ensures.value refl c.remove_name.ensures
