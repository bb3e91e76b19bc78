use Rattle.std.proofs.Common.{arith, Some}
use Rattle.std.specs.BTreeMap.Entry.{map_with_value}
use Rattle.std.proofs.lemmas.Map.Text.{btree_map_updates_str}
use Rattle.std.proofs.lemmas.Slice.Eq.{bytes_eq-Decides}
use Rattle.name_tables.specs.Names.{bytes_of}
use Rattle.name_tables.proofs.Places.{place_of-push, bytes_of-push, length-bytes_of}
use Rattle.name_tables.proofs.NameTable.push.Goals as goal

pub invariant_of-self-2 : goal.invariant_of-self-2
invariant_of-self-2 c =
    λ name.
    let names = c.self.inside.names.items in
    let pushed = bytes_of-push names c.args.name in
    let count = length-bytes_of names in
    let found = place_of-push name c.args.name.now (bytes_of names) in
    let place = c.or_insert.result.now in
    let written = btree_map_updates_str c.args.name.now c.self.inside.first_places (map_with_value c.in_ok-self-inside.field-0 place) (Some place) (c.in_ok-self-inside.ensures.update.0 place) name in
    let same = (bytes_eq-Decides c.args.name.now name).0 in
    grind (arith, written, found, pushed, count, same, c.self.invariant name, c.self.invariant c.args.name.now)
