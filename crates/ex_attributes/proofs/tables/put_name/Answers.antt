use Rattle.std.proofs.Common.{◌≡◌, [], ◌∷◌, ◌++◌, ◌∙◌, ap, Some, arith}
use Rattle.std.specs.BTreeMap.Entry.{map_with_value}
use Rattle.ex_attributes.specs.Tables.{places_at}
use Rattle.ex_attributes.proofs.Updates.{updates_keys, places_at-update}
use Rattle.ex_attributes.proofs.tables.put_name.Goals as goal

pub returns : goal.returns
returns c =
    let name = c.args.name.now in
    let is = c.in_ok-key.ensures.items in
    let put = map_with_value c.in_ok-table.field-0 c.push.new.self in
    let at_key = updates_keys c.in_ok-key.key.items c.args.table.now put (Some c.push.new.self) (c.in_ok-table.ensures.update.0 c.push.new.self) in
    let written = rw is at at_key in
    let stood : c.in_ok-places.places.now.items ≡ places_at name c.args.table.now = grind arith in
    let pushed = c.in_ok-push.ensures.items ∙ ap (λ vs. vs ++ c.args.place ∷ []) stood in
    let has = places_at-update c.args.table.now put name c.push.new.self (c.args.place ∷ []) written pushed in
    λ other. grind (arith, has other)
