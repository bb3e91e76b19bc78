use Rattle.std.proofs.Common.{◌≡◌, [], ◌∷◌, ◌++◌, ◌∙◌, ap, Some, arith}
use Rattle.std.specs.BTreeMap.Entry.{map_with_value}
use Rattle.std.proofs.lemmas.Map.Text.{btree_map_updates_str}
use Rattle.std.proofs.lemmas.Slice.Eq.{bytes_eq-Decides}
use Rattle.name_tables.specs.Names.{values_of}
use Rattle.name_tables.proofs.Values.{values_of-update}
use Rattle.name_tables.proofs.rows.put_other.Goals as goal

pub returns-in_err-push-clause-err : goal.returns-in_err-push-clause-err
returns-in_err-push-clause-err g c =
    λ other.
    let written = btree_map_updates_str c.args.name.now c.args.by_name.now (map_with_value c.in_ok-by_name.field-0 c.push.new.self) (Some c.push.new.self) (c.in_ok-by_name.ensures.update.0 c.push.new.self) other in
    let same = (bytes_eq-Decides c.args.name.now other).0 in
    grind (arith, written, same)

pub returns-clause-ok : goal.returns-clause-ok
returns-clause-ok g c =
    let put = map_with_value c.in_ok-by_name.field-0 c.push.new.self in
    let written = btree_map_updates_str c.args.name.now c.args.by_name.now put (Some c.push.new.self) (c.in_ok-by_name.ensures.update.0 c.push.new.self) in
    let stood : c.in_ok-values.values.now.items ≡ values_of c.args.name.now c.args.by_name.now = grind arith in
    let pushed = c.in_ok-push.ensures.items ∙ ap (λ vs. vs ++ c.args.value ∷ []) stood in
    let has = values_of-update c.args.by_name.now put c.args.name.now c.push.new.self (c.args.value ∷ []) written pushed in
    λ other. grind (arith, has other)
