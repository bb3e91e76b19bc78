use Rattle.std.proofs.Common.{◌≡◌, Bool, true, false, Option, Some, None, refl, ◌∙◌, ap}
use Rattle.std.specs.Prelude.{◌||◌, if◌then◌else◌}
use Rattle.std.specs.List.{find}
use Rattle.rp_rows.specs.Rows.{Text, GroupRow, is_row, key_of}
use Rattle.rp_rows.specs.Sight.{owns, is_granted, sees_group, group_right}
use Rattle.rp_plain.specs.Readers.{group_right_at}
use Rattle.sorted_tables.proofs.Searching.{chosen}
use Rattle.rp_access.specs.Changes.{right_on_group}
use Rattle.rp_readers.specs.Told.{told}
use Rattle.rp_readers.proofs.Looking.{seen_found}
use Rattle.rp_readers.proofs.readers.Readers.right_on_group.Goals as goal

right_told : (who : Text) (o : Option GroupRow) → right_on_group who o ≡ group_right_at who (chosen (sees_group who) o)
right_told who None = refl
right_told who (Some g) = by (owns who g) refl (is_granted who g) refl
  where
    by : (t : Bool) → owns who g ≡ t → (u : Bool) → is_granted who g ≡ u → group_right who g ≡ group_right_at who (if t || u then Some g else None)
    by true e u f = refl
    by false e true f = refl
    by false e false f = rw e (rw f refl)

pub returns : goal.returns
unfolding told
returns c =
    let gs = c.args.self.now.access.now.groups.rows in
    let who = c.args.self.now.caller.now in
    let k = key_of c.args.owner.now c.args.name.now in
    c.right_on_group.ensures.right
    ∙ right_told who (find (is_row k) gs)
    ∙ ap (group_right_at who) (seen_found k (sees_group who) gs (find (is_row k) gs) c.right_on_group.ensures.order refl)
