use Rattle.std.proofs.Common.{◌≡◌, List, Option, Some, None, refl, ◌∙◌, ap, sym}
use Rattle.std.specs.List.{find}
use Rattle.rp_rows.specs.Rows.{Text, Model, GroupRow, is_row, key_of}
use Rattle.rp_rows.specs.Sight.{sees}
use Rattle.rp_plain.specs.Readers.{right_at}
use Rattle.sorted_tables.proofs.Searching.{chosen}
use Rattle.rp_access.specs.Changes.{right_on_model}
use Rattle.rp_readers.specs.Told.{told}
use Rattle.rp_readers.proofs.Looking.{seen_found, right_there}
use Rattle.rp_readers.proofs.readers.Readers.right_on_model.Goals as goal

right_told : (gs : List GroupRow) (who : Text) (o : Option Model) → right_on_model gs who o ≡ right_at gs who (chosen (sees gs who) o)
right_told gs who None = refl
right_told gs who (Some m) = sym (right_there gs who m)

pub returns : goal.returns
unfolding told
returns c =
    let gs = c.args.self.now.access.now.groups.rows in
    let who = c.args.self.now.caller.now in
    let k = key_of c.args.owner.now c.args.name.now in
    let rows = c.args.self.now.models.now.rows in
    c.right_on_model.ensures.right
    ∙ right_told gs who (find (is_row k) rows)
    ∙ ap (right_at gs who) (seen_found k (sees gs who) rows (find (is_row k) rows) c.right_on_model.ensures.order refl)
