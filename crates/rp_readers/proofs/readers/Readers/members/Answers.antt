use Rattle.std.proofs.Common.{◌≡◌, Some, sym, ◌∙◌, map, ap, subst}
use Rattle.std.specs.List.{find}
use Rattle.rp_rows.specs.Rows.{is_row}
use Rattle.rp_rows.specs.Sight.{sees_group}
use Rattle.rp_readers.proofs.Looking.{found_seen}
use Rattle.std.specs.Prelude.{IfOk}
use Rattle.rp_plain.specs.Readers.{held, counted_in}
use Rattle.rp_plain.specs.Groups.{members_of}
use Rattle.rp_plain.specs.Populations.{member}
use Rattle.rp_sight.specs.Stored.{row_of}
use Rattle.rp_sight.specs.Listed.{member_in, members_in, member_of}
use Rattle.rp_readers.specs.Told.{told, member_told}
use Rattle.rp_readers.proofs.Telling.{told_by, members_told}
use Rattle.rp_readers.proofs.readers.Readers.members.Goals as goal

pub returns-in_ok-members-in-Some : goal.returns-in_ok-members-in-Some
unfolding told
returns-in_ok-members-in-Some c =
    let ms = c.args.self.now.models.now.rows in
    let g = row_of c.in-Some.field-0 in
    let ks = g.holds.members in
    let there : find (is_row c.args.key.now) c.args.self.now.access.now.groups.rows ≡ Some g =
    found_seen c.args.key.now (sees_group c.args.self.now.caller.now) c.args.self.now.access.now.groups.rows g c.members.ensures.order (sym c.in-Some.ensures) in
    let are = told_by member_told member_of (member_in ms g) c.deref.result.now ks (ap (map member_of) c.deref.ensures.value ∙ c.in_ok-members-in-Some.ensures.members ∙ ap (members_in ms) there) ∙ members_told ms g ks c.len-count.ensures.ascending in
    subst (λ o. IfOk c.told_members.result (λ rows. rows ≡ map (member (counted_in ms o)) (members_of (held o)))) c.in-Some.ensures
    (subst (λ items. IfOk c.told_members.result (λ rows. rows ≡ items)) are c.told_members.ensures)
