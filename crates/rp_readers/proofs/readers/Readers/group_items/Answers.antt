use Rattle.std.proofs.Common.{◌≡◌, ◌∙◌, map, ap, subst}
use Rattle.std.specs.Prelude.{filter, IfOk}
use Rattle.rp_rows.specs.Sight.{sees_group}
use Rattle.rp_sight.specs.Seen.{seen_group}
use Rattle.rp_sight.specs.Seen.{seen_of}
use Rattle.rp_readers.specs.Told.{told, group_told}
use Rattle.rp_readers.proofs.Telling.{told_by}
use Rattle.rp_readers.proofs.readers.Readers.group_items.Goals as goal

pub returns : goal.returns
unfolding told
returns c =
    let who = c.args.self.now.caller.now in
    let gs = c.args.self.now.access.now.groups.rows in
    let seen = filter (sees_group who) gs in
    let are = told_by group_told seen_of (seen_group who) c.deref.result.now seen (ap (map seen_of) c.deref.ensures.value ∙ c.in_ok-seen.ensures) in
    subst (λ items. IfOk c.group_rows.result (λ rows. rows ≡ items)) are c.group_rows.ensures
