use Rattle.std.proofs.Common.{◌≡◌, true, false, List, Some, None, ◌∙◌, ap, sym, subst}
use Rattle.std.specs.List.{find}
use Rattle.sorted_tables.specs.Table.{IsAscending}
use Rattle.rp_rows.specs.Rows.{key_cmp, row_key, is_row, GroupRow, key_of}
use Rattle.std.specs.Prelude.{option_map}
use Rattle.rp_rows.specs.Sight.{sees_group}
use Rattle.rp_sight.specs.Stored.{row_of}
use Rattle.rp_readers.proofs.Looking.{seen_found, chosen_seen, chosen_unseen}
use Rattle.rp_readers.proofs.readers.Readers.group_of.Goals as goal

pub returns-in_err-group : goal.returns-in_err-group
returns-in_err-group c =
    ap (option_map row_of) c.from_residual.ensures
    ∙ seen_found (key_of c.args.owner.now c.args.name.now) (sees_group c.args.self.now.caller.now) c.args.self.now.access.now.groups.rows None (subst (λ (gs : List GroupRow). IsAscending key_cmp row_key gs) (c.table.ensures ∙ ap (λ gs. gs.rows) c.groups.ensures) c.find_for.ensures.ascending) (c.in_err-group.ensures.found ∙ ap (find (is_row (key_of c.args.owner.now c.args.name.now))) (c.table.ensures ∙ ap (λ gs. gs.rows) c.groups.ensures))

pub returns-then-sees_group : goal.returns-then-sees_group
returns-then-sees_group c =
    let p = sees_group c.args.self.now.caller.now in
    let g = row_of c.in_ok-group.group in
    let is : p g ≡ true = sym c.sees_group.ensures ∙ c.if-sees_group.true in
    sym (chosen_seen p g is)
    ∙ seen_found (key_of c.args.owner.now c.args.name.now) p c.args.self.now.access.now.groups.rows (Some g) (subst (λ (gs : List GroupRow). IsAscending key_cmp row_key gs) (c.table.ensures ∙ ap (λ gs. gs.rows) c.groups.ensures) c.find_for.ensures.ascending) (c.in_ok-group.ensures.found ∙ ap (find (is_row (key_of c.args.owner.now c.args.name.now))) (c.table.ensures ∙ ap (λ gs. gs.rows) c.groups.ensures))

pub returns-else-sees_group : goal.returns-else-sees_group
returns-else-sees_group c =
    let p = sees_group c.args.self.now.caller.now in
    let g = row_of c.in_ok-group.group in
    let is : p g ≡ false = sym c.sees_group.ensures ∙ c.if-sees_group.false in
    sym (chosen_unseen p g is)
    ∙ seen_found (key_of c.args.owner.now c.args.name.now) p c.args.self.now.access.now.groups.rows (Some g) (subst (λ (gs : List GroupRow). IsAscending key_cmp row_key gs) (c.table.ensures ∙ ap (λ gs. gs.rows) c.groups.ensures) c.find_for.ensures.ascending) (c.in_ok-group.ensures.found ∙ ap (find (is_row (key_of c.args.owner.now c.args.name.now))) (c.table.ensures ∙ ap (λ gs. gs.rows) c.groups.ensures))
