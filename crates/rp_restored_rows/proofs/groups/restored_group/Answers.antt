use Rattle.std.proofs.Common.{◌≡◌, None, sym, ◌∙◌, subst}
use Rattle.rp_snapshot_rows.specs.Again.{saved_group}
use Rattle.rp_restored_rows.specs.Groups.{group_lack}
use Rattle.rp_restored_rows.proofs.GroupRows.{group_valid, group_passes}
use Rattle.rp_restored_rows.proofs.groups.restored_group.Goals as goal

pub returns-in-None-clause-valid : goal.returns-in-None-clause-valid
returns-in-None-clause-valid c = group_valid c.args.schemas.now c.args.partners.now c.args.group (sym c.group_lack.ensures ∙ c.in-None.is)

pub returns-in-Some-clause-again : goal.returns-in-Some-clause-again
returns-in-Some-clause-again c = λ g valid same.
    let lacks = group_lack c.args.schemas.now c.args.partners.now in
    let none = subst (λ x. lacks x ≡ None) (sym same) (group_passes c.args.schemas.now c.args.partners.now (saved_group g) valid) in
    let some = sym c.group_lack.ensures ∙ c.in-Some.is in
    cc
