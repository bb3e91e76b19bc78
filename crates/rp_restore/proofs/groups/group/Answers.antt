use Rattle.std.proofs.Common.{sym, subst}
use Rattle.rp_plain.specs.Valid.{IsValid}
use Rattle.rp_restored_rows.specs.Groups.{group_of}
use Rattle.rp_restore.proofs.groups.group.Goals as goal

pub returns-in_ok-hold_group-in-Ok-clause-valid : goal.returns-in_ok-hold_group-in-Ok-clause-valid
returns-in_ok-hold_group-in-Ok-clause-valid c = subst IsValid (sym c.in_ok-hold_group-in-Ok.ensures.held) (c.restoring_keeps_validity.ensures.group c.args.holdings.now.content (group_of c.in-Ok.row) c.in-Ok.ensures.may c.requires)
