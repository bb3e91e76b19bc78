use Rattle.std.proofs.Common.{sym}
use Rattle.std.specs.Ordering.{nat_cmp}
use Rattle.std.proofs.lemmas.Cmp.{nat_cmp_total}
use Rattle.sorted_tables.proofs.Positions.{there_first, absent_last}
use Rattle.rp_rows.specs.Contents.{link_name}
use Rattle.rp_group_domain.specs.Models.{link_of}
use Rattle.rp_group_domain.proofs.names.link_of.Goals as goal

pub returns-in-Ok : goal.returns-in-Ok
unfolding link_of
returns-in-Ok c = sym (there_first nat_cmp link_name nat_cmp_total c.args.name c.args.links.now c.in-Ok.place c.in-Ok.ensures)

pub returns-in-Err : goal.returns-in-Err
unfolding link_of
returns-in-Err c = sym (absent_last nat_cmp link_name nat_cmp_total c.args.name c.args.links.now c.in-Err.field-0 c.in-Err.ensures)
