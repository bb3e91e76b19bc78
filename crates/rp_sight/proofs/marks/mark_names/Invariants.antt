use Rattle.std.proofs.Common.{drop}
use Rattle.std.specs.List.{find}
use Rattle.rp_rows.specs.Rows.{is_row, key_of}
use Rattle.rp_sight.specs.Granted.{shows}
use Rattle.rp_sight.proofs.Marking.{IsMarking}
use Rattle.rp_sight.proofs.marks.mark_names.Given as goal

abbrev pub invariant-loop-name : goal.invariant-loop-name
invariant-loop-name l = IsMarking (λ n m. shows l.caller m (find (is_row (key_of l.names.key.name n)) l.groups.rows)) l.models.rows l.fn.marks l.marks l.name-items (drop l.name-index l.name-items)
