use Rattle.std.proofs.Common.{◌≡◌, ◌==◌, ◌++◌, filter, drop}
use Rattle.std.specs.List.{flat_map}
use Rattle.ex_attributes.specs.Steps.{read}
use Rattle.ex_attributes.specs.Tables as tables
use Rattle.ex_attributes.proofs.declared_rows.of_members.Given as goal

abbrev pub invariant-loop-member : goal.invariant-loop-member
invariant-loop-member l =
    read l.found.items ++ flat_map (λ e. tables.rows_at l.rows (filter (λ p. e == tables.declarer_at l.rows p) l.places)) (drop l.member-index l.members)
    ≡ flat_map (λ e. tables.rows_at l.rows (filter (λ p. e == tables.declarer_at l.rows p) l.places)) l.members
