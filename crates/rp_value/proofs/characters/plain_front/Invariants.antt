use Rattle.std.proofs.Common.{length, ◌-◌, ◌≡◌, ◌≤◌, take}
use Rattle.std.specs.List.{count_by}
use Rattle.std.specs.Fmt.{is_char_start}
use Rattle.rp_value.proofs.characters.plain_front.Given as goal

abbrev pub invariant-loop-plain : goal.invariant-loop-plain
invariant-loop-plain l = (l.plain ≤ length l.text) × (count_by is_char_start (take l.plain l.text) ≡ l.plain)

abbrev pub decreases-loop-plain : goal.decreases-loop-plain
decreases-loop-plain l = length l.text - l.plain
