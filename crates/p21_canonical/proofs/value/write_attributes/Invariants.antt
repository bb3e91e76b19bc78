use Rattle.std.proofs.Common.{◌≡◌, ◌==◌, ◌++◌, ◌∷◌, map, drop}
use Rattle.plain_data.specs.Numbers.{numbered_from}
use Rattle.p21_spelling.specs.Values as spelled
use Rattle.p21_canonical.proofs.Written.{left}
use Rattle.p21_canonical.specs.Trees as spec
use Rattle.p21_canonical.proofs.value.write_attributes.Given as goal

abbrev pub invariant-loop-number : goal.invariant-loop-number
invariant-loop-number l =
    l.out ++ left (l.number == 0) (map spelled.spelling (numbered_from (spec.attribute_at l.types (spec.marks_of l.slots)) l.number (drop l.number l.values)))
    ≡ l.fn.out ++ 40 ∷ spelled.listed (map spelled.spelling (spec.attributes l.types (spec.marks_of l.slots) l.values))
