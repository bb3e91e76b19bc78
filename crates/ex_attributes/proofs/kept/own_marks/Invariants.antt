use Rattle.std.proofs.Common.{◌≡◌, ◌<◌, ℕ, length}
use Rattle.ex_renamings.specs.Leading.{is_marked}
use Rattle.ex_attributes.specs.Kept as spec
use Rattle.ex_attributes.proofs.kept.own_marks.Given as goal

abbrev pub invariant-loop-number : goal.invariant-loop-number
invariant-loop-number l =
    (length l.marks.items ≡ l.number) × ((m : ℕ) → m < length l.marks.items → spec.IsAlike l.types l.attributes l.name l.found m (is_marked l.marks.items m))
