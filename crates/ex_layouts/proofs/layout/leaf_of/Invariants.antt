use Rattle.std.proofs.Common.{◌≡◌, drop}
use Rattle.std.specs.List.{find, list_all}
use Rattle.plain_data.specs.Numbers.{is_among}
use Rattle.ex_layouts.specs.Entities.{line_of}
use Rattle.ex_layouts.specs.Layouts as spec
use Rattle.ex_layouts.proofs.layout.leaf_of.Given as goal

abbrev pub invariant-loop-number : goal.invariant-loop-number
invariant-loop-number l =
    find (λ entity. list_all (is_among (line_of l.schema entity)) l.numbers) (drop l.number-index l.numbers) ≡ spec.leaf l.schema l.numbers
