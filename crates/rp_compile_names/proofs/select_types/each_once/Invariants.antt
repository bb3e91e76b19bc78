use Rattle.std.proofs.Common.{◌≡◌, drop, filter, not, ◌++◌}
use Rattle.plain_data.specs.Numbers.{is_among}
use Rattle.graphs.specs.Graphs.{each_once}
use Rattle.rp_compile_names.proofs.select_types.each_once.Given as goal

abbrev pub invariant-loop-number : goal.invariant-loop-number
invariant-loop-number l = l.found.items ++ filter (λ y. not (is_among l.seen.keys y)) (each_once (drop l.number-index l.numbers)) ≡ each_once l.numbers
