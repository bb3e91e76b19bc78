use Rattle.std.proofs.Common.{◌≡◌, drop, filter, ◌++◌}
use Rattle.ex_renamings.specs.Renamings.{is_select}
use Rattle.rp_compile_names.proofs.select_types.selects_among.Given as goal

abbrev pub invariant-loop-number : goal.invariant-loop-number
invariant-loop-number l = l.found ++ filter (is_select l.types) (drop l.number-index l.numbers) ≡ filter (is_select l.types) l.numbers
