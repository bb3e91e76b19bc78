use Rattle.std.proofs.Common.{◌≡◌, drop, filter, not, ◌++◌}
use Rattle.ex_renamings.specs.Renamings.{is_select}
use Rattle.rp_compile_names.proofs.select_types.without_selects.Given as goal

abbrev pub invariant-loop-number : goal.invariant-loop-number
invariant-loop-number l = l.found.items ++ filter (λ k. not (is_select l.types k)) (drop l.number-index l.numbers) ≡ filter (λ k. not (is_select l.types k)) l.numbers
