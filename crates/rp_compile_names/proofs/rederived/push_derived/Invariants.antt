use Rattle.std.proofs.Common.{◌≡◌, drop, ◌++◌}
use Rattle.std.specs.List.{filter_map}
use Rattle.plain_data.specs.Numbers.{numbered, numbered_from}
use Rattle.rp_meaning.specs.Compiled as compiled
use Rattle.rp_compile_names.proofs.rederived.push_derived.Given as goal

abbrev pub invariant-loop-place : goal.invariant-loop-place
invariant-loop-place l = l.found.items ++ filter_map (λ d. d) (numbered_from (compiled.rederived l.entity) l.place (drop l.place l.list)) ≡ l.initial.found.items ++ filter_map (λ d. d) (numbered (compiled.rederived l.entity) l.list)
