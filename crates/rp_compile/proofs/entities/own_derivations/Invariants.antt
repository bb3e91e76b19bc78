use Rattle.std.proofs.Common.{◌≡◌, drop, ◌++◌}
use Rattle.std.specs.List.{filter_map}
use Rattle.plain_data.specs.Numbers.{numbered_from}
use Rattle.rp_meaning.specs.Compiled as compiled
use Rattle.rp_compile.proofs.entities.own_derivations.Given as goal

abbrev pub invariant-loop-place : goal.invariant-loop-place
invariant-loop-place l = l.found.items ++ filter_map (λ d. d) (numbered_from (compiled.own_derivation l.entity) l.place (drop l.place l.list)) ≡ compiled.own_derivations l.entity l.list
