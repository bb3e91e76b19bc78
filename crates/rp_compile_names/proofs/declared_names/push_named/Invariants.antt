use Rattle.std.proofs.Common.{◌≡◌, drop, map, ◌++◌}
use Rattle.plain_data.specs.Numbers.{numbered_from}
use Rattle.rp_compile_names.specs.Found as found
use Rattle.rp_compile_names.proofs.declared_names.push_named.Given as goal

abbrev pub invariant-loop-place : goal.invariant-loop-place
invariant-loop-place l = l.table ++ numbered_from (λ place name. (name, record { entity = l.entity; sort = l.sort; place = place })) l.place (map (λ n. n.now) (drop l.place l.names)) ≡ l.initial.table ++ found.placed l.entity l.sort (map (λ n. n.now) l.names)
