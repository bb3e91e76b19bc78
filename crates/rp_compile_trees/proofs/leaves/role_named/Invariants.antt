use Rattle.std.proofs.Common.{◌≡◌, drop}
use Rattle.std.specs.List.{find}
use Rattle.std.specs.Option.{option_map}
use Rattle.std.specs.Str.{bytes_eq}
use Rattle.rp_compile_trees.proofs.leaves.role_named.Given as goal

abbrev pub invariant-loop-role : goal.invariant-loop-role
invariant-loop-role l = find (λ x. bytes_eq x.name l.name) (drop l.role-index l.roles) ≡ find (λ x. bytes_eq x.name l.name) l.roles
