use Rattle.std.proofs.Common.{◌≡◌, false}
use Rattle.std.specs.List.{list_any}
use Rattle.std.specs.Option.{option_map_or}
use Rattle.rp_rows.specs.Instances.{instance_of, is_user}
use Rattle.rp_store.proofs.uses.is_used_by.Given as goal

abbrev pub invariant-loop-user : goal.invariant-loop-user
invariant-loop-user l =
    list_any (λ u. option_map_or (is_user l.name) (instance_of u l.instances) false) l.user-iterator
    ≡ list_any (λ u. option_map_or (is_user l.name) (instance_of u l.instances) false) l.users.keys
