use Rattle.std.proofs.Common.{rules, ◌≡◌, true, false, [], ◌∷◌, ◌++◌}
use Rattle.rp_operations.proofs.Unions.{stands_behind}
use Rattle.rp_operations.proofs.operations.union_in_place.Goals as goal
use Rattle.rp_operations.specs.Operations.{aggregate, is_element, is_set, union}
use Rattle.rp_operations.specs.Seen.{seen}
use Rattle.rp_value.specs.declared.value.Value.TheVariants as v

pub returns-in_ok-push-in-Ok-2 : goal.returns-in_ok-push-in-Ok-2
returns-in_ok-push-in-Ok-2 c =
    let apart : v.Agg c.in-Ok-2.kind (record { low = c.in-Ok-2.low; items = c.in-Ok-2.items }) ≡ c.args.value = search rules in
    let one : is_element (seen c.args.other.now) ≡ true = search rules in
    let not_set : is_set c.in-Ok-2.kind ≡ false = search rules in
    let behind : aggregate c.in-Ok-2.kind c.in-Ok-2.low (c.in-Ok-2.items ++ c.args.other.now ∷ []) ≡ union c.args.value c.args.other.now =
    stands_behind c.args.value c.args.other.now c.in-Ok-2.kind (record { low = c.in-Ok-2.low; items = c.in-Ok-2.items }) apart one not_set in
    search (rules, behind)
