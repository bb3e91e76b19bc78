use Rattle.std.proofs.Common.{◌≡◌, ◌++◌, map, drop}
use Rattle.plain_data.specs.Numbers.{numbered_from}
use Rattle.name_tables.specs.Order.{numbered_names}
use Rattle.name_tables.proofs.order.numbered_rows.Given as goal

abbrev pub invariant-loop-number : goal.invariant-loop-number
invariant-loop-number l =
    l.rows.items ++ numbered_from (λ number n. (n, number)) l.number (map (λ n. n.now) (drop l.number l.names)) ≡ numbered_names (map (λ n. n.now) l.names)
