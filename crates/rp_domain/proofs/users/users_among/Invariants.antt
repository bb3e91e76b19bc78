use Rattle.std.proofs.Common.{◌≡◌, ◌++◌, reverse}
use Rattle.rp_meaning.specs.Populations.{instances}
use Rattle.rp_meaning.specs.Uses.{places_among}
use Rattle.rp_domain.specs.Chains.{row_to}
use Rattle.rp_domain.proofs.users.users_among.Given as goal

-- those of what is left of the row, and those behind them, which were found from the last on
abbrev pub invariant-walk : goal.invariant-walk
invariant-walk l = instances (places_among l.role (row_to l.users.0 l.end)) ++ reverse l.found.items ≡ instances (places_among l.role (row_to l.users.0 l.initial.end))

abbrev pub decreases-walk : goal.decreases-walk
decreases-walk l = l.end
