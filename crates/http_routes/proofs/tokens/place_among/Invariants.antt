use Rattle.std.proofs.Common.{◌≡◌, drop}
use Rattle.http_routes.specs.Tokens.{place_among, place_from}
use Rattle.http_routes.proofs.tokens.place_among.Given as goal

abbrev pub invariant-loop-at : goal.invariant-loop-at
invariant-loop-at l = place_among l.tokens l.token ≡ place_from l.at (drop l.at l.tokens) l.token
