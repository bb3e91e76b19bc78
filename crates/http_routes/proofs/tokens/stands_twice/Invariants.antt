use Rattle.std.proofs.Common.{◌≡◌, drop}
use Rattle.http_routes.specs.Tokens.{stands_twice}
use Rattle.http_routes.proofs.tokens.stands_twice.Given as goal

abbrev pub invariant-loop-at : goal.invariant-loop-at
invariant-loop-at l = stands_twice l.tokens ≡ stands_twice (drop l.at l.tokens)
