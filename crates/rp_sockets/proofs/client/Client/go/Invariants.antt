use Rattle.std.specs.Prelude.{◌≡◌}
use Rattle.rp_http.specs.Turns.{Leaves}
use Rattle.rp_sockets.proofs.client.Client.go.Given as goal

abbrev pub invariant-loop : goal.invariant-loop
invariant-loop l = Leaves l.tokens l.initial.repository.content l.repository.content × (l.repository.content.partners ≡ l.initial.repository.content.partners)
