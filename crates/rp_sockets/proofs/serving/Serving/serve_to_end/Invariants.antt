use Rattle.std.specs.Prelude.{◌≡◌}
use Rattle.rp_http.specs.Turns.{Leaves}
use Rattle.rp_sockets.proofs.serving.Serving.serve_to_end.Given as goal

abbrev pub invariant-loop : goal.invariant-loop
invariant-loop g l = Leaves l.tokens l.initial.repository.content l.repository.content × (l.repository.content.partners ≡ l.initial.repository.content.partners)
