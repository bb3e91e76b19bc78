use Rattle.std.specs.Prelude.{◌≡◌}
use Rattle.rp_http.specs.Turns.{Leaves}
use Rattle.rp_sockets.proofs.serving.Serving.serve_ready.Given as goal

abbrev pub invariant-loop-event : goal.invariant-loop-event
invariant-loop-event l = Leaves l.tokens l.initial.repository.content l.repository.content × (l.repository.content.partners ≡ l.initial.repository.content.partners)
