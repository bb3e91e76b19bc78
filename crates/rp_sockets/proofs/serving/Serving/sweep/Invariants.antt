use Rattle.std.specs.Prelude.{◌≡◌}
use Rattle.rp_http.specs.Turns.{Leaves}
use Rattle.rp_sockets.proofs.serving.Serving.sweep.Given as goal

abbrev pub invariant-loop-key : goal.invariant-loop-key
invariant-loop-key l = Leaves l.tokens l.initial.repository.content l.repository.content × (l.repository.content.partners ≡ l.initial.repository.content.partners)
