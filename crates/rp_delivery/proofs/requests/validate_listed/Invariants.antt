use Rattle.rp_delivery.specs.Requests.{includes, Taken, IsMe}
use Rattle.rp_delivery.proofs.requests.validate_listed.Given as goal

abbrev pub invariant-loop-place : goal.invariant-loop-place
invariant-loop-place l = IsMe l.repository.content l.me × Taken l.initial.repository.content (includes 1 l.place) l.repository.content
