use Rattle.std.proofs.Common.{◌≡◌, ◌++◌, drop}
use Rattle.rp_faults.specs.Declarations.{all_now}
use Rattle.rp_rules.specs.Tried.{elements_at}
use Rattle.rp_rules.proofs.tried.Trying.+trying.Given as goal

abbrev pub invariant-push_elements-loop-place : goal.invariant-push_elements-loop-place
invariant-push_elements-loop-place g l =
    let elements = elements_at l.self.choosing.types.now (g.D.Domain.population l.self.choosing.domain.now) l.self.number (all_now l.declared) in
    l.found ++ elements (drop l.place l.written) (drop l.place l.read) ≡ l.fn.found ++ elements l.written l.read
