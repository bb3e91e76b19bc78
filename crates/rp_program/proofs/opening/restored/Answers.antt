use Rattle.std.proofs.Common.{rules, ◌≡◌, Some}
use Rattle.rp_plain.specs.Opening.{new_fault}
use Rattle.rp_program.proofs.StartLemmas.{new_fails}
use Rattle.rp_program.proofs.opening.restored.Goals as goal

pub returns-in-Err-New : goal.returns-in-Err-New
returns-in-Err-New c =
    let known : new_fault c.args.schemas.now c.args.partners.items ≡ Some c.in-Err-New.fault = search rules in
    rw c.from.ensures (λ tokens. new_fails c.args.schemas.now c.args.partners.items tokens (Some (record { path = c.args.path.now; bytes = Some c.args.bytes.now })) c.in-Err-New.fault (λ other. known))
