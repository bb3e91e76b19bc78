use Rattle.std.proofs.Common.{ℕ, List}
use Rattle.std.proofs.lemmas.Result.{err_from_is_err_and}
use Rattle.plain_data.specs.declared.failure.Failure.{Failure}
use Rattle.rp_program.specs.declared.fault.StartFault.{StartFault}
use Rattle.rp_program.specs.Starts.{FailsBy, Lacks}
use Rattle.rp_program.proofs.StartLemmas.{passed_on}
use Rattle.rp_program.proofs.opening.open.Goals as goal

pub returns-in_err-lent : goal.returns-in_err-lent
returns-in_err-lent c =
    let p = err_from_is_err_and c.from_residual.result c.from_residual.ensures.1 in
    rw (p.1, p.2) tt

pub returns-in_err-repository : goal.returns-in_err-repository
returns-in_err-repository c =
    let p = err_from_is_err_and c.from_residual-in_err-repository.result c.from_residual-in_err-repository.ensures.1 in
    let Why = λ (why : Failure StartFault). (tokens : List (List ℕ)) → FailsBy why (Lacks (record { partners = c.into_vec.result.items; tokens = tokens; schemas = c.in_ok-lent.lent.now }) c.args.given) in
    rw (p.1, p.2) (passed_on Why _ _ c.in_err-repository.ensures (λ why none. rw (c.into_vec.ensures, c.in_ok-lent.ensures) at (none c.args.tokens)))
