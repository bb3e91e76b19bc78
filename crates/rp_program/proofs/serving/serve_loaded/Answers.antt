use Rattle.std.proofs.lemmas.Result.{err_from_is_err_and}
use Rattle.plain_data.specs.declared.failure.Failure.{Failure}
use Rattle.rp_program.specs.declared.fault.StartFault.{StartFault}
use Rattle.rp_program.specs.Starts.{FailsBy, Lacks}
use Rattle.rp_program.proofs.ServeLemmas.{lacking, served_of}
use Rattle.rp_program.proofs.serving.serve_loaded.Goals as goal

pub returns-in_err-repository : goal.returns-in_err-repository
returns-in_err-repository g c =
    let p = err_from_is_err_and c.from_residual.result c.from_residual.ensures.1 in
    let Why = λ (why : Failure StartFault). FailsBy why (Lacks (record c.args.loaded { schemas = c.as_slice.result.now }) c.args.given) in
    rw (p.1, p.2) (lacking Why _ _ _ _ _ c.in_err-repository.ensures (λ why none. rw c.as_slice.ensures at none))

pub returns : goal.returns
returns g c =
    served_of c.args.loaded c.args.given c.in_ok-repository.repository.content c.serve_at-ended.new.repository.content c.in_ok-repository.tokens (rw c.as_slice.ensures at c.in_ok-repository.ensures.0)
    c.in_ok-repository.ensures.2 c.serve_at-ended.ensures.run c.is_valid.ensures.valid _ c.args.address c.serve_at-ended.result c.serve_at-ended.ensures.ended
