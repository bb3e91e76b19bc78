use Rattle.std.specs.Prelude.{option_copied}
use Rattle.std.proofs.lemmas.Result.{err_from_is_err_and}
use Rattle.rp_program.specs.Starts.{FailsAt}
use Rattle.rp_program.proofs.ServeLemmas.{lacking, served_from}
use Rattle.rp_program.proofs.serving.serve.Goals as goal

pub returns-in_err-loaded : goal.returns-in_err-loaded
returns-in_err-loaded g c =
    let p = err_from_is_err_and c.from_residual.result c.from_residual.ensures.1 in
    let Lacks = FailsAt (g.D.Folder.files c.args.folder.now) c.args.path.now (option_copied c.args.snapshots.load) in
    rw (p.1, p.2) (lacking Lacks Lacks _ _ _ _ c.in_err-loaded.ensures.begun (λ why none. none))

pub returns : goal.returns
returns g c = served_from (g.D.Folder.files c.args.folder.now) c.args.path.now (option_copied c.args.snapshots.load) _ _ (option_copied c.args.snapshots.save) c.args.address c.serve_loaded.result c.in_ok-loaded.ensures.begun c.serve_loaded.ensures
