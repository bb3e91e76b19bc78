use Rattle.std.specs.Prelude.{option_copied}
use Rattle.std.proofs.lemmas.Result.{err_from_is_err_and}
use Rattle.rp_program.proofs.StartLemmas.{no_memory, load_fails}
use Rattle.rp_program.proofs.opening.begin_with.Goals as goal

pub returns-in_err-loaded-clause-begun : goal.returns-in_err-loaded-clause-begun
returns-in_err-loaded-clause-begun g c =
    let p = err_from_is_err_and c.from_residual.result c.from_residual.ensures.1 in
    rw (p.1, p.2) (load_fails (g.D.Folder.files c.args.folder.now) c.args.path.now (option_copied c.args.snapshot) _ c.in_err-loaded.ensures.loaded)

pub returns-in_err-given-clause-begun : goal.returns-in_err-given-clause-begun
returns-in_err-given-clause-begun g c =
    let p = err_from_is_err_and c.from_residual-in_err-given.result c.from_residual-in_err-given.ensures.1 in
    rw (p.1, p.2) (no_memory (g.D.Folder.files c.args.folder.now) c.args.path.now (option_copied c.args.snapshot))
