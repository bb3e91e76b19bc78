use Rattle.std.proofs.Common.{[], refl}
use Rattle.rp_program.proofs.serving.serve_at.Goals as goal

pub returns-in-Err-clause-run : goal.returns-in-Err-clause-run
returns-in-Err-clause-run g c = ([], [], refl)

pub returns-in-Err-NoMemory-clause-run : goal.returns-in-Err-NoMemory-clause-run
returns-in-Err-NoMemory-clause-run g c = ([], [], refl)

pub returns-in-Err-try_place-clause-run : goal.returns-in-Err-try_place-clause-run
returns-in-Err-try_place-clause-run g c = ([], [], refl)

pub returns-clause-ended : goal.returns-clause-ended
returns-clause-ended g c = c.at_end.ensures c.args.address
