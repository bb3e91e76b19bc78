use Rattle.rp_eval.proofs.bodies.+run_body.Given as goal

abbrev pub decreases-run_body : goal.decreases-run_body
decreases-run_body g l = l.levels
