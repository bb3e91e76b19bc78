use Rattle.rp_program.proofs.saving.save_in.Given as goal

abbrev pub ghosts-written : goal.ghosts-written
ghosts-written g a = record { path = g.P.Part.path a.replacement.part }
