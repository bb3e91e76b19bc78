use Rattle.ex_renamings.proofs.renamings.+renamed_times.Given as goal

abbrev pub decreases-renamed_times : goal.decreases-renamed_times
decreases-renamed_times l = l.count
