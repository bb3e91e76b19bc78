use Rattle.rp_snapshots.proofs.snapshots.save.Goals as goal

pub returns : goal.returns
returns g c = c.save.ensures
