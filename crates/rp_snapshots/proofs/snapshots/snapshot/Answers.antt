use Rattle.rp_snapshots.proofs.snapshots.snapshot.Goals as goal

pub returns : goal.returns
returns c = c.gathered.ensures
