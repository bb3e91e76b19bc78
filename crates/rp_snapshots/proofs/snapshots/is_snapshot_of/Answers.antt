use Rattle.rp_snapshots.proofs.snapshots.is_snapshot_of.Goals as goal

pub returns : goal.returns
returns c = c.is_text_of.ensures
