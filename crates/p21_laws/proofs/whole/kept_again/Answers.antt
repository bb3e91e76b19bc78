use Rattle.p21_laws.proofs.Kept as kept
use Rattle.p21_laws.proofs.whole.kept_again.Goals as goal

pub returns-clause-tree : goal.returns-clause-tree
returns-clause-tree c = kept.kept_tree

pub returns-clause-again : goal.returns-clause-again
returns-clause-again c = kept.kept_again

pub returns-clause-one : goal.returns-clause-one
returns-clause-one c = kept.kept_one

pub returns-clause-stays : goal.returns-clause-stays
returns-clause-stays c = kept.kept_stays
