use Rattle.p21_spelling.proofs.WellSpelled.{instance_is}
use Rattle.p21_spelling.proofs.law.only_these_are_read.Goals as goal

pub returns-clause-instance : goal.returns-clause-instance
returns-clause-instance c = instance_is
