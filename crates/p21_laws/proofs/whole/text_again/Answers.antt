use Rattle.p21_laws.proofs.Files.{one_text, text_again, text_stays, tree_again}
use Rattle.p21_laws.proofs.Kept.{new_again}
use Rattle.p21_laws.proofs.whole.text_again.Goals as goal

pub returns-clause-tree : goal.returns-clause-tree
returns-clause-tree c = λ schema accepted linked text content read. tree_again schema accepted linked text content read

pub returns-clause-again : goal.returns-clause-again
returns-clause-again c = λ schema accepted linked now among text content read. text_again schema accepted linked now among text content read

pub returns-clause-fresh : goal.returns-clause-fresh
returns-clause-fresh c = new_again

pub returns-clause-one : goal.returns-clause-one
returns-clause-one c = λ schema accepted linked linked2 text text2 content content2 read read2 same. one_text schema accepted linked linked2 text text2 content content2 read read2 same

pub returns-clause-stays : goal.returns-clause-stays
returns-clause-stays c = λ schema accepted linked text content content2 read again. text_stays schema accepted linked text content content2 read again
