use Rattle.p21_ascii.proofs.Files as files
use Rattle.p21_ascii.proofs.Laws.{again_ascii, kept_ascii, kept_utf8, links_ascii}
use Rattle.p21_ascii.proofs.law.canonical_is_ascii.Goals as goal

pub returns-clause-kept : goal.returns-clause-kept
returns-clause-kept c = kept_ascii

pub returns-clause-read : goal.returns-clause-read
returns-clause-read c = λ schema accepted linked text content links read.
    links_ascii schema content links (again_ascii schema content (c.text_again.ensures.tree schema accepted linked text content read))

pub returns-clause-spelled : goal.returns-clause-spelled
returns-clause-spelled c = files.canonical_ascii

pub returns-clause-utf8 : goal.returns-clause-utf8
returns-clause-utf8 c = kept_utf8
