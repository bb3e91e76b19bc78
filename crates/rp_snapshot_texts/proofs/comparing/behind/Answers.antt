use Rattle.std.proofs.lemmas.Bool.{eqb-true, eq-eqb}
use Rattle.std.proofs.lemmas.Slice.Eq.{strip_prefix_is}
use Rattle.rp_snapshot_texts.proofs.comparing.behind.Goals as goal

pub returns : goal.returns
returns c = strip_prefix_is (λ a b. (eqb-true a b, eq-eqb a b)) c.args.bytes.now c.args.piece.now c.strip_prefix.result c.strip_prefix.ensures.cases
