use Rattle.rp_laws.proofs.TextAgain.{text_again}
use Rattle.rp_laws.proofs.model_text_again.Goals as goal

pub returns : goal.returns
returns c = text_again c.args.schemas.now c.accepted_schemas.ensures
