use Rattle.http_messages.proofs.Places.{blank_found}
use Rattle.http_messages.proofs.mask.first_blank.Goals as goal

pub returns : goal.returns
returns c = blank_found c.args.bytes.now c.memchr.result c.memchr.ensures
