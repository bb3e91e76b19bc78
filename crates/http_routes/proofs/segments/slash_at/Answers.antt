use Rattle.http_routes.proofs.Cutting.{slash_found}
use Rattle.http_routes.proofs.segments.slash_at.Goals as goal

pub returns : goal.returns
returns c = slash_found c.args.path.now c.memchr.result c.memchr.ensures
