use Rattle.http_routes.specs.Paths.{segments}
use Rattle.http_routes.proofs.Cutting.{none_of_five}
use Rattle.http_routes.proofs.segments.segments_of.Goals as goal

pub returns-in-Some-cut-3 : goal.returns-in-Some-cut-3
returns-in-Some-cut-3 c = none_of_five (segments c.args.path.now) _ _ _ _ _ _ _ c.in-Some-cut-3.field-0.1.now c.in-Some.ensures c.in-Some-cut.ensures c.in-Some-cut-2.ensures c.in-Some-cut-3.ensures
