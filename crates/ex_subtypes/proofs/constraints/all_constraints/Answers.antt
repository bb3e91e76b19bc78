use Rattle.ex_subtypes.proofs.Readable.{distinct_in}
use Rattle.ex_subtypes.proofs.constraints.all_constraints.Goals as goal

pub entity_constraint-requires : goal.entity_constraint-requires
entity_constraint-requires c = distinct_in c.args.entities.now c.loop-number.number c.index-entities-number.result c.requires c.loop-number-test.true c.index-entities-number.is
