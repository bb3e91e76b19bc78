use Rattle.std.proofs.Common.{◌∙◌, arith}
use Rattle.rp_value.proofs.Ends.{between, boundary, part}
use Rattle.rp_value.proofs.characters.Characters.slice.Goals as goal

pub range-requires-clause-start_le_end : goal.range-requires-clause-start_le_end
range-requires-clause-start_le_end c = omega (arith, c.byte_of-start.ensures, c.byte_of-end.ensures, between c.args.from c.args.to c.args.self.now c.requires)

pub range-requires-clause-start_boundary : goal.range-requires-clause-start_boundary
range-requires-clause-start_boundary c = λ some. rw (c.as_str.ensures, c.byte_of-start.ensures) (boundary c.args.from c.args.self.now)

pub range-requires-clause-end_boundary : goal.range-requires-clause-end_boundary
range-requires-clause-end_boundary c = rw (c.as_str.ensures, c.byte_of-end.ensures) (boundary c.args.to c.args.self.now)

pub returns : goal.returns
returns c = c.range.ensures.value ∙ rw (c.as_str.ensures, c.byte_of-start.ensures, c.byte_of-end.ensures) (part c.args.from c.args.to c.args.self.now c.requires)
