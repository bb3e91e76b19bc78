use Rattle.rp_laws.proofs.Requests.{keeping_off_is_outside, keeping_off_part, keeping_off_reach}
use Rattle.rp_laws.proofs.request_that_keeps_off.Goals as goal

pub returns-clause-outside : goal.returns-clause-outside
returns-clause-outside c = keeping_off_is_outside

pub returns-clause-part : goal.returns-clause-part
returns-clause-part c = keeping_off_part

pub returns-clause-reach : goal.returns-clause-reach
returns-clause-reach c = keeping_off_reach
