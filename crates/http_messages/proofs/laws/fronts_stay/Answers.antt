use Rattle.http_messages.proofs.Growing.{call_stays, announced_stays, fault_stays}
use Rattle.http_messages.proofs.Uniqueness.{call_one, announces_one, fault_none}
use Rattle.http_messages.proofs.laws.fronts_stay.Goals as goal

pub returns-clause-call : goal.returns-clause-call
returns-clause-call c = call_stays

pub returns-clause-head : goal.returns-clause-head
returns-clause-head c = announced_stays

pub returns-clause-fault : goal.returns-clause-fault
returns-clause-fault c = fault_stays

pub returns-clause-one_call : goal.returns-clause-one_call
returns-clause-one_call c = call_one

pub returns-clause-one_head : goal.returns-clause-one_head
returns-clause-one_head c = announces_one

pub returns-clause-no_head : goal.returns-clause-no_head
returns-clause-no_head c = fault_none
