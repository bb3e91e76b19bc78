use Rattle.rp_replies.proofs.refusals.write_refusal.Goals as goal

pub returns-in-UnknownPartner-clause-ok : goal.returns-in-UnknownPartner-clause-ok
returns-in-UnknownPartner-clause-ok c = rw c.in-UnknownPartner.is c.write_coded-in-UnknownPartner.ensures.ok

pub returns-in-UnknownSchema-clause-ok : goal.returns-in-UnknownSchema-clause-ok
returns-in-UnknownSchema-clause-ok c = rw c.in-UnknownSchema.is c.write_coded-in-UnknownSchema.ensures.ok

pub returns-in-NoSuchItem-clause-ok : goal.returns-in-NoSuchItem-clause-ok
returns-in-NoSuchItem-clause-ok c = rw c.in-NoSuchItem.is c.write_coded-in-NoSuchItem.ensures.ok

pub returns-in-WrongSchema-clause-ok : goal.returns-in-WrongSchema-clause-ok
returns-in-WrongSchema-clause-ok c = rw c.in-WrongSchema.is c.write_coded-in-WrongSchema.ensures.ok

pub returns-in-NoSuchInstance-clause-ok : goal.returns-in-NoSuchInstance-clause-ok
returns-in-NoSuchInstance-clause-ok c = rw c.in-NoSuchInstance.is c.write_coded-in-NoSuchInstance.ensures.ok

pub returns-in-NoMemory-clause-ok : goal.returns-in-NoMemory-clause-ok
returns-in-NoMemory-clause-ok c = rw c.in-NoMemory.is c.write_coded-in-NoMemory.ensures.ok

pub returns-in-Membership-clause-ok : goal.returns-in-Membership-clause-ok
returns-in-Membership-clause-ok c = rw c.in-Membership.is c.write_coded-in-Membership.ensures.ok
