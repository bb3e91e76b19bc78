use Rattle.http_routes.proofs.answers.fault_answer.Goals as goal

pub returns-in-BadHead : goal.returns-in-BadHead
returns-in-BadHead c = rw c.in-BadHead.is c.bad_request.ensures

pub returns-in-BadBodyLength : goal.returns-in-BadBodyLength
returns-in-BadBodyLength c = rw c.in-BadBodyLength.is c.bad_request-in-BadBodyLength.ensures

pub returns-in-BodyTooLarge : goal.returns-in-BodyTooLarge
returns-in-BodyTooLarge c = rw c.in-BodyTooLarge.is c.payload_too_large.ensures

pub returns-in-HeadTooLarge : goal.returns-in-HeadTooLarge
returns-in-HeadTooLarge c = rw c.in-HeadTooLarge.is c.head_too_large.ensures

pub returns-in-CodedBody : goal.returns-in-CodedBody
returns-in-CodedBody c = rw c.in-CodedBody.is c.not_implemented.ensures
