use Rattle.http_routes.proofs.answers.bare_answer.Goals as goal

pub returns-in-Unauthorized : goal.returns-in-Unauthorized
returns-in-Unauthorized c = rw c.in-Unauthorized.is c.unauthorized.ensures

pub returns-in-NotFound : goal.returns-in-NotFound
returns-in-NotFound c = rw c.in-NotFound.is c.not_found.ensures

pub returns-in-MethodNotAllowed : goal.returns-in-MethodNotAllowed
returns-in-MethodNotAllowed c = rw c.in-MethodNotAllowed.is c.method_not_allowed.ensures
