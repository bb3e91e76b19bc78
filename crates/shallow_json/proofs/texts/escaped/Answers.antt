use Rattle.std.proofs.Common.{ap}
use Rattle.json.specs.Text.{short_escape}
use Rattle.shallow_json.proofs.texts.escaped.Goals as goal

pub returns-in-110-clause-meant : goal.returns-in-110-clause-meant
unfolding short_escape
returns-in-110-clause-meant c = ap short_escape c.in-110.is

pub returns-in-34-clause-meant : goal.returns-in-34-clause-meant
unfolding short_escape
returns-in-34-clause-meant c = ap short_escape c.in-34.is

pub returns-in-92-clause-meant : goal.returns-in-92-clause-meant
unfolding short_escape
returns-in-92-clause-meant c = ap short_escape c.in-92.is

pub returns-in-47-clause-meant : goal.returns-in-47-clause-meant
unfolding short_escape
returns-in-47-clause-meant c = ap short_escape c.in-47.is

pub returns-in-116-clause-meant : goal.returns-in-116-clause-meant
unfolding short_escape
returns-in-116-clause-meant c = ap short_escape c.in-116.is

pub returns-in-114-clause-meant : goal.returns-in-114-clause-meant
unfolding short_escape
returns-in-114-clause-meant c = ap short_escape c.in-114.is

pub returns-in-98-clause-meant : goal.returns-in-98-clause-meant
unfolding short_escape
returns-in-98-clause-meant c = ap short_escape c.in-98.is

pub returns-in-102-clause-meant : goal.returns-in-102-clause-meant
unfolding short_escape
returns-in-102-clause-meant c = ap short_escape c.in-102.is
