use Rattle.std.proofs.Common.{◌∙◌}
use Rattle.rp_compile.proofs.Variables.{functions-found, rules-found}
use Rattle.rp_compile.proofs.schema.algorithms_of.Goals as goal

pub returns-clause-functions : goal.returns-clause-functions
returns-clause-functions c = c.in_ok-functions.ensures ∙ functions-found c.args.schema.now.named.schema c.args.declared.now c.functions.result.now c.requires c.functions.ensures

pub returns-clause-rules : goal.returns-clause-rules
returns-clause-rules c = c.in_ok-rules.ensures ∙ rules-found c.args.schema.now.named.schema c.args.declared.now c.rules.result.now c.requires c.rules.ensures
