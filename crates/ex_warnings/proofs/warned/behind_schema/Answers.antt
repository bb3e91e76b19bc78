use Rattle.std.proofs.Common.{◌≡◌, None, rules}
use Rattle.ex_warnings.proofs.Names.{other_schema, behind_dot}
use Rattle.ex_warnings.proofs.warned.behind_schema.Goals as goal

pub returns-in_err-strip_prefix : goal.returns-in_err-strip_prefix
returns-in_err-strip_prefix c =
    let none : c.from_residual.result ≡ None = search rules in
    rw none (other_schema c.args.schema.now c.args.text.now c.in_err-strip_prefix.ensures.cases)

pub returns : goal.returns
returns c = behind_dot c.args.schema.now c.args.text.now c.in_ok-strip_prefix.field-0 c.strip_prefix-2.result c.in_ok-strip_prefix.ensures.cases c.strip_prefix-2.ensures.cases
