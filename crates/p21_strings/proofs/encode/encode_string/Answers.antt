use Rattle.std.proofs.Common.{rules, ◌≡◌, true}
use Rattle.std.specs.List.{list_all}
use Rattle.p21_escapes.specs.Encoding.{is_itself}
use Rattle.p21_escapes.proofs.Runs.{encoded-themselves}
use Rattle.p21_strings.proofs.encode.encode_string.Goals as goal

pub returns-then-are_themselves-clause-ok : goal.returns-then-are_themselves-clause-ok
returns-then-are_themselves-clause-ok c =
    let all : list_all is_itself c.args.text.now ≡ true = search rules in
    rw (encoded-themselves c.args.text.now all) (search rules)
