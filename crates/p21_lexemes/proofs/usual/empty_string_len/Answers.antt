use Rattle.std.proofs.Common.{rules}
use Rattle.p21_lexemes.proofs.Empty.{empty_string}
use Rattle.p21_lexemes.proofs.usual.empty_string_len.Goals as goal

pub returns-then-byte-ne39 : goal.returns-then-byte-ne39
returns-then-byte-ne39 c = (empty_string c.args.z.now (search rules) (search rules), search rules)
