use Rattle.std.proofs.Common.{sym, arith}
use Rattle.std.proofs.lemmas.List.{take_all}
use Rattle.http_messages.proofs.message.head_part.Goals as goal

pub returns-then-buf-lt-HEAD_LIMIT-clause-cut : goal.returns-then-buf-lt-HEAD_LIMIT-clause-cut
returns-then-buf-lt-HEAD_LIMIT-clause-cut c = sym (take_all 16384 c.args.buf.now (omega arith))
