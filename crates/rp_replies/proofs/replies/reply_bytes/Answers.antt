use Rattle.std.proofs.Common.{rules}
use Rattle.serde_json.proofs.Texts.{print-outline}
use Rattle.rp_replies.specs.Replies.{reply_data}
use Rattle.rp_replies.proofs.replies.reply_bytes.Goals as goal

pub returns : goal.returns
returns c = rw (← print-outline (reply_data c.args.reply.now)) (search rules)
