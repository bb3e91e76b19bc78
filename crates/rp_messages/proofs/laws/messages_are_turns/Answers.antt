use Rattle.rp_messages.proofs.MessageTurns.{messages_are_turns}
use Rattle.rp_messages.proofs.laws.messages_are_turns.Goals as goal

pub returns : goal.returns
returns c = messages_are_turns
