-- What is written for a reply.
use Rattle.std.specs.Prelude.{ℕ, List}
use Rattle.rp_plain.specs.declared.messages.Reply.{Reply}
use Rattle.rp_plain.specs.declared.messages.Reply.TheVariants.{Refused}
use Rattle.rp_plain.specs.declared.messages.Refusal.{Refusal}
use Rattle.rp_plain.specs.declared.messages.Refusal.TheVariants.{BadRequest, TooLarge, BadName, UnknownPartner, UnknownSchema, NoSuchItem, NoRight, NoSuchInstance, NoMemory}
use Rattle.rp_replies.specs.Replies.{reply_text}
use Rattle.http_routes.specs.Answers.{answer_text, bare_text, bare_status}
use Rattle.http_routes.specs.declared.answers.Bare.{Bare}

-- the status of a refusal; one of what is held, or of a file's content, is a conflict
abbrev pub refusal_status : Refusal → ℕ
refusal_status BadRequest = 400
refusal_status TooLarge = 413
refusal_status BadName = 400
refusal_status UnknownPartner = 400
refusal_status UnknownSchema = 400
refusal_status NoSuchItem = 404
refusal_status NoRight = 403
refusal_status NoSuchInstance = 404
refusal_status NoMemory = 503
refusal_status _ = 409

abbrev pub reply_status : Reply → ℕ
reply_status (Refused refusal) = refusal_status refusal
reply_status _ = 200

-- the bytes of a reply: its JSON with a head before it
abbrev pub answer_of_reply : Reply → List ℕ
answer_of_reply reply = answer_text (reply_status reply) (reply_text reply)

-- what a message is answered: a reply of the repository, or a status alone
pub data Answer : Type 0 where
  Told : Reply → Answer
  Barely : Bare → Answer

-- the bytes of an answer
abbrev pub answer_bytes : Answer → List ℕ
answer_bytes (Told reply) = answer_of_reply reply
answer_bytes (Barely bare) = bare_text (bare_status bare)
