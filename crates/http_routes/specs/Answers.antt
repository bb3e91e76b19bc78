-- The bytes of answers.
use Rattle.std.specs.Prelude.{ℕ, List, [], ◌∷◌, ◌++◌, length, codes, decimal, unwrap_or}
use Rattle.http.specs.StatusCode.{code_digits, reason_phrase}
use Rattle.http_messages.specs.declared.message.Fault.{Fault}
use Rattle.http_messages.specs.declared.message.Fault.TheVariants.{BadHead, BadBodyLength, BodyTooLarge, HeadTooLarge, CodedBody}
use Rattle.http_routes.specs.declared.answers.Bare.{Bare}
use Rattle.http_routes.specs.declared.answers.Bare.TheVariants.{Unauthorized, NotFound, MethodNotAllowed}

-- the phrase of a status
unfoldable pub phrase_of : ℕ → List ℕ
phrase_of status = unwrap_or (reason_phrase status) []

-- the first line, by the status and its phrase
abbrev pub status_line : ℕ → List ℕ
status_line status = codes "HTTP/1.1 " ++ code_digits status ++ 32 ∷ phrase_of status ++ codes "\r\n"

-- what stands before a body of JSON of so many bytes
abbrev pub head_text : ℕ → ℕ → List ℕ
head_text status size = status_line status ++ codes "Content-Type: application/json\r\nContent-Length: " ++ decimal size ++ codes "\r\n\r\n"

-- an answer with a body
abbrev pub answer_text : ℕ → List ℕ → List ℕ
answer_text status body = head_text status (length body) ++ body

-- an answer without one
abbrev pub bare_text : ℕ → List ℕ
bare_text status = status_line status ++ codes "Content-Length: 0\r\n\r\n"

-- the status for a request that can't come
abbrev pub fault_status : Fault → ℕ
fault_status BadHead = 400
fault_status BadBodyLength = 400
fault_status BodyTooLarge = 413
fault_status HeadTooLarge = 431
fault_status CodedBody = 501

-- the status for a head that asks for nothing
abbrev pub bare_status : Bare → ℕ
bare_status Unauthorized = 401
bare_status NotFound = 404
bare_status MethodNotAllowed = 405

-- the answer for want of memory
abbrev pub no_memory_text : List ℕ
no_memory_text = answer_text 503 (codes "{\"refused\":{\"code\":18,\"name\":\"NoMemory\"}}")
