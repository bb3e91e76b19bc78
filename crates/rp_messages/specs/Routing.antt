-- Which request a message is.
use Rattle.std.specs.Prelude.{ℕ, true, List, if◌then◌else◌, Option, Some, None, option_and_then}
use Rattle.std.specs.Str.{bytes_eq}
use Rattle.rp_rows.specs.Rows.{key_of}
use Rattle.rp_plain.specs.declared.messages.Request.{Request}
use Rattle.rp_plain.specs.declared.messages.Request.TheVariants.{Schemas, ListItems, Names, Export, Members}
use Rattle.rp_requests.specs.declared.asks.RequestLine.{RequestLine}
use Rattle.rp_requests.specs.Asks.{asked_of}
use Rattle.http_messages.specs.Next.{Parts, Call}
use Rattle.http_routes.specs.Paths.{Place, ToRequest, ToSchemas, ToItems, ToModel, ToFile, ToGroup, path_of, method_of}
use Rattle.http_routes.specs.Tokens.{place_among}
use Rattle.http_routes.specs.declared.answers.Bare.{Bare}
use Rattle.http_routes.specs.declared.answers.Bare.TheVariants.{Unauthorized, NotFound, MethodNotAllowed}

-- ---- what a head decides

-- the partner with this token asks by this path; or the answer, whatever the body is
pub data Headed : Type 0 where
  Goes : ℕ → Place → Headed
  Stops : Bare → Headed

abbrev pub by_method : ℕ → Place → List ℕ → Headed
by_method partner place method = if bytes_eq method (method_of place) then Goes partner place else Stops MethodNotAllowed

abbrev pub by_path : ℕ → Option Place → List ℕ → Headed
by_path partner None method = Stops NotFound
by_path partner (Some place) method = by_method partner place method

abbrev pub by_caller : Option ℕ → Option Place → List ℕ → Headed
by_caller None place method = Stops Unauthorized
by_caller (Some partner) place method = by_path partner place method

-- the token first, then the path, then the method
abbrev pub headed : List (List ℕ) → Parts → Headed
headed tokens parts = by_caller (option_and_then (place_among tokens) parts.token) (path_of parts.target) parts.method

-- ---- what a message asks for

abbrev pub if_unnamed : Option (List ℕ) → Request → Option Request
if_unnamed None request = Some request
if_unnamed (Some name) request = None

-- the request of a body, which names no caller: the token does
abbrev pub unnamed : RequestLine → Option Request
unnamed asked = if_unnamed asked.caller asked.request

abbrev pub request_at : Place → List ℕ → Option Request
request_at ToRequest body = option_and_then unnamed (asked_of body)
request_at ToSchemas body = Some Schemas
request_at ToItems body = Some ListItems
request_at (ToModel owner name) body = Some (Names (key_of owner name))
request_at (ToFile owner name) body = Some (Export (key_of owner name) true)
request_at (ToGroup owner name) body = Some (Members (key_of owner name))

-- a partner's request, by his place among those with tokens; his body, which is none; or the answer to the head
pub data Routed : Type 0 where
  Asks : ℕ → Request → Routed
  Unreadable : Routed
  Unasked : Bare → Routed

abbrev pub by_request : ℕ → Option Request → Routed
by_request partner None = Unreadable
by_request partner (Some request) = Asks partner request

abbrev pub by_head : Headed → List ℕ → Routed
by_head (Goes partner place) body = by_request partner (request_at place body)
by_head (Stops bare) body = Unasked bare

abbrev pub routed : List (List ℕ) → Call → Routed
routed tokens call = by_head (headed tokens call.parts) call.body
