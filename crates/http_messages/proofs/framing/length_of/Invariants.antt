use Rattle.std.proofs.Common.{◌≡◌, map, drop, None}
use Rattle.httparse.specs.Spans.{header_bytes}
use Rattle.http_messages.specs.Framing.{length_from}
use Rattle.http_messages.proofs.framing.length_of.Given as goal

abbrev pub invariant-loop-field : goal.invariant-loop-field
invariant-loop-field l = length_from None (map (header_bytes l.buf) l.fields) ≡ length_from l.found (map (header_bytes l.buf) (drop l.field-index l.fields))
