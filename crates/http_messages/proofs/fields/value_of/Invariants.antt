use Rattle.std.proofs.Common.{◌≡◌, map, drop}
use Rattle.httparse.specs.Spans.{header_bytes}
use Rattle.http_messages.specs.Fields.{first_named}
use Rattle.http_messages.proofs.fields.value_of.Given as goal

abbrev pub invariant-loop-field : goal.invariant-loop-field
invariant-loop-field l = first_named l.name (map (header_bytes l.buf) l.fields) ≡ first_named l.name (map (header_bytes l.buf) (drop l.field-index l.fields))
