use Rattle.std.proofs.Common.{◌≡◌, map, drop, codes}
use Rattle.std.specs.List.{list_any}
use Rattle.httparse.specs.Spans.{header_bytes}
use Rattle.http_messages.specs.Framing.{is_named}
use Rattle.http_messages.proofs.framing.is_coded.Given as goal

abbrev pub invariant-loop-field : goal.invariant-loop-field
invariant-loop-field l =
    list_any (λ p. is_named p.0 (codes "transfer-encoding")) (map (header_bytes l.buf) l.fields)
    ≡ list_any (λ p. is_named p.0 (codes "transfer-encoding")) (map (header_bytes l.buf) (drop l.field-index l.fields))
