-- What a model holds of a file whose instances are made: the header, and the order of the instances (ISO 10303-21:2002, clause 9).
use Rattle.std.specs.Prelude.{ℕ, pos, nat_lt, List, [], map, Option, Some, None}
use Rattle.p21_instances.specs.Instances.{in_order}
use Rattle.p21_escapes.specs.Decoding.{decoded}
use Rattle.p21_tree.specs.declared.header.Header as spelled_header
use Rattle.p21_tree.specs.declared.header.HeaderValue.{HeaderValue}
use Rattle.p21_tree.specs.declared.header.HeaderValue.TheFolds.{fold-HeaderValue}
use Rattle.p21_tree.specs.declared.header.HeaderValue.TheOpen.{HeaderValue-F}
use Rattle.p21_values.specs.Tokens.{ok}
use Rattle.rp_content.specs.declared.content.Content.{Content}
use Rattle.rp_content.specs.declared.header.Header.{Header}
use Rattle.rp_content.specs.declared.instance.Instance.{Instance}
use Rattle.rp_value.specs.declared.value.AggregateKind.TheVariants as aggregate
use Rattle.rp_value.specs.declared.value.Value.{Value}
use Rattle.rp_value.specs.declared.value.Value.TheVariants as v

-- ---- the header

-- Bytes that spell no characters, which no file has that was read, have no value.
abbrev pub text : Option (List ℕ) → Value
text None = v.Indet
text (Some characters) = v.Str characters

abbrev pub header_layer : HeaderValue-F Value → Value
header_layer HeaderValue-F.Unset = v.Indet
header_layer (HeaderValue-F.Text token) = text (ok (decoded token))
header_layer (HeaderValue-F.List values) = v.Agg aggregate.List (record { low = pos 1; items = values })

unfoldable pub header_value : HeaderValue → Value
header_value = fold-HeaderValue Value header_layer

abbrev pub header : spelled_header.Header → Header
header h = record { description = map header_value h.description; name = map header_value h.name }

-- ---- the instances

-- the instances stand in the order of their names
abbrev pub content : spelled_header.Header → List Instance → Content
content h xs = record { header = header h; instances = in_order (λ x y. nat_lt x.name y.name) xs; links = [] }
