use Rattle.std.proofs.Common.{◌≡◌, ◌<◌, length, None, ap, ◌∙◌, arith}
use Rattle.json.specs.Json.{after_end_array, parse_map, value}
use Rattle.serde_json.specs.Data.{item}
use Rattle.serde_json.specs.Read.{of_json, converted}
use Rattle.serde_json.specs.View.{view}
use Rattle.shallow_json.specs.Shallow.{plain}
use Rattle.shallow_json.proofs.Reading.{item_refused, items_over}
use Rattle.shallow_json.proofs.Shallow.{mapped_some}
use Rattle.rp_requests.specs.Kept.{items_read, plain_items}
use Rattle.rp_requests.proofs.PlaceLemmas.{item_and_more}
use Rattle.rp_requests.proofs.values.next_item.Goals as goal

pub returns-then-take_end_array-clause-ok : goal.returns-then-take_end_array-clause-ok
returns-then-take_end_array-clause-ok c =
    let old = c.args.reader.now in
    items_over (value 125) (length old) old c.take_end_array.new.self (omega arith) c.if-take_end_array.ensures

pub returns-in_err-read_member-clause-bad : goal.returns-in_err-read_member-clause-bad
returns-in_err-read_member-clause-bad c refused =
    let old = c.args.reader.now in
    let going : (after_end_array old ≡ None) × (c.take_end_array.new.self ≡ old) = grind arith in
    item_refused (value 125) (length old) old going.0 (rw (← going.1) (c.read_member.ensures.bad (grind arith)))

pub returns-clause-ok : goal.returns-clause-ok
returns-clause-ok c =
    let old = c.args.reader.now in
    let r = c.read_member.new.reader in
    let going : (after_end_array old ≡ None) × (c.take_end_array.new.self ≡ old) = grind arith in
    let less : length r < length old = rw (← going.1) c.in_ok-read_member.ensures.shorter in
    let read = mapped_some plain (converted of_json (value 125 old)) (view c.in_ok-read_member.field-0) r (rw (← going.1) c.in_ok-read_member.ensures.ok) in
    item_and_more old r read.0 going.0 read.1 less ∙ ap (λ d. parse_map (item d) (parse_map plain_items (items_read r))) read.2
