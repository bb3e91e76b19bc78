use Rattle.std.proofs.Common.{◌≡◌, ◌-◌, ◌<◌, length, Some, None, sym, ap, ◌∙◌, arith}
use Rattle.json.specs.Json.{after_end_array, parse_map, value}
use Rattle.serde_json.specs.Read.{of_json, converted}
use Rattle.serde_json.specs.View.{view}
use Rattle.shallow_json.specs.Shallow.{flat}
use Rattle.shallow_json.proofs.Reading.{item_read, item_refused, items_over}
use Rattle.shallow_json.proofs.Shallow.{mapped_some}
use Rattle.rp_requests.specs.Asks.{link_of, links_of}
use Rattle.rp_requests.proofs.KeptLemmas.{mapped_none}
use Rattle.rp_requests.proofs.LinkLemmas.{behind, one_more, item_linked, first_linked, behind_all}
use Rattle.rp_requests.proofs.ShallowMembers.{link_of-flat}
use Rattle.rp_requests.proofs.links.read_items.Goals as goal

pub items-init : goal.items-init
items-init c = (length c.args.reader.now, omega arith, first_linked _ _ c.new.ensures, omega arith)

pub items-preserved : goal.items-preserved
items-preserved c =
    let p = value 125 in
    let l = c.items in
    let n = l.invariant.0 in
    let going : (after_end_array l.reader ≡ None) × (c.take_end_array.new.self ≡ l.reader) = grind arith in
    let r = c.read_flat.new.reader in
    let less : length r < length l.reader = rw (← going.1) c.in_ok-read_flat.ensures.shorter in
    let read = mapped_some flat (converted of_json (p l.reader)) (view c.in_ok-read_flat.field-0) r (rw (← going.1) c.in_ok-read_flat.ensures.ok) in
    let link : c.link_of-link.result ≡ link_of read.0 = c.link_of-link.ensures ∙ ap link_of (sym read.2) ∙ link_of-flat read.0 in
    let links : c.in_ok-links.links ≡ one_more l.links (link_of read.0) = c.in_ok-links.ensures ∙ ap (one_more l.links) link in (
      n - 1,
      omega (arith, l.invariant.1),
      l.invariant.2 ∙ ap (parse_map (λ ds. behind l.links (links_of ds))) (item_read p n l.reader r read.0 (omega (arith, l.invariant.1)) going.0 read.1)
          ∙ item_linked l.links _ read.0 _ links,
      omega (arith, l.invariant.3),
    )

pub returns-in_err-read_flat-clause-bad : goal.returns-in_err-read_flat-clause-bad
returns-in_err-read_flat-clause-bad c refused =
    let p = value 125 in
    let l = c.items in
    let n = l.invariant.0 in
    let going : (after_end_array l.reader ≡ None) × (c.take_end_array.new.self ≡ l.reader) = grind arith in
    mapped_none links_of _ (l.invariant.2 ∙ ap (parse_map (λ ds. behind l.links (links_of ds))) (item_refused p n l.reader going.0 (rw (← going.1) (c.read_flat.ensures.bad (grind arith)))))

pub returns-clause-ok : goal.returns-clause-ok
returns-clause-ok c =
    let l = c.items in
    let n = l.invariant.0 in
    l.invariant.2 ∙ ap (parse_map (λ ds. behind l.links (links_of ds))) (items_over (value 125) n l.reader c.take_end_array.new.self l.invariant.1 (grind arith))
    ∙ ap (λ links. Some (links, c.take_end_array.new.self)) (behind_all l.links)
