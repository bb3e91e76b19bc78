use Rattle.std.proofs.Common.{arith}
use Rattle.rp_requests.specs.Asks.{place_of}
use Rattle.rp_requests.proofs.KeptLemmas.{list_read, list_unread}
use Rattle.rp_requests.proofs.places.read_place.Goals as goal

pub returns-in_err-read_items-in-None-clause-bad : goal.returns-in_err-read_items-in-None-clause-bad
returns-in_err-read_items-in-None-clause-bad c refused =
    list_unread c.args.reader.now c.read_unless_list.new.reader c.in_ok-value.field-0 c.in-None.is c.in_ok-value.ensures.ok (c.read_items.ensures.bad (grind arith))

pub returns-in_ok-read_items-in-None-clause-ok : goal.returns-in_ok-read_items-in-None-clause-ok
returns-in_ok-read_items-in-None-clause-ok c =
    list_read place_of c.args.reader.now c.read_unless_list.new.reader c.read_items.new.reader c.in_ok-value.field-0 c.in_ok-read_items-in-None.field-0 c.in-None.is c.in_ok-value.ensures.ok
    c.in_ok-read_items-in-None.ensures.ok
