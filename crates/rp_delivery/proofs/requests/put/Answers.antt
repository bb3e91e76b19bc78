use Rattle.std.proofs.Common.{◌≡◌, ◌∙◌, true, false, sym}
use Rattle.rp_delivery.specs.Requests.{create, put, IsAnswered}
use Rattle.rp_delivery.proofs.TurnLemmas.{makes_first, makes_both}
use Rattle.rp_delivery.proofs.requests.put.Goals as goal

pub returns-then-is_refused-clause-makes : goal.returns-then-is_refused-clause-makes
returns-then-is_refused-clause-makes c =
    let old = c.args.repository.now.content in
    let ask = c.ask-created in
    let t = create c.args.schema.now c.args.number in
    let answered : IsAnswered old ask.new.repository.content t ask.result = rw (c.in_ok-name.ensures, c.in_ok-schema.ensures) at ask.ensures.answered in
    makes_first old ask.new.repository.content t (put c.args.number c.args.file) ask.result answered (sym c.is_refused.ensures ∙ c.if-is_refused.true)

pub returns-clause-makes : goal.returns-clause-makes
returns-clause-makes c =
    let old = c.args.repository.now.content in
    let ask = c.ask-created in
    let t = create c.args.schema.now c.args.number in
    let u = put c.args.number c.args.file in
    let answered : IsAnswered old ask.new.repository.content t ask.result = rw (c.in_ok-name.ensures, c.in_ok-schema.ensures) at ask.ensures.answered in
    let behind : IsAnswered ask.new.repository.content c.ask.new.repository.content u c.ask.result = rw (c.in_ok-model.ensures, c.new-links.ensures) at c.ask.ensures.answered in
    makes_both old ask.new.repository.content c.ask.new.repository.content t u ask.result c.ask.result answered (sym c.is_refused.ensures ∙ c.if-is_refused.false) behind
