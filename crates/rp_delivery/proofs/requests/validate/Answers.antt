use Rattle.std.proofs.Common.{◌≡◌, ◌∙◌, true, false, sym}
use Rattle.rp_delivery.specs.Requests.{create_group, listing, is_refused, IsAnswered}
use Rattle.rp_delivery.proofs.TurnLemmas.{answer_first, if_behind}
use Rattle.rp_delivery.proofs.requests.validate.Goals as goal

pub returns-then-is_refused : goal.returns-then-is_refused
returns-then-is_refused c =
    let old = c.args.repository.now.content in
    let ask = c.ask-created in
    let answered : IsAnswered old ask.new.repository.content (create_group c.args.schema.now) ask.result = rw (c.in_ok-name.ensures, c.in_ok-schema.ensures) at ask.ensures.answered in
    answer_first old ask.new.repository.content (create_group c.args.schema.now) (listing c.args.count) ask.result answered (sym c.is_refused.ensures ∙ c.if-is_refused.true)

pub returns : goal.returns
returns c =
    let old = c.args.repository.now.content in
    let ask = c.ask-created in
    let answered : IsAnswered old ask.new.repository.content (create_group c.args.schema.now) ask.result = rw (c.in_ok-name.ensures, c.in_ok-schema.ensures) at ask.ensures.answered in
    if_behind old ask.new.repository.content (create_group c.args.schema.now) (listing c.args.count) ask.result c.validate_listed.result answered (sym c.is_refused.ensures ∙ c.if-is_refused.false) c.validate_listed.ensures
