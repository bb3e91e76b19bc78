use Rattle.std.proofs.Common.{◌≡◌, ◌+◌, ◌∙◌, true, false, List, [], ◌∷◌, sym}
use Rattle.rp_rows.specs.Rows.{key_of}
use Rattle.rp_plain.specs.declared.messages.Request.TheVariants.{Validate}
use Rattle.rp_delivery.specs.Names.{me, group_name}
use Rattle.rp_delivery.specs.Requests.{mine, include, is_refused, IsAnswered}
use Rattle.rp_delivery.proofs.TurnLemmas.{answer_listed, taken_more}
use Rattle.rp_delivery.proofs.requests.validate_listed.Goals as goal

pub returns-then-is_refused : goal.returns-then-is_refused
returns-then-is_refused c =
    let ask = c.ask-included in
    let answered : IsAnswered c.loop-place.repository.content ask.new.repository.content (include (c.loop-place.place + 1)) ask.result = rw (c.in_ok-group.ensures, c.in_ok-model.ensures) at ask.ensures.answered in
    let refused : is_refused ask.result ≡ true = sym c.is_refused.ensures ∙ c.if-is_refused.true in
    answer_listed c.args.repository.now.content c.loop-place.repository.content ask.new.repository.content c.loop-place.place c.args.count ask.result c.loop-place-test.true c.loop-place.invariant.1 answered refused
    (mine (Validate (key_of me group_name)) ∷ [])

pub loop-place-preserved : goal.loop-place-preserved
loop-place-preserved c =
    let ask = c.ask-included in
    let answered : IsAnswered c.loop-place.repository.content ask.new.repository.content (include (c.loop-place.place + 1)) ask.result = rw (c.in_ok-group.ensures, c.in_ok-model.ensures) at ask.ensures.answered in
    let taken : is_refused ask.result ≡ false = sym c.is_refused.ensures ∙ c.if-is_refused.false in
    (ask.ensures.same, taken_more c.args.repository.now.content c.loop-place.repository.content ask.new.repository.content c.loop-place.place ask.result c.loop-place.invariant.1 answered taken)
