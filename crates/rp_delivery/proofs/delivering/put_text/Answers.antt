use Rattle.std.proofs.Common.{◌≡◌, ◌∙◌, true, false, [], ◌∷◌, sym}
use Rattle.rp_delivery.specs.Requests as request
use Rattle.rp_delivery.specs.Requests.{is_refused, Makes}
use Rattle.rp_delivery.specs.Deliveries.{name_of, place_for}
use Rattle.rp_delivery.proofs.PutLemmas.{put_more, put_refused}
use Rattle.rp_delivery.proofs.delivering.put_text.Goals as goal

pub returns-then-is_refused-clause-refused : goal.returns-then-is_refused-clause-refused
returns-then-is_refused-clause-refused c = λ files is _ r paths left were.
    let schemas = c.args.ground.now.schemas.now in
    let old = c.args.repository.now.content in
    let new = c.put.new.repository.content in
    let before = c.args.delivered.now.schema in
    let n = c.args.number in
    let text = c.args.text in
    let place = c.in_ok-delivered.field-0 in
    let reply = c.in_ok-reply.reply in
    let chosen : place ≡ place_for schemas n before text = rw c.as_bytes.ensures at c.in_ok-delivered.ensures in
    let makes : Makes old new (request.create (name_of schemas place) n ∷ request.put n text ∷ []) reply = rw c.name_at-schema.ensures at c.in_ok-reply.ensures.makes in
    let refused : is_refused reply ≡ true = sym c.is_refused.ensures ∙ c.if-is_refused.true in
    put_refused files schemas old new before place n c.args.path.now text is chosen reply makes refused r paths left were

pub returns-clause-put : goal.returns-clause-put
returns-clause-put c = λ files is _ r paths were.
    let schemas = c.args.ground.now.schemas.now in
    let old = c.args.repository.now.content in
    let new = c.put.new.repository.content in
    let before = c.args.delivered.now.schema in
    let n = c.args.number in
    let text = c.args.text in
    let place = c.in_ok-delivered.field-0 in
    let reply = c.in_ok-reply.reply in
    let chosen : place ≡ place_for schemas n before text = rw c.as_bytes.ensures at c.in_ok-delivered.ensures in
    let makes : Makes old new (request.create (name_of schemas place) n ∷ request.put n text ∷ []) reply = rw c.name_at-schema.ensures at c.in_ok-reply.ensures.makes in
    let taken : is_refused reply ≡ false = sym c.is_refused.ensures ∙ c.if-is_refused.false in
    put_more files schemas old new before place n c.args.path.now text is chosen reply makes taken r paths were
