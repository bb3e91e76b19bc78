use Rattle.std.proofs.Common.{◌≡◌, ◌≤◌, ◌-◌, length, sym, ap, subst, ◌∙◌, arith}
use Rattle.rp_http.specs.declared.inbox.Coming.{Coming}
use Rattle.rp_http.specs.Inboxes.{State, Gathers, Skips, state_of, IsSound, IsComing, room_of, Holds}
use Rattle.rp_http.proofs.Inboxes.{coming_more, drops, gathers_more, skips_more}
use Rattle.rp_http.proofs.inbox.Inbox.receive.Goals as goal

pub invariant_of-self-else-is_err : goal.invariant_of-self-else-is_err
invariant_of-self-else-is_err c =
    let sound = subst (λ (k : Coming). IsSound c.self.inside.held.items k) c.in-Body.is c.self.invariant.1 in
    let view : c.args.self.now ≡ Gathers c.in-Body.bytes.items c.in-Body.size c.in-Body.stays = sym c.self.view_is ∙ ap (λ (k : Coming). state_of c.self.inside.held.items k) c.in-Body.is in
    let room : length c.args.piece.now ≤ c.in-Body.size - length c.in-Body.bytes.items = subst (λ (s : State). length c.args.piece.now ≤ room_of s) view c.requires in
    let items = rw c.if-is_err.ensures.negation at c.extend_from_slice.ensures.items in
    (c.self.invariant.0, (sound.0, subst (λ b. IsComing b c.in-Body.size c.in-Body.stays) (sym items) (coming_more c.in-Body.bytes.items c.args.piece.now c.in-Body.size c.in-Body.stays sound.1 (omega (arith, room, sound.1.within)))))

pub returns-then-is_err-clause-holds : goal.returns-then-is_err-clause-holds
returns-then-is_err-clause-holds c = λ tokens came holds.
    let view : c.args.self.now ≡ Gathers c.in-Body.bytes.items c.in-Body.size c.in-Body.stays = sym c.self.view_is ∙ ap (λ (k : Coming). state_of c.self.inside.held.items k) c.in-Body.is in
    let room : length c.args.piece.now ≤ c.in-Body.size - length c.in-Body.bytes.items = subst (λ (s : State). length c.args.piece.now ≤ room_of s) view c.requires in
    let items = rw c.if-is_err.ensures.negation at c.extend_from_slice.ensures.items in
    drops tokens came c.args.piece.now c.in-Body.bytes.items c.in-Body.size _ c.in-Body.stays c.drop_body.new.self (subst (λ (s : State). Holds tokens came s) view holds) room (omega (arith, c.len.ensures, ap length items)) c.drop_body.ensures

pub returns-else-is_err-clause-holds : goal.returns-else-is_err-clause-holds
returns-else-is_err-clause-holds c = λ tokens came holds.
    let view : c.args.self.now ≡ Gathers c.in-Body.bytes.items c.in-Body.size c.in-Body.stays = sym c.self.view_is ∙ ap (λ (k : Coming). state_of c.self.inside.held.items k) c.in-Body.is in
    let room : length c.args.piece.now ≤ c.in-Body.size - length c.in-Body.bytes.items = subst (λ (s : State). length c.args.piece.now ≤ room_of s) view c.requires in
    gathers_more tokens came c.args.piece.now c.in-Body.bytes.items _ c.in-Body.size c.in-Body.stays (subst (λ (s : State). Holds tokens came s) view holds) room (rw c.if-is_err.ensures.negation at c.extend_from_slice.ensures.items)

pub returns-in-Skip-clause-holds : goal.returns-in-Skip-clause-holds
returns-in-Skip-clause-holds c = λ tokens came holds.
    let view : c.args.self.now ≡ Skips c.in-Skip.left c.in-Skip.field-1 c.in-Skip.field-2 = sym c.self.view_is ∙ ap (λ (k : Coming). state_of c.self.inside.held.items k) c.in-Skip.is in
    let room : length c.args.piece.now ≤ c.in-Skip.left = subst (λ (s : State). length c.args.piece.now ≤ room_of s) view c.requires in
    skips_more tokens came c.args.piece.now c.in-Skip.left c.in-Skip.field-1 c.in-Skip.field-2 (subst (λ (s : State). Holds tokens came s) view holds) room
