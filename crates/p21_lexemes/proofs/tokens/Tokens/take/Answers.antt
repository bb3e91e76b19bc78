use Rattle.std.proofs.Common.{◌-◌, ◌∙◌, sym, length}
use Rattle.p21_lexemes.proofs.Cursor.{has_len, has_turn, first_is}
use Rattle.p21_lexemes.proofs.tokens.Tokens.take.Goals as goal

pub advance-requires : goal.advance-requires
advance-requires c =
    let t = c.self.inside in
    let other = sym c.same_kind.ensures.value ∙ c.if-same_kind.false in
    rw (← c.self.view_is) (has_turn t.kind t.fault t.len (t.end - length t.left.now) t.left.now (has_len t.kind t.len c.self.invariant.ended other))

pub returns-clause-token : goal.returns-clause-token
returns-clause-token c =
    let t = c.self.inside in
    let other = sym c.same_kind.ensures.value ∙ c.if-same_kind.false in
    rw (← c.self.view_is) (first_is t.kind t.fault t.len (t.end - length t.left.now) t.left.now (has_len t.kind t.len c.self.invariant.ended other))
