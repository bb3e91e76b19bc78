use Rattle.std.proofs.Common.{◌≡◌, ◌<◌, ◌∙◌, sym, ap, map, length, Ok, rules}
use Rattle.std.proofs.lemmas.List.{take_rest}
use Rattle.ex_lex.specs.Lexeme.{lexeme}
use Rattle.ex_lex.specs.Spelling.{behind, lexemes, of_length, tokens}
use Rattle.ex_lex.proofs.Lexemes.{lexemes-blank, lexemes-token, lexemes-fault, lexemes-end, behind-nothing, lexemes-found}
use Rattle.ex_lex.proofs.Rising.{tokens_rise}
use Rattle.ex_lex.proofs.Slices.{tokens_are_slices}
use Rattle.ex_lex.proofs.cut.tokens.Goals as goal

pub tokens-preserved-in-Blank : goal.tokens-preserved-in-Blank
tokens-preserved-in-Blank c =
    let z = c.tokens.left.now in
    let fits = c.in-Blank.ensures.within in
    let goes = lexemes-blank c.tokens.at c.in-Blank.len z (sym c.in-Blank.ensures.value) fits.0 fits.1 in
    (rw (take_rest z c.in-Blank.len) (ap (behind (map lexeme c.tokens.found.items)) (sym goes) ∙ c.tokens.invariant.0), search rules)

pub tokens-preserved : goal.tokens-preserved
tokens-preserved c =
    let z = c.tokens.left.now in
    let fits = c.in-Token.ensures.within in
    let goes = lexemes-token c.tokens.at c.in-Token.len c.in-Token.kind z (sym c.in-Token.ensures.value) fits.0 fits.1 in
    let goes_on = rw (← c.split_at.ensures.front, ← c.split_at.ensures.back) at goes in (
      lexemes-found c.tokens.found.items c.push.new.self.items _ (lexemes c.tokens.at z) _ c.in_ok-push-in-Token.ensures.items goes_on ∙ c.tokens.invariant.0,
      search rules,
    )

pub returns-in-Fault-clause-value : goal.returns-in-Fault-clause-value
unfolding tokens
returns-in-Fault-clause-value c =
    let z = c.tokens.left.now in
    let some : 0 < length z = search rules in
    let goes = lexemes-fault c.tokens.at c.in-Fault.kind z some (sym c.in-Fault.ensures.value) in
    ap (of_length (length c.args.text.now)) (sym c.tokens.invariant.0 ∙ ap (behind (map lexeme c.tokens.found.items)) goes)

pub returns-clause-value : goal.returns-clause-value
unfolding tokens
returns-clause-value c =
    let z = c.tokens.left.now in
    let none : length z ≡ 0 = search rules in
    let found = map lexeme c.tokens.found.items in
    let goes = ap (behind found) (lexemes-end c.tokens.at z none) ∙ behind-nothing found in
    ap (of_length (length c.args.text.now)) (sym c.tokens.invariant.0 ∙ goes) ∙ ap Ok (sym c.new.ensures)

pub returns-clause-slices : goal.returns-clause-slices
returns-clause-slices c =
    let text = c.args.text.now in
    let z = c.tokens.left.now in
    let none : length z ≡ 0 = search rules in
    let found = map lexeme c.tokens.found.items in
    let goes = ap (behind found) (lexemes-end c.tokens.at z none) ∙ behind-nothing found in
    rw c.new.ensures (tokens_are_slices text found (sym c.tokens.invariant.0 ∙ goes))

pub returns-clause-ascending : goal.returns-clause-ascending
returns-clause-ascending c =
    let text = c.args.text.now in
    let z = c.tokens.left.now in
    let none : length z ≡ 0 = search rules in
    let found = map lexeme c.tokens.found.items in
    let goes = ap (behind found) (lexemes-end c.tokens.at z none) ∙ behind-nothing found in
    rw c.new.ensures (tokens_rise text found (sym c.tokens.invariant.0 ∙ goes))
