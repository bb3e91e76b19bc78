use Rattle.std.proofs.Common.{◌≡◌, ℕ, codes, List, [], Option, Ok, Err, ◌∙◌, ap, refl, subst, sym}
use Rattle.std.specs.Prelude.{IfSome}
use Rattle.text_forms.specs.Forms.{Outcome, and_then}
use Rattle.p21_lexemes.specs.Tokens.{Lexemes, expect, word}
use Rattle.p21_lexemes.specs.declared.token.TokenKind.TheVariants as k
use Rattle.p21_tree.specs.declared.fault.FileFault.{FileFault}
use Rattle.p21_tree.specs.declared.instance.Instance.{Instance}
use Rattle.p21_tree.specs.declared.raw.Section.{Section}
use Rattle.p21_grammar.specs.declared.whole.Body.{Body}
use Rattle.p21_grammar.specs.Header.{line}
use Rattle.p21_grammar.specs.File.{data_section, section}
use Rattle.p21_grammar.specs.Grammar.{instances}
use Rattle.p21_grammar.specs.Visited.{Shown, of_instances, of_body}
use Rattle.p21_grammar.proofs.visited.show_section.Goals as goal

-- what follows the front of a data section
abbrev after : Option Section → Outcome Lexemes FileFault (List Instance) → Outcome Lexemes FileFault Body
after named o = and_then o (λ found t. and_then (line (codes "ENDSEC") t) (λ _ u. Ok (record { section = named; instances = found }, u)))

front : (s s1 s2 s3 : Lexemes) (named : Option Section) (text : List ℕ) → word (codes "DATA") s ≡ Ok (tt, s1) → section s1 ≡ Ok (named, s2) → expect k.Semicolon s2 ≡ Ok (text, s3)
    → data_section s ≡ after named (instances s3)
unfolding data_section
front s s1 s2 s3 named text a b d = rw (a, b, d) refl

back : {V : Type 0} (Becomes : List Instance → V → Type 0) (named : Option Section) (s4 s5 : Lexemes) (v : V) (o : Outcome Lexemes FileFault (List Instance))
    → Shown Becomes of_instances tt s4 v o → line (codes "ENDSEC") s4 ≡ Ok (tt, s5) → Shown Becomes of_body named s5 v (after named o)
back Becomes named s4 s5 v (Ok p) shown e = rw (shown.0.0, e) ((refl, refl), shown.1)
back Becomes named s4 s5 v (Err fault) shown e = cc

pub returns : goal.returns
unfolding instances
returns g c = λ first h.
    let e = front c.args.tokens.now c.expect_word.new.self c.section.new.tokens c.expect.new.self c.in_ok-section.section _ c.in_ok-expect_word.ensures.reads c.in_ok-section.ensures c.in_ok-expect.ensures.reads in
    let same = c.new-source.ensures ∙ c.replace.ensures.value in
    let becomes = g.V.Visitor.becomes first in
    let given : IfSome c.in_ok-show_all.field-0 (λ rest. Shown becomes of_instances rest c.show_all.new.source c.show_all.new.visitor (instances c.new-source.result)) = c.in_ok-show_all.ensures first [] h in
    let some = subst (λ o. IfSome o (λ rest. Shown becomes of_instances rest c.show_all.new.source c.show_all.new.visitor (instances c.new-source.result))) c.in-Some.is given in
    let shown = subst (λ s. Shown becomes of_instances tt c.show_all.new.source c.show_all.new.visitor (instances s)) same some in
    subst (Shown (g.V.Visitor.becomes first) of_body c.in_ok-section.section c.line.new.tokens c.show_all.new.visitor) (sym e)
    (back (g.V.Visitor.becomes first) c.in_ok-section.section c.show_all.new.source c.line.new.tokens c.show_all.new.visitor (instances c.expect.new.self) shown
    (ap (line (codes "ENDSEC")) (sym c.into_tokens.ensures) ∙ c.in_ok-line.ensures))
