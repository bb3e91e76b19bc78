use Rattle.std.proofs.Common.{rules, arith, [], ◌∷◌, ◌++◌, ◌∙◌, refl}
use Rattle.std.proofs.lemmas.Grind.{common_steps}
use Rattle.text_forms.specs.Forms.{turns}
use Rattle.text_forms.proofs.Repeat.{repeat_turn, repeat_done}
use Rattle.p21_lexemes.specs.Tokens.{sees}
use Rattle.p21_lexemes.specs.declared.token.TokenKind.TheVariants as k
use Rattle.p21_grammar.specs.Grammar as grammar
use Rattle.p21_grammar.proofs.visited.show_all.Goals as goal

pub instances-init : goal.instances-init
instances-init g c = λ first xs h. (xs, (h, refl))

pub instances-preserved : goal.instances-preserved
instances-preserved g c = λ first xs h.
    let inv = c.instances.invariant first xs h in
    let e = inv.1.1 ∙ repeat_turn turns (sees k.Name) grammar.instance inv.0 c.instances.source (cc) in
    let goes_on = c.in_ok-visit.ensures first inv.0 (first_of (cc, search rules)) inv.1.0 in
    (inv.0 ++ c.in_ok-next.next ∷ [], (goes_on, first_of (search rules, grind (arith, common_steps))))

pub returns : goal.returns
returns g c = λ first xs h.
    let inv = c.instances.invariant first xs h in
    let e = inv.1.1 ∙ repeat_done turns (sees k.Name) grammar.instance inv.0 c.instances.source (cc) in
    first_of (search rules, grind (arith, common_steps))
