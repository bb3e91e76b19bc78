use Rattle.std.proofs.Common.{◌≡◌, List}
use Rattle.text_forms.specs.Forms.{repeat, turns}
use Rattle.p21_lexemes.specs.Tokens.{sees}
use Rattle.p21_lexemes.specs.declared.token.TokenKind.TheVariants as k
use Rattle.p21_tree.specs.declared.instance.Instance as tree
use Rattle.p21_grammar.specs.Grammar as grammar
use Rattle.p21_grammar.proofs.visited.show_all.Given as goal

abbrev pub invariant-instances : goal.invariant-instances
invariant-instances g l =
    (first : g.row.V.Denot) (xs : List tree.Instance) → g.V.Visitor.becomes first xs l.fn.visitor
    → (ys : List tree.Instance) × (g.V.Visitor.becomes first ys l.visitor × (repeat (sees k.Name) grammar.instance xs l.fn.source ≡ repeat (sees k.Name) grammar.instance ys l.source))

abbrev pub decreases-instances : goal.decreases-instances
decreases-instances g l = turns l.source
