-- Canonical text is read where the file's value was.
use Rattle.std.proofs.Common.{◌≡◌, ℕ, List, Some, Ok, le_trans}
use Rattle.ex_named.specs.declared.declaration.NamedType.{NamedType}
use Rattle.ex_named.specs.declared.expression.NamedDataType.{NamedDataType}
use Rattle.p21_grammar.specs.Grammar.{value_at}
use Rattle.p21_spelling.proofs.WellSpelled.{value_levels, value_spelled}
use Rattle.p21_spelling.proofs.Values.{value_again}
use Rattle.p21_spelling.specs.Again.{ReadsAgain}
use Rattle.p21_spelling.specs.Values.{text_of}
use Rattle.p21_lexemes.specs.Tokens.{Lexemes, lexemes}
use Rattle.p21_tree.specs.declared.value.Value as tree
use Rattle.p21_values.specs.Taking.{bound}
use Rattle.p21_canonical.specs.Trees.{value_tree}
use Rattle.rp_value.specs.declared.value.Value.{Value}
use Rattle.p21_laws.proofs.Taken.{bound_levels, bound_spelled}
use Rattle.p21_laws.specs.Types.{AreTypes}

pub text_again : (types : List NamedType) → AreTypes types → (d : NamedDataType) (x : tree.Value) (w : Value) (n at : ℕ) (file : List ℕ) (after : Lexemes) → value_at n (lexemes at file) ≡ Ok (x, after)
    → bound types d x ≡ Some w → ReadsAgain (value_at n) (text_of (value_tree types w)) (value_tree types w)
text_again types are d x w n at file after read e =
    value_again (value_tree types w) n (bound_spelled types are d x w e (value_spelled x n at file after read))
    (le_trans (bound_levels types are d x w e) (value_levels x n at file after read))
