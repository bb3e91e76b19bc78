-- Small lists, and what they denote.
use Rattle.std.proofs.Common.{◌≡◌, ℕ, List, [], ◌∷◌, Some, None, refl}
use Rattle.ex_named.specs.declared.reference.AttributePlace.{AttributePlace}
use Rattle.ex_tree.specs.declared.expression.BinaryOperator.TheVariants as operator
use Rattle.rp_value.specs.declared.value.Value.{Value}
use Rattle.rp_value.specs.declared.value.Value.TheVariants as v
use Rattle.rp_code.specs.declared.tree.CaseAction.{roll-CaseAction}
use Rattle.rp_code.specs.declared.tree.Expression.TheVariants as e
use Rattle.rp_code.specs.declared.tree.Operation.{roll-Operation}
use Rattle.rp_code.specs.declared.tree.Qualifier.TheVariants as q
use Rattle.rp_code.specs.declared.tree.Query.{roll-Query}
use Rattle.rp_code.specs.declared.tree.Statement.TheVariants as st
use Rattle.rp_code.specs.Denoted.{expression_of, statements_of}
use Rattle.rp_code.specs.declared.instruction.Instruction.TheVariants as i

-- `x.a > 3`
comparison : (x : ℕ) (a : List AttributePlace) (three : Value)
    → expression_of (i.Chain 3 ∷ i.QualifiedVariable x ∷ i.OfAttribute a ∷ i.End ∷ i.OperationBy operator.Greater three ∷ i.End ∷ [])
    ≡ e.Chain (e.Qualified (e.Variable x) (q.Attribute a ∷ [])) (roll-Operation (record { operator = operator.Greater; right = e.Literal three }) ∷ [])
comparison x a three = refl

-- the same with no nodes joined
in_full : (x : ℕ) (a : List AttributePlace) (three : Value)
    → expression_of (i.Chain 4 ∷ i.Qualified 1 ∷ i.Variable x ∷ i.OfAttribute a ∷ i.End ∷ i.Operation operator.Greater 1 ∷ i.Literal three ∷ i.End ∷ [])
    ≡ expression_of (i.Chain 3 ∷ i.QualifiedVariable x ∷ i.OfAttribute a ∷ i.End ∷ i.OperationBy operator.Greater three ∷ i.End ∷ [])
in_full x a three = refl

-- `CASE x OF 1, 2: RETURN (SELF); OTHERWISE: SKIP; END_CASE;`
chosen : (x : ℕ) (one two : Value)
    → statements_of (i.Item 13 ∷ i.Case 1 ∷ i.Variable x
    ∷ i.Labels 5 7 ∷ i.Item 1 ∷ i.Literal one ∷ i.Item 1 ∷ i.Literal two ∷ i.End ∷ i.Return ∷ i.Itself
    ∷ i.Otherwise 1 ∷ i.Skip ∷ i.End ∷ i.End ∷ [])
    ≡ st.Case (e.Variable x) (roll-CaseAction (record { labels = Some (e.Literal one ∷ e.Literal two ∷ []); statement = st.Return e.Itself })
    ∷ roll-CaseAction (record { labels = None; statement = st.Skip }) ∷ []) ∷ []
chosen x one two = refl

-- a condition that would begin past the end
past_the_end : (entity : ℕ) → expression_of (i.Query 9 ∷ i.Population entity ∷ []) ≡ e.Query (roll-Query (record { source = e.Population entity; condition = e.Literal v.Indet }))
past_the_end entity = refl
