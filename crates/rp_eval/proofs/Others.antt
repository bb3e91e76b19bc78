-- Instructions with which no expression begins.
use Rattle.std.proofs.Common.{◌≡◌, ℕ, Option, refl}
use Rattle.ex_named.specs.declared.reference.AttributePlace.{AttributePlace}
use Rattle.ex_tree.specs.declared.expression.BuiltInFunction.{BuiltInFunction}
use Rattle.ex_tree.specs.declared.expression.IntervalOperator.{IntervalOperator}
use Rattle.ex_tree.specs.declared.expression.UnaryOperator.{UnaryOperator}
use Rattle.rp_value.specs.declared.value.Value.{Value}
use Rattle.rp_value.specs.declared.value.Value.TheVariants as v
use Rattle.rp_code.specs.Denoted.{Tree, as_expression}
use Rattle.rp_code.specs.declared.instruction.Instruction.{Instruction}
use Rattle.rp_code.specs.declared.instruction.Instruction.TheVariants as i
use Rattle.rp_code.specs.declared.role.Role.{Role}
use Rattle.rp_code.specs.declared.tree.Expression.TheVariants as e

pub no-expression : (part : ℕ → Tree) (first : Instruction)
    → ((x : Value) → first ≡ i.Literal x → ⊥)
    → (first ≡ i.Itself → ⊥)
    → ((slot : ℕ) → first ≡ i.Variable slot → ⊥)
    → ((a : AttributePlace) → first ≡ i.Attribute a → ⊥)
    → ((n : ℕ) → first ≡ i.Constant n → ⊥)
    → ((n : ℕ) → first ≡ i.Population n → ⊥)
    → ((n : ℕ) → first ≡ i.Call n → ⊥)
    → ((f : BuiltInFunction) → first ≡ i.BuiltIn f → ⊥)
    → ((r : Option Role) → first ≡ i.UsedIn r → ⊥)
    → ((o : UnaryOperator) → first ≡ i.Unary o → ⊥)
    → ((d : ℕ) → first ≡ i.Qualified d → ⊥)
    → ((slot : ℕ) → first ≡ i.QualifiedVariable slot → ⊥)
    → (first ≡ i.QualifiedItself → ⊥)
    → ((a : AttributePlace) → first ≡ i.QualifiedAttribute a → ⊥)
    → ((d : ℕ) → first ≡ i.Chain d → ⊥)
    → ((o : IntervalOperator) (d : ℕ) (p : IntervalOperator) (e : ℕ) → first ≡ i.Interval o d p e → ⊥)
    → ((d : ℕ) → first ≡ i.Query d → ⊥)
    → (first ≡ i.Initializer → ⊥)
    → as_expression part first ≡ e.Literal v.Indet
no-expression part (i.Literal x) h0 h1 h2 h3 h4 h5 h6 h7 h8 h9 h10 h11 h12 h13 h14 h15 h16 h17 = absurd (h0 x refl)
no-expression part i.Itself h0 h1 h2 h3 h4 h5 h6 h7 h8 h9 h10 h11 h12 h13 h14 h15 h16 h17 = absurd (h1 refl)
no-expression part (i.Variable slot) h0 h1 h2 h3 h4 h5 h6 h7 h8 h9 h10 h11 h12 h13 h14 h15 h16 h17 = absurd (h2 slot refl)
no-expression part (i.Attribute a) h0 h1 h2 h3 h4 h5 h6 h7 h8 h9 h10 h11 h12 h13 h14 h15 h16 h17 = absurd (h3 a refl)
no-expression part (i.Constant n) h0 h1 h2 h3 h4 h5 h6 h7 h8 h9 h10 h11 h12 h13 h14 h15 h16 h17 = absurd (h4 n refl)
no-expression part (i.Population n) h0 h1 h2 h3 h4 h5 h6 h7 h8 h9 h10 h11 h12 h13 h14 h15 h16 h17 = absurd (h5 n refl)
no-expression part (i.Call n) h0 h1 h2 h3 h4 h5 h6 h7 h8 h9 h10 h11 h12 h13 h14 h15 h16 h17 = absurd (h6 n refl)
no-expression part (i.BuiltIn f) h0 h1 h2 h3 h4 h5 h6 h7 h8 h9 h10 h11 h12 h13 h14 h15 h16 h17 = absurd (h7 f refl)
no-expression part (i.UsedIn r) h0 h1 h2 h3 h4 h5 h6 h7 h8 h9 h10 h11 h12 h13 h14 h15 h16 h17 = absurd (h8 r refl)
no-expression part (i.Unary o) h0 h1 h2 h3 h4 h5 h6 h7 h8 h9 h10 h11 h12 h13 h14 h15 h16 h17 = absurd (h9 o refl)
no-expression part (i.Qualified d) h0 h1 h2 h3 h4 h5 h6 h7 h8 h9 h10 h11 h12 h13 h14 h15 h16 h17 = absurd (h10 d refl)
no-expression part (i.QualifiedVariable slot) h0 h1 h2 h3 h4 h5 h6 h7 h8 h9 h10 h11 h12 h13 h14 h15 h16 h17 = absurd (h11 slot refl)
no-expression part i.QualifiedItself h0 h1 h2 h3 h4 h5 h6 h7 h8 h9 h10 h11 h12 h13 h14 h15 h16 h17 = absurd (h12 refl)
no-expression part (i.QualifiedAttribute a) h0 h1 h2 h3 h4 h5 h6 h7 h8 h9 h10 h11 h12 h13 h14 h15 h16 h17 = absurd (h13 a refl)
no-expression part (i.Chain d) h0 h1 h2 h3 h4 h5 h6 h7 h8 h9 h10 h11 h12 h13 h14 h15 h16 h17 = absurd (h14 d refl)
no-expression part (i.Interval o d p e) h0 h1 h2 h3 h4 h5 h6 h7 h8 h9 h10 h11 h12 h13 h14 h15 h16 h17 = absurd (h15 o d p e refl)
no-expression part (i.Query d) h0 h1 h2 h3 h4 h5 h6 h7 h8 h9 h10 h11 h12 h13 h14 h15 h16 h17 = absurd (h16 d refl)
no-expression part i.Initializer h0 h1 h2 h3 h4 h5 h6 h7 h8 h9 h10 h11 h12 h13 h14 h15 h16 h17 = absurd (h17 refl)
no-expression part (i.Item d) h0 h1 h2 h3 h4 h5 h6 h7 h8 h9 h10 h11 h12 h13 h14 h15 h16 h17 = refl
no-expression part (i.Operation o d) h0 h1 h2 h3 h4 h5 h6 h7 h8 h9 h10 h11 h12 h13 h14 h15 h16 h17 = refl
no-expression part (i.OperationBy o x) h0 h1 h2 h3 h4 h5 h6 h7 h8 h9 h10 h11 h12 h13 h14 h15 h16 h17 = refl
no-expression part (i.OperationByVariable o d) h0 h1 h2 h3 h4 h5 h6 h7 h8 h9 h10 h11 h12 h13 h14 h15 h16 h17 = refl
no-expression part (i.OfAttribute list) h0 h1 h2 h3 h4 h5 h6 h7 h8 h9 h10 h11 h12 h13 h14 h15 h16 h17 = refl
no-expression part (i.Group d) h0 h1 h2 h3 h4 h5 h6 h7 h8 h9 h10 h11 h12 h13 h14 h15 h16 h17 = refl
no-expression part (i.Index d) h0 h1 h2 h3 h4 h5 h6 h7 h8 h9 h10 h11 h12 h13 h14 h15 h16 h17 = refl
no-expression part (i.Range d p) h0 h1 h2 h3 h4 h5 h6 h7 h8 h9 h10 h11 h12 h13 h14 h15 h16 h17 = refl
no-expression part (i.Labels d p) h0 h1 h2 h3 h4 h5 h6 h7 h8 h9 h10 h11 h12 h13 h14 h15 h16 h17 = refl
no-expression part (i.Otherwise d) h0 h1 h2 h3 h4 h5 h6 h7 h8 h9 h10 h11 h12 h13 h14 h15 h16 h17 = refl
no-expression part i.End h0 h1 h2 h3 h4 h5 h6 h7 h8 h9 h10 h11 h12 h13 h14 h15 h16 h17 = refl
no-expression part (i.Assignment d t) h0 h1 h2 h3 h4 h5 h6 h7 h8 h9 h10 h11 h12 h13 h14 h15 h16 h17 = refl
no-expression part (i.Growth d o t) h0 h1 h2 h3 h4 h5 h6 h7 h8 h9 h10 h11 h12 h13 h14 h15 h16 h17 = refl
no-expression part (i.Case d) h0 h1 h2 h3 h4 h5 h6 h7 h8 h9 h10 h11 h12 h13 h14 h15 h16 h17 = refl
no-expression part i.Compound h0 h1 h2 h3 h4 h5 h6 h7 h8 h9 h10 h11 h12 h13 h14 h15 h16 h17 = refl
no-expression part (i.If d p) h0 h1 h2 h3 h4 h5 h6 h7 h8 h9 h10 h11 h12 h13 h14 h15 h16 h17 = refl
no-expression part (i.Repeat d p q) h0 h1 h2 h3 h4 h5 h6 h7 h8 h9 h10 h11 h12 h13 h14 h15 h16 h17 = refl
no-expression part i.Return h0 h1 h2 h3 h4 h5 h6 h7 h8 h9 h10 h11 h12 h13 h14 h15 h16 h17 = refl
no-expression part i.Skip h0 h1 h2 h3 h4 h5 h6 h7 h8 h9 h10 h11 h12 h13 h14 h15 h16 h17 = refl
no-expression part i.Escape h0 h1 h2 h3 h4 h5 h6 h7 h8 h9 h10 h11 h12 h13 h14 h15 h16 h17 = refl
no-expression part i.Null h0 h1 h2 h3 h4 h5 h6 h7 h8 h9 h10 h11 h12 h13 h14 h15 h16 h17 = refl
