-- Function values that read a statement one level of nesting down.
use Rattle.std.specs.Prelude.{ℕ, ◌<◌, ◌-◌, Result}
use Rattle.std.specs.declared.alloc.Global.{Global}
use denote.Ref.{MutBor}
use Rattle.plain_data.specs.declared.failure.Failure.{Failure}
use Rattle.text_forms.specs.Reads.{Reads, Takes}
use Rattle.ex_tree.specs.declared.fault.ParseFault.{ParseFault}
use Rattle.ex_tree.specs.declared.statement.Statement.{Statement}
use Rattle.ex_forms.specs.Input.{Lexemes}
use Rattle.ex_statements.specs.declared.place.Place.{Place}
use Rattle.ex_statements.specs.Statements.{below}

-- Where so many levels are left, the function value reads a statement at any place with one level less.
pub record Nests (levels : ℕ) (pre : Global → MutBor Lexemes → ℕ → Place → Type 0)
    (post : Global → MutBor Lexemes → ℕ → Place → Result Statement (Failure ParseFault) → MutBor Lexemes → Type 0) : Type 0 where
  pub callable : (alloc : Global) (old : MutBor Lexemes) (place : Place) → 0 < levels → pre alloc old (levels - 1) place
  pub reads : (alloc : Global) (old new : MutBor Lexemes) (place : Place) (r : Result Statement (Failure ParseFault)) → 0 < levels
      → post alloc old (levels - 1) place r new → Reads (below levels place old.now) r new.now
  pub takes : (alloc : Global) (old new : MutBor Lexemes) (place : Place) (r : Result Statement (Failure ParseFault)) → 0 < levels
      → post alloc old (levels - 1) place r new → Takes r old.now new.now
