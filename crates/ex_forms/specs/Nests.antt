-- Function values that read a form one level of nesting down.
use Rattle.std.specs.Prelude.{ℕ, ◌<◌, ◌-◌, Result}
use Rattle.std.specs.declared.alloc.Global.{Global}
use denote.Ref.{MutBor}
use Rattle.plain_data.specs.declared.failure.Failure.{Failure}
use Rattle.text_forms.specs.Reads.{Reads, Takes}
use Rattle.ex_tree.specs.declared.fault.ParseFault.{ParseFault}
use Rattle.ex_forms.specs.Input.{Lexemes, Parser}

-- Where so many levels are left, the function value reads this form with one level less.
pub record Nests (A : Type 0) (levels : ℕ) (form : Parser A) (pre : Global → MutBor Lexemes → ℕ → Type 0)
    (post : Global → MutBor Lexemes → ℕ → Result A (Failure ParseFault) → MutBor Lexemes → Type 0) : Type 0 where
  pub callable : (alloc : Global) (old : MutBor Lexemes) → 0 < levels → pre alloc old (levels - 1)
  pub reads : (alloc : Global) (old new : MutBor Lexemes) (r : Result A (Failure ParseFault)) → 0 < levels → post alloc old (levels - 1) r new
      → Reads (form old.now) r new.now
  pub takes : (alloc : Global) (old new : MutBor Lexemes) (r : Result A (Failure ParseFault)) → 0 < levels → post alloc old (levels - 1) r new
      → Takes r old.now new.now
