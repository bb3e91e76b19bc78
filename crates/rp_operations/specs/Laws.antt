-- What laws of the operations speak of.
use Rattle.std.specs.Prelude.{◌≡◌, Bool, true}
use Rattle.rp_operations.specs.Operations.{is_same}
use Rattle.rp_operations.specs.declared.compared.Compared.{Compared}
use Rattle.rp_operations.specs.declared.compared.Compared.TheVariants as c
use Rattle.rp_value.specs.declared.value.Value.{Value}

-- what is said of the right and the left
abbrev pub exchanged : Compared → Compared
exchanged c.Less = c.Greater
exchanged c.Greater = c.Less
exchanged c.Equal = c.Equal
exchanged c.Differs = c.Differs
exchanged c.Unknown = c.Unknown

-- values that are the same as one another, and as no others
pub record IsClass (p : Value → Bool) : Type 0 where
  pub within : (x y : Value) → p x ≡ true → p y ≡ true → is_same x y ≡ true
  pub whole : (x y : Value) → is_same x y ≡ true → p x ≡ p y
