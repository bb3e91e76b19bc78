-- When a prepared request may be committed.
use Rattle.rp_plain.specs.Valid.{IsValid}
use Rattle.rp_core.specs.Held.{Kept, made, Fits}
use Rattle.rp_core.specs.declared.steps.Pending.{Pending}

-- it was prepared for what is held here: it takes no memory, and leaves a valid repository
pub record IsReady (held : Kept) (pending : Pending) : Type 0 where
  pub fits : Fits held pending
  pub valid : IsValid (made pending.steps held)
