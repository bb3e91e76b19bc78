-- A statement is made of statements one level down.
use Rattle.std.proofs.Common.{◌≡◌, ℕ, zero, suc, refl}
use Rattle.ex_statements.specs.declared.place.Place.{Place}
use Rattle.ex_statements.specs.Statements.{statement_at, stmt, below}

pub level-is : (levels : ℕ) (place : Place) → statement_at levels place ≡ stmt place levels (below levels)
unfolding statement_at
level-is zero place = refl
level-is (suc levels) place = refl
