-- What a crash leaves over several steps.
use Rattle.std.proofs.Common.{◌⊎◌, inl, inr, ⊎_elim, ℕ, Option, arith}
use Rattle.rp_saved_file.specs.Crashes.{Place, Is, LeavesNoMore, LeavesOldOr, Elapses, Meanwhile}

module _ {P : Type 0} (moment : P → ℕ) (left_since : P → ℕ → Place → Type 0) (may_leave : P → Place → Type 0) (known : Option Place) where
  -- before the first step
  pub started : (old : P) → ((place : Place) → left_since old (moment old) place → may_leave old place) → Meanwhile moment left_since may_leave old old known
  started old here = record { later = omega arith; each = λ place left. inl (here place left); before = λ t place le left. inl left }

  -- one step more, after which a crash leaves what it could leave at first, or what is known
  pub goes_on : (old mid new : P) → Meanwhile moment left_since may_leave old mid known → Elapses (moment mid) (moment new) (left_since mid) (left_since new) (may_leave new)
      → ((place : Place) → may_leave new place → may_leave old place ⊎ Is known place) → Meanwhile moment left_since may_leave old new known
  goes_on old mid new so_far time here = record {
    later = omega (arith, so_far.later, time.later);
    each = λ place left. ⊎_elim (so_far.each place) (here place) (time.nothing_else (moment old) place so_far.later left);
    before = λ t place le left. ⊎_elim (so_far.before t place le) (λ now. inr (here place now)) (time.nothing_else t place (omega (arith, le, so_far.later)) left);
  }

module _ {P : Type 0} (moment : P → ℕ) (left_since : P → ℕ → Place → Type 0) (may_leave : P → Place → Type 0) (could_leave : Place → Type 0) (old new : P)
    (counts : (place : Place) → may_leave old place → left_since old 0 place) where
  -- a step after which a crash leaves no more than before it, also of all moments till then
  no_more : Elapses (moment old) (moment new) (left_since old) (left_since new) (may_leave new) → LeavesNoMore (may_leave old) (may_leave new) → LeavesNoMore (left_since old 0) (left_since new 0)
  no_more time crash place left = ⊎_elim (λ past. past) (λ now. counts place (crash place now)) (time.nothing_else 0 place (omega arith) left)

  pub still_kept : Elapses (moment old) (moment new) (left_since old) (left_since new) (may_leave new) → LeavesNoMore (may_leave old) (may_leave new)
      → LeavesNoMore could_leave (left_since old 0) → LeavesNoMore could_leave (left_since new 0)
  still_kept time crash kept place left = kept place (no_more time crash place left)

  pub still_or : (known : Option Place) → Elapses (moment old) (moment new) (left_since old) (left_since new) (may_leave new) → LeavesNoMore (may_leave old) (may_leave new)
      → LeavesOldOr known could_leave (left_since old 0) → LeavesOldOr known could_leave (left_since new 0)
  still_or known time crash were place left = were place (no_more time crash place left)

  -- steps after which it leaves that, or what is known
  pub kept_or : (known : Option Place) → Meanwhile moment left_since may_leave old new known
      → LeavesNoMore could_leave (left_since old 0) → LeavesOldOr known could_leave (left_since new 0)
  kept_or known meanwhile kept place left = ⊎_elim (λ past. inl (kept place past)) (⊎_elim (λ here. inl (kept place (counts place here))) inr) (meanwhile.before 0 place (omega arith) left)

-- what leaves no more leaves that, or what is known
pub or_known : (known : Option Place) (old new : Place → Type 0) → LeavesNoMore old new → LeavesOldOr known old new
or_known known old new kept place left = inl (kept place left)
