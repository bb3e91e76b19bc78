-- Where instances stand.
use Rattle.std.specs.Prelude.{ℕ}
use Rattle.rp_value.specs.declared.value.Value.{Value, out-Value}
use Rattle.rp_value.specs.declared.value.Value.TheOpen.{Value-F}

abbrev pub place_in : Value-F Value → ℕ
place_in (Value-F.Inst place) = place
place_in _ = 0

-- the place of an instance; only instances are asked
abbrev pub place_or_none : Value → ℕ
place_or_none x = place_in (out-Value x)
