-- Elements of an aggregate, from an index on.
use Rattle.std.specs.Prelude.{ℤ, List}
use base.Stored.{Coded, coded×, coded_list, coded_ℤ, coded_via}

pub record Elements (X : Type 0) : Type 0 where
  pub low : ℤ
  pub items : List X

abbrev pub elements_code : {X : Type 0} → Coded X → Coded (Elements X)
elements_code x = coded_via (coded× coded_ℤ (coded_list x)) (λ e. (e.low, e.items)) (λ a b e i. record { low = (e i).0; items = (e i).1 })
