use Rattle.std.proofs.Common.{◌≡◌, true, false}
use Rattle.std.specs.List.{AllByRecursion}
use Rattle.rp_rows.specs.declared.rows.Key.{Key}
use Rattle.rp_rows.specs.Rows.{same_key}
use Rattle.rp_listers.specs.Kept.{tells}
use Rattle.rp_listers.proofs.listers.Listers.unlist.Given as goal

abbrev pub invariant-loop-model : goal.invariant-loop-model
invariant-loop-model l = record {
  others : (k m : Key) → same_key l.group k ≡ false → tells k m l.fn.self ≡ true → tells k m l.self ≡ true;
  own : AllByRecursion (λ m. tells l.group m l.fn.self ≡ true) l.models → AllByRecursion (λ m. tells l.group m l.self ≡ true) l.models;
}
