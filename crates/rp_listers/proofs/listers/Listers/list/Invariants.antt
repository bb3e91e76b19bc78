use Rattle.std.proofs.Common.{◌≡◌, true, take}
use Rattle.std.specs.List.{AllByRecursion}
use Rattle.rp_rows.specs.declared.rows.Key.{Key}
use Rattle.rp_listers.specs.Kept.{tells}
use Rattle.rp_listers.proofs.listers.Listers.list.Given as goal

abbrev pub invariant-loop-model : goal.invariant-loop-model
invariant-loop-model l = record {
  kept : (k m : Key) → tells k m l.fn.self ≡ true → tells k m l.self ≡ true;
  told : AllByRecursion (λ m. tells l.group m l.self ≡ true) (take l.model-index l.models);
}
