-- A test of all values from one on.
use Rattle.std.proofs.Common.{◌≡◌, ℕ, suc, ◌+◌, ◌<◌, Bool, true, false, ◌&&◌, List, length, get_or, drop, drop-cons, sym, ◌∙◌, ap, arith}
use Rattle.std.specs.List.{list_all}
use Rattle.rp_value.specs.declared.value.Value.{Value}

module _ (p : Value → Bool) (xs : List Value) (i : ℕ) (d : Value) where
  opened : i < length xs → list_all p (drop i xs) ≡ (p (get_or xs i d) && list_all p (drop (suc i) xs))
  opened within = ap (list_all p) (drop-cons xs i d within)

  pub passed : i < length xs → true ≡ p (get_or xs i d) → list_all p (drop (i + 1) xs) ≡ list_all p (drop i xs)
  passed within does =
      let next : i + 1 ≡ suc i = omega arith in
      ap (λ j. list_all p (drop j xs)) next ∙ ap (λ b. b && list_all p (drop (suc i) xs)) does ∙ sym (opened within)

  pub failed : i < length xs → false ≡ p (get_or xs i d) → false ≡ list_all p (drop i xs)
  failed within does = ap (λ b. b && list_all p (drop (suc i) xs)) does ∙ sym (opened within)
