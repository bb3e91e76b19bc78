-- What a comparison says of the two.
use Rattle.std.proofs.Common.{◌≡◌, ◌≤◌, true, false, true≢false, ltb, refl, sym, arith}
use Rattle.std.specs.Ordering.{is_lt, is_eq, ordering_index}
use Rattle.std.specs.declared.cmp.Ordering.{Ordering}
use Rattle.std.specs.declared.cmp.Ordering.TheVariants.{Less, Equal, Greater}

pub is_less : (o : Ordering) → is_lt o ≡ ltb (ordering_index o) 1
is_less Less = refl
is_less Equal = refl
is_less Greater = refl

pub not_equal_before : (o : Ordering) → is_lt o ≡ true → is_eq o ≡ false
not_equal_before Less e = refl
not_equal_before Equal e = absurd (true≢false (sym e))
not_equal_before Greater e = refl

pub not_equal_after : (o p : Ordering) → is_lt o ≡ false → is_eq o ≡ false → ordering_index o ≤ ordering_index p → is_eq p ≡ false
not_equal_after o Less up apart below = refl
not_equal_after o Greater up apart below = refl
not_equal_after Less Equal up apart below = absurd (true≢false up)
not_equal_after Equal Equal up apart below = absurd (true≢false apart)
not_equal_after Greater Equal up apart below = absurd (omega (arith, below))
