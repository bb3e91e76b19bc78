-- Truth values joined by or, in another order.
use Rattle.std.proofs.Common.{◌≡◌, Bool, true, false, ◌||◌, refl}

pub or_swap : (a b : Bool) → (a || b) ≡ (b || a)
or_swap true true = refl
or_swap true false = refl
or_swap false true = refl
or_swap false false = refl

-- the second first
pub or_turn : (a b c : Bool) → (a || (b || c)) ≡ (b || (a || c))
or_turn true true c = refl
or_turn true false c = refl
or_turn false b c = refl

pub or_turn_left : (a b c : Bool) → ((a || b) || c) ≡ (b || (a || c))
or_turn_left true true c = refl
or_turn_left true false c = refl
or_turn_left false b c = refl

-- the last of a list first
pub or_last : (a b : Bool) → (a || (b || false)) ≡ (b || a)
or_last true true = refl
or_last true false = refl
or_last false true = refl
or_last false false = refl

-- one twice
pub or_again : (a b c : Bool) → a ≡ b → (b || c) ≡ (a || (b || c))
or_again true b c e = rw (← e) refl
or_again false b c e = refl
