-- What a request that is not refused has passed.
use Rattle.std.proofs.Common.{◌≡◌, ◌≤◌, ℕ, Bool, true, false, not, nat_lt, List, [], ◌∷◌, Option, Some, None, refl, arith}
use Rattle.std.specs.List.{AllByRecursion}
use Rattle.std.proofs.lemmas.Bool.{not-false}
use Rattle.std.proofs.lemmas.Bool.Decides.{nat_tests}
use Rattle.rp_plain.specs.declared.messages.Refusal.{Refusal}
use Rattle.rp_plain.specs.Meaning.{when, first_some}

pub all_pass : {A : Type 0} (ts : List (Option A)) → first_some ts ≡ None → AllByRecursion (λ t. t ≡ None) ts
all_pass [] h = tt
all_pass (None ∷ ts) h = (refl, all_pass ts h)
all_pass (Some x ∷ ts) h = cc

pub passed : (b : Bool) (refusal : Refusal) → when b refusal ≡ None → b ≡ false
passed true refusal h = cc
passed false refusal h = refl

-- a test that something isn't
pub is_so : (b : Bool) (refusal : Refusal) → when (not b) refusal ≡ None → b ≡ true
is_so b refusal h = not-false b (passed (not b) refusal h)

pub no_more : (most n : ℕ) → nat_lt most n ≡ false → n ≤ most
no_more most n e = grind (arith, nat_tests)
