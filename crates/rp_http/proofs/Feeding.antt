-- Each read is counted, and gave a byte.
use Rattle.std.proofs.Common.{◌≡◌, ◌≢◌, ℕ, ◌+◌, ◌<◌, ◌%◌, ◌^◌, ◌⊎◌, inl, inr, List, length, Option, Some, None, length-append, add_assoc, sym, ap, subst, ◌∙◌, arith}
use Rattle.std.proofs.Math.Nat.{mod-add-mod}
use Rattle.std.specs.Io.KnownBytes.{Consumes}
use Rattle.rp_io.specs.Reads.{Reads}
use Rattle.rp_io.specs.Held.{HasAtLeast, TakesAtLeast}
use Rattle.rp_http.specs.Runs.{max_reads, MakesSome, RunsOut}

-- ---- how many reads were made

none_made : (a k : ℕ) → a % k ≡ (a + 0) % k
none_made a k = let same : a ≡ a + 0 = omega arith in ap (λ n. n % k) same

some_made : (a b c m n k : ℕ) → b % k ≡ (a + m) % k → c % k ≡ (b + n) % k → c % k ≡ (a + (m + n)) % k
some_made a b c m n k e f = f ∙ (sym (mod-add-mod b k n) ∙ (ap (λ x. (x + n) % k) e ∙ (mod-add-mod (a + m) k n ∙ ap (λ x. x % k) (add_assoc a m n))))

makes_none : (r : Reads) → MakesSome r r 0
makes_none r = record { count = none_made r.count (2 ^ 64) }

makes_more : (a b c : Reads) (m n : ℕ) → MakesSome a b m → MakesSome b c n → MakesSome a c (m + n)
makes_more a b c m n x y = record { count = some_made a.count b.count c.count m n (2 ^ 64) x.count y.count }

-- ---- what they gave

-- the reads that aren't left any more were made, and each gave a byte
pub record IsFed (old new : Reads) (before after : Option (List ℕ)) (left : ℕ) : Type 0 where
  pub spent : ℕ
  pub all : left + spent ≡ max_reads
  pub made : MakesSome old new spent
  pub fed : TakesAtLeast before after spent 0

takes_none : (a : Option (List ℕ)) → TakesAtLeast a a 0 0
takes_none None = tt
takes_none (Some xs) = omega arith

takes_more : (a b c : Option (List ℕ)) (piece : List ℕ) (n : ℕ) → TakesAtLeast a b n 0 → Consumes b c piece → 0 < length piece → TakesAtLeast a c (n + 1) 0
takes_more None b c piece n fed used some = tt
takes_more (Some xs) None c piece n fed used some = absurd fed
takes_more (Some xs) (Some ys) None piece n fed used some = absurd used
takes_more (Some xs) (Some ys) (Some zs) piece n fed used some = omega (arith, fed, some, ap length used, length-append piece zs)

takes_all : (a b : Option (List ℕ)) (n : ℕ) → TakesAtLeast a b n 0 → HasAtLeast a n
takes_all None b n fed = tt
takes_all (Some xs) None n fed = absurd fed
takes_all (Some xs) (Some ys) n fed = omega (arith, fed)

pub fed_first : (r : Reads) (a : Option (List ℕ)) (left : ℕ) → left ≡ max_reads → IsFed r r a a left
fed_first r a left e = record { spent = 0; all = omega (arith, e); made = makes_none r; fed = takes_none a }

pub fed_more : (r s t : Reads) (a b c : Option (List ℕ)) (piece : List ℕ) (reads left : ℕ) → IsFed r s a b reads → left + 1 ≡ reads → MakesSome s t 1 → Consumes b c piece → 0 < length piece
    → IsFed r t a c left
fed_more r s t a b c piece reads left is one made used some = record {
  spent = is.spent + 1;
  all = omega (arith, is.all, one);
  made = makes_more r s t is.spent 1 is.made made;
  fed = takes_more a b c piece is.spent is.fed used some;
}

run_out : (r s : Reads) (a b : Option (List ℕ)) (left : ℕ) → IsFed r s a b left → left ≡ 0 → RunsOut r s a
run_out r s a b left is none =
    let all : is.spent ≡ max_reads = omega (arith, is.all, none) in
    record { made = subst (λ n. MakesSome r s n) all is.made; fed = subst (λ n. HasAtLeast a n) all (takes_all a b is.spent is.fed) }

-- a fault comes of a read that failed, or the last read was made
pub fault_of : {R : Type 0} (made : R → Reads) (failures : R → ℕ) (old mid new : R) (a b : Option (List ℕ)) (left reads : ℕ) → IsFed (made old) (made mid) a b left → reads ≡ left → failures mid ≡ failures old
    → (failures new ≢ failures mid) ⊎ ((reads ≡ 0) × (new ≡ mid)) → (failures new ≢ failures old) ⊎ RunsOut (made old) (made new) a
fault_of made failures old mid new a b left reads is same kept (inl failed) = inl (λ e. failed (e ∙ sym kept))
fault_of made failures old mid new a b left reads is same kept (inr last) =
    inr (subst (λ r. RunsOut (made old) (made r) a) (sym last.1) (run_out (made old) (made mid) a b left is (sym same ∙ last.0)))
