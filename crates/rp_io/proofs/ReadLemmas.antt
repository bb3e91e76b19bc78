-- Reads, counted from one call to the next.
use Rattle.std.proofs.Common.{◌≡◌, ℕ, List, Option, Some, None, ◌+◌, ◌*◌, ◌%◌, ◌^◌, add-mul, add_assoc, sym, ap, subst, ◌∙◌, arith}
use Rattle.std.proofs.Math.Nat.{mod-add-mod}
use Rattle.rp_io.specs.Reads.{Reads, MakesReads}
use Rattle.rp_io.specs.Held.{Held, chunk_room, end_read, HasAtLeast, TakesAtLeast, Spends, RunsOut}

count_on : (a b c m n k : ℕ) → b % k ≡ (a + m) % k → c % k ≡ (b + n) % k → c % k ≡ (a + (m + n)) % k
count_on a b c m n k e f = f ∙ (sym (mod-add-mod b k n) ∙ (ap (λ x. (x + n) % k) e ∙ (mod-add-mod (a + m) k n ∙ ap (λ x. x % k) (add_assoc a m n))))

pub more_reads : (a b c : Reads) (m n each : ℕ) → MakesReads a b m each → MakesReads b c n each → MakesReads a c (m + n) each
more_reads a b c m n each x y = record {
  count = count_on a.count b.count c.count m n (2 ^ 64) x.count y.count;
  room = rw add-mul (count_on a.room b.room c.room (m * each) (n * each) (2 ^ 64) x.room y.room);
}

takes_more : (a b c : Option (List ℕ)) (m n k l q : ℕ) → TakesAtLeast a b (m + k) l → TakesAtLeast b c (n + l) q → TakesAtLeast a c (m + n + k) q
takes_more None b c m n k l q x y = tt
takes_more (Some a) None c m n k l q x y = absurd x
takes_more (Some a) (Some b) None m n k l q x y = absurd y
takes_more (Some a) (Some b) (Some c) m n k l q x y = omega arith

pub spends_more : (old mid new : Held) (a b c : Reads) (r s t : Option (List ℕ)) → Spends old mid a b r s → Spends mid new b c s t → Spends old new a c r t
spends_more old mid new a b c r s t x y = record {
  spent = x.spent + y.spent;
  rest = omega (arith, x.rest, y.rest);
  made = more_reads a b c x.spent y.spent chunk_room x.made y.made;
  fed = takes_more r s t x.spent y.spent (end_read old) (end_read mid) (end_read new) x.fed y.fed;
}

-- the use of bytes makes no reads
pub spends_as_before : (old mid new : Held) (a b : Reads) (r s : Option (List ℕ)) → Spends old mid a b r s → new.reads ≡ mid.reads → new.ended ≡ mid.ended → Spends old new a b r s
spends_as_before old mid new a b r s x same ended = record { spent = x.spent; rest = omega (arith, x.rest, same); made = x.made; fed = rw ended x.fed }

has_more : (a b : Option (List ℕ)) (m n k l all : ℕ) → m + n ≡ all → TakesAtLeast a b (m + k) l → HasAtLeast b (n + l) → HasAtLeast a (all + k)
has_more None b m n k l all e x y = tt
has_more (Some a) None m n k l all e x y = absurd x
has_more (Some a) (Some b) m n k l all e x y = omega (arith, e)

-- of the reads that were left the last ones were made too
pub runs_out : (old mid : Held) (a b c : Reads) (r s : Option (List ℕ)) → Spends old mid a b r s → RunsOut mid b c s → RunsOut old a c r
runs_out old mid a b c r s x last =
    let all : x.spent + mid.reads ≡ old.reads = omega (arith, x.rest) in record {
      made = subst (λ n. MakesReads a c n chunk_room) all (more_reads a b c x.spent mid.reads chunk_room x.made last.made);
      fed = has_more r s x.spent mid.reads (end_read old) (end_read mid) old.reads all x.fed last.fed;
    }
