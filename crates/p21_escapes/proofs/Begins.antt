-- What a list begins with, after more was appended.
use Rattle.std.proofs.Common.{◌≡◌, ℕ, ◌≤◌, List, ◌++◌, length, take, drop, sym, ◌∙◌, ap, arith, length-take, take-append-drop, Result, Ok, Err, OnOk, OnErr}
use Rattle.std.proofs.Math.Seq.{take-append_seam}
use Rattle.std.proofs.lemmas.List.{take-append-le}

pub kept_more : (old xs more : List ℕ) → take (length old) xs ≡ old → take (length old) (xs ++ more) ≡ old
kept_more old xs more is =
    let fits : length old ≤ length xs = omega (arith, length-take (length old) xs, ap length is) in
    take-append-le (length old) xs more fits ∙ is

pub kept_through : (old mid new : List ℕ) → take (length old) mid ≡ old → take (length mid) new ≡ mid → take (length old) new ≡ old
kept_through old mid new first second =
    ap (take (length old)) (sym (take-append-drop (length mid) new) ∙ ap (λ l. l ++ drop (length mid) new) second) ∙ kept_more old mid (drop (length mid) new) first

pub kept_by : {T E : Type 0} (r : Result T E) (old mid new more : List ℕ) → take (length old) mid ≡ old → OnOk r (new ≡ mid ++ more) → OnErr r (new ≡ mid) → take (length old) new ≡ old
kept_by (Ok x) old mid new more kept ok err = ap (take (length old)) ok ∙ kept_more old mid more kept
kept_by (Err e) old mid new more kept ok err = ap (take (length old)) err ∙ kept

pub kept_front : (old new more : List ℕ) → new ≡ old ++ more → take (length old) new ≡ old
kept_front old new more is = ap (take (length old)) is ∙ take-append_seam old more
