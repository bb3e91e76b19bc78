-- What an inbox holds of what came.
use Rattle.std.proofs.Common.{◌≡◌, ℕ, ◌+◌, ◌-◌, ◌≤◌, List, ◌++◌, length, Bool, length-append, sym, ap, subst, ◌∙◌, arith}
use Rattle.http_messages.specs.Next.{Announces}
use Rattle.http_messages.proofs.Growing.{announced_stays}
use Rattle.rp_http.specs.declared.inbox.Dropped.{Dropped}
use Rattle.rp_http.specs.declared.inbox.Dropped.TheVariants.{NoMemory}
use Rattle.rp_http.specs.Inboxes.{State, Gathers, Skips, IsComing, Holds}

-- more of a message comes
abbrev pub coming_more : (came piece : List ℕ) (n : ℕ) (stays : Bool) → IsComing came n stays → length came + length piece ≤ n → IsComing (came ++ piece) n stays
coming_more came piece n stays is within = record {
  parts = is.parts;
  start = is.start;
  announced = announced_stays came piece is.parts is.start n is.announced;
  within = omega (arith, length-append came piece, within);
  same = is.same;
}

-- a body that found no room is dropped
pub drops : (tokens : List (List ℕ)) (came piece bytes : List ℕ) (n left : ℕ) (stays : Bool) (state : State) → Holds tokens came (Gathers bytes n stays) → length piece ≤ n - length bytes
    → left ≡ n - length bytes - length piece → state ≡ Skips left stays NoMemory → Holds tokens (came ++ piece) state
drops tokens came piece bytes n left stays state holds room is e =
    let same : length bytes ≡ length came = ap length holds.0 in
    let all : length (came ++ piece) + left ≡ n = omega (arith, length-append came piece, is, room, same, holds.1.within) in
    subst (λ s. Holds tokens (came ++ piece) s) (sym e)
    (subst (λ k. IsComing (came ++ piece) k stays) (sym all) (coming_more came piece n stays holds.1 (omega (arith, room, same, holds.1.within))), tt)

pub gathers_more : (tokens : List (List ℕ)) (came piece bytes now : List ℕ) (n : ℕ) (stays : Bool) → Holds tokens came (Gathers bytes n stays) → length piece ≤ n - length bytes → now ≡ bytes ++ piece
    → Holds tokens (came ++ piece) (Gathers now n stays)
gathers_more tokens came piece bytes now n stays holds room is =
    (is ∙ ap (λ l. l ++ piece) holds.0, coming_more came piece n stays holds.1 (omega (arith, room, ap length holds.0, holds.1.within)))

pub skips_more : (tokens : List (List ℕ)) (came piece : List ℕ) (left : ℕ) (stays : Bool) (why : Dropped) → Holds tokens came (Skips left stays why) → length piece ≤ left
    → Holds tokens (came ++ piece) (Skips (left - length piece) stays why)
skips_more tokens came piece left stays why holds room =
    let is = coming_more came piece (length came + left) stays holds.0 (omega (arith, room)) in
    let all : length (came ++ piece) + (left - length piece) ≡ length came + left = omega (arith, length-append came piece, room) in (
      record {
        parts = is.parts;
        start = is.start;
        announced = subst (λ k. Announces (came ++ piece) is.parts is.start k) (sym all) is.announced;
        within = omega arith;
        same = is.same;
      },
      holds.1,
    )
