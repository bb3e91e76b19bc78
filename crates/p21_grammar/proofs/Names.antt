-- Few bytes write no number that is greater than the greatest name.
use Rattle.std.proofs.Common.{◌≡◌, ℕ, zero, suc, ◌+◌, ◌-◌, ◌*◌, ◌<◌, ◌≤◌, le_refl, le_trans, subst, add-zero, arith}
use Rattle.p21_tree.specs.Names.{max_name}

-- the most that so many bytes write, whatever they are
abbrev pub most : ℕ → ℕ
most zero = 0
most (suc k) = 10 * most k + 255

more : (i k : ℕ) → most i ≤ most (i + k)
more i zero = rw add-zero (le_refl (most i))
more i (suc k) =
    let one_more : i + suc k ≡ suc (i + k) = omega arith in
    let step : most (i + k) ≤ 10 * most (i + k) + 255 = omega arith in
    rw one_more (le_trans (more i k) step)

most_below : (i : ℕ) → i < 16 → 10 * most i + 255 ≤ max_name
most_below i less =
    let all : suc i + (15 - i) ≡ 16 = omega arith in
    let below : most 16 ≤ max_name = omega arith in
    le_trans (subst (λ k. most (suc i) ≤ most k) all (more (suc i) (15 - i))) below

pub next_below : (i n d : ℕ) → i < 16 → n ≤ most i → d < 256 → 10 * n + d ≤ max_name
next_below i n d less least byte = let all = most_below i less in omega arith

pub next_most : (i n d : ℕ) → n ≤ most i → d < 256 → 10 * n + d ≤ most (i + 1)
next_most i n d least byte = let one_more : i + 1 ≡ suc i = omega arith in rw one_more (omega arith)

-- what so few bytes write is no greater than the greatest name
pub few_below : (i n : ℕ) → i ≤ 16 → n ≤ most i → n ≤ max_name
few_below i n few least =
    let all : i + (16 - i) ≡ 16 = omega arith in
    let below : most 16 ≤ max_name = omega arith in
    le_trans least (le_trans (subst (λ k. most i ≤ most k) all (more i (16 - i))) below)
