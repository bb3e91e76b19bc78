use Rattle.std.proofs.Common.{ℕ, Vec, Global, ◌+◌, ◌∷◌, [], ◌/◌, ◌%◌, decimal, vec_len, vec_capacity, ap, append_assoc, arith}
use Rattle.rp_numbers.proofs.Numerals.{one, more, length-one, length-more}
use Rattle.rp_numbers.proofs.writing.+write_digits.Goals as goal
use Rattle.rp_numbers.proofs.writing.+write_digits.Goals.{then-number-ge10, else-number-ge10}

pub write_digits-requires : goal.write_digits-requires
write_digits-requires t c =
    let n = c.args.number in
    let long = length-more n c.if-number-ge10.true c.ranges.number.fits in
    (omega arith, omega arith)

pub push_reserved-requires : goal.push_reserved-requires
push_reserved-requires t c =
    let n = c.args.number in
    elim c.if-number-ge10.branch [
      | then-number-ge10 w ↦
          let long = length-more n w.if-number-ge10.true c.ranges.number.fits in
          let len = ap (λ (v : Vec ℕ Global). vec_len v) w.out-is in
          let capacity = ap (λ (v : Vec ℕ Global). vec_capacity v) w.out-is in
          omega arith
      | else-number-ge10 w ↦
          let long = length-one n w.if-number-ge10.false in
          let len = ap (λ (v : Vec ℕ Global). vec_len v) w.out-is in
          let capacity = ap (λ (v : Vec ℕ Global). vec_capacity v) w.out-is in
          omega arith
    ]

pub returns-clause-items : goal.returns-clause-items
returns-clause-items t c =
    let n = c.args.number in
    elim c.if-number-ge10.branch [
      | then-number-ge10 w ↦
          let long = more n w.if-number-ge10.true c.ranges.number.fits in
          let items = ap (λ (v : Vec ℕ Global). v.items) w.out-is in
          let joined = append_assoc c.args.out.now.items (decimal (n / 10)) ((48 + n % 10) ∷ []) in
          cc
      | else-number-ge10 w ↦
          let long = one n w.if-number-ge10.false in
          let items = ap (λ (v : Vec ℕ Global). v.items) w.out-is in
          cc
    ]

pub returns-clause-len : goal.returns-clause-len
returns-clause-len t c =
    let n = c.args.number in
    elim c.if-number-ge10.branch [
      | then-number-ge10 w ↦
          let long = length-more n w.if-number-ge10.true c.ranges.number.fits in
          let len = ap (λ (v : Vec ℕ Global). vec_len v) w.out-is in
          omega arith
      | else-number-ge10 w ↦
          let long = length-one n w.if-number-ge10.false in
          let len = ap (λ (v : Vec ℕ Global). vec_len v) w.out-is in
          omega arith
    ]
