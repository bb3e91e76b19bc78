-- Tables of what types rename.
use Rattle.std.proofs.Common.{◌≡◌, ℕ, zero, suc, ◌+◌, ◌≤◌, ◌<◌, inl, inr, List, length, map, refl, sym, ◌∙◌, ap, arith, zero-add}
use Rattle.std.proofs.lemmas.List.{get_or-map, get_or_past, length-map}
use Rattle.std.proofs.lemmas.List.FromFn.{get_or-map-range_with_len, length-map-range_with_len}
use Rattle.std.proofs.lemmas.Option.{slice_get_cases}
use Rattle.std.specs.List.{range_with_len}
use Rattle.ex_named.specs.declared.declaration.NamedType.{NamedType}
use Rattle.ex_renamings.specs.Renamings.{renamed, renamed_by, renamed_times}
use Rattle.ex_renamings.specs.Tables.{target, HasRenamed}

beyond : (table : List ℕ) (k : ℕ) → length table ≤ k → target table k ≡ k
beyond table k past = get_or_past table k k past

-- what a number has in a table that f was applied to
mapped : (f : ℕ → ℕ) (table : List ℕ) (k : ℕ) → (length table ≤ k → f k ≡ k) → target (map f table) k ≡ f (target table k)
mapped f table k stays = elim (slice_get_cases table k).1 [
  | inl here ↦ get_or-map f table k k k here.1
  | inr past ↦ beyond (map f table) k (omega (arith, past.0, length-map table f)) ∙ sym (stays past.0) ∙ ap f (sym (beyond table k past.0))
]

abbrev themselves : ℕ → List ℕ
themselves n = map (λ k. k) (range_with_len 0 n)

itself : (n k : ℕ) → target (themselves n) k ≡ k
itself n k = elim (slice_get_cases (themselves n) k).1 [
  | inl here ↦ let within : k < n = omega (arith, here.1, length-map-range_with_len (λ k. k) 0 n) in
      get_or-map-range_with_len (λ k. k) 0 n k k k within (zero-add k)
  | inr past ↦ beyond (themselves n) k past.0
]

module _ (types : List NamedType) where
  pub none_renamed : HasRenamed zero types (themselves (length types))
  none_renamed = record { as_many = length-map-range_with_len (λ k. k) 0 (length types); each = itself (length types) }

  times_sum : (m n k : ℕ) → renamed_times m types (renamed_times n types k) ≡ renamed_times (m + n) types k
  times_sum zero n k = ap (λ i. renamed_times i types k) (sym (zero-add n))
  times_sum (suc m) n k =
      let e : suc (m + n) ≡ suc m + n = omega arith in
      ap (renamed types) (times_sum m n k) ∙ ap (λ i. renamed_times i types k) e

  twice : (n : ℕ) (table : List ℕ) → HasRenamed n types table → HasRenamed (n + n) types (map (target table) table)
  twice n table has = record {
    as_many = length-map table (target table) ∙ has.as_many;
    each = λ k. mapped (target table) table k (beyond table k)
        ∙ has.each (target table k) ∙ ap (renamed_times n types) (has.each k) ∙ times_sum n n k;
  }

  past_types : (k : ℕ) → length types ≤ k → renamed types k ≡ k
  past_types k past = get_or_past (map (λ x. renamed_by k x.underlying) types) k k (omega (arith, past, length-map types (λ x. renamed_by k x.underlying)))

  once_more : (n : ℕ) (table : List ℕ) → HasRenamed n types table → HasRenamed (suc n) types (map (renamed types) table)
  once_more n table has = record {
    as_many = length-map table (renamed types) ∙ has.as_many;
    each = λ k. mapped (renamed types) table k (λ past. past_types k (omega (arith, past, has.as_many))) ∙ ap (renamed types) (has.each k);
  }

  pub even : (count n : ℕ) (half table : List ℕ) → count ≡ n + n → table ≡ map (target half) half → HasRenamed n types half → HasRenamed count types table
  even count n half table e is has = rw (e, is) (twice n half has)

  pub odd : (count n : ℕ) (half table further : List ℕ) → count ≡ suc (n + n) → table ≡ map (target half) half → further ≡ map (renamed types) table
      → HasRenamed n types half → HasRenamed count types further
  odd count n half table further e is more has = rw (e, more) (once_more (n + n) table (even (n + n) n half table refl is has))
