-- A row that lacks nothing is valid, and a valid one lacks nothing, whatever it holds.
use Rattle.std.proofs.Common.{◌≡◌, ◌≤◌, ℕ, true, false, not, nat_le, nat_lt, List, None, refl, arith}
use Rattle.std.specs.Str.{bytes_eq}
use Rattle.std.proofs.lemmas.Bool.{not-true, not_from_false}
use Rattle.std.proofs.lemmas.Bool.Decides.{nat_tests}
use Rattle.std.proofs.lemmas.Cmp.{nat_list_cmp_total}
use Rattle.rp_rows.specs.declared.rows.Grant.{Grant}
use Rattle.rp_rows.specs.Rows.{Text, Row, row_key, text_cmp, grant_key}
use Rattle.rp_plain.specs.Meaning.{has_text}
use Rattle.rp_plain.specs.Valid.{IsValidGrant, IsValidRow}
use Rattle.rp_restored_rows.specs.Tests.{row_lack}
use Rattle.rp_restored_rows.proofs.Checks.{holds, passes, all_true, all_pass, all_both}
use Rattle.rp_restored_rows.proofs.Orders.{ascending, tested}

pub at_most : (most n : ℕ) → not (nat_lt most n) ≡ true → n ≤ most
at_most most n e = (let less : nat_lt most n ≡ false = not-true (nat_lt most n) e in grind (arith, nat_tests))

pub no_more : (most n : ℕ) → n ≤ most → not (nat_lt most n) ≡ true
no_more most n e = (let less : nat_lt most n ≡ false = grind (arith, nat_tests) in not_from_false (nat_lt most n) less)

pub is_within : (n most : ℕ) → nat_le n most ≡ true → n ≤ most
is_within n most e = grind (arith, nat_tests)

pub within_test : (n most : ℕ) → n ≤ most → nat_le n most ≡ true
within_test n most e = grind (arith, nat_tests)

module _ (partners : List Text) {A : Type 0} (x : Row A) where
  abbrev HasPartner : Grant → Type 0
  HasPartner g = has_text partners g.partner ≡ true

  abbrev IsOther : Grant → Type 0
  IsOther g = not (bytes_eq x.owner g.partner) ≡ true

  pub row_valid : row_lack partners (row_key x) x.grants ≡ None → IsValidRow partners x
  row_valid none =
      let owner = holds _ _ _ none in
      let name = holds _ _ _ owner.1 in
      let order = holds _ _ _ name.1 in
      let partner = holds _ _ _ order.1 in
      let other = holds _ _ _ partner.1 in
      record {
        owner = owner.0;
        name = name.0;
        grants = ascending text_cmp grant_key nat_list_cmp_total x.grants order.0;
        grantees = all_both HasPartner IsOther (IsValidGrant partners x.owner) (λ g is apart. record { partner = is; other = not-true (bytes_eq x.owner g.partner) apart }) x.grants
            (all_true (λ g. has_text partners g.partner) x.grants partner.0) (all_true (λ g. not (bytes_eq x.owner g.partner)) x.grants other.0);
      }

  pub row_passes : IsValidRow partners x → row_lack partners (row_key x) x.grants ≡ None
  row_passes valid =
      let each = IsValidGrant partners x.owner in
      passes _ _ _ valid.owner
      (passes _ _ _ valid.name
      (passes _ _ _ (tested text_cmp grant_key nat_list_cmp_total x.grants valid.grants)
      (passes _ _ _ (all_pass each (λ g. has_text partners g.partner) (λ g is. is.partner) x.grants valid.grantees)
      (passes _ _ _ (all_pass each (λ g. not (bytes_eq x.owner g.partner)) (λ g is. not_from_false (bytes_eq x.owner g.partner) is.other) x.grants valid.grantees)
      refl))))
