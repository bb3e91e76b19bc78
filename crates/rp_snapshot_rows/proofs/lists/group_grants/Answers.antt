use Rattle.std.proofs.Common.{◌++◌, length, refl, sym, ap, ◌∙◌, arith, subst}
use Rattle.std.specs.List.{AllByRecursion}
use Rattle.std.proofs.lemmas.Result.{err_from_is_err_and}
use Rattle.rp_snapshot_rows.specs.Again.{IsToRead}
use Rattle.rp_snapshot_rows.specs.Reading.{reader_at}
use Rattle.rp_json.specs.Tokens.{listed}
use Rattle.rp_snapshot_rows.specs.Tokens.{reader_tokens}
use Rattle.rp_snapshot_rows.proofs.Forms.{both_are, reader_again, no_fault}
use Rattle.rp_snapshot_rows.proofs.ListLemmas.{at_last, at_next, read_one, there}
use Rattle.rp_snapshot_rows.proofs.lists.group_grants.Goals as goal

pub returns-in_err-grant-clause-again : goal.returns-in_err-grant-clause-again
returns-in_err-grant-clause-again c all rest whole is =
    let next = at_next reader_tokens (λ x ts. refl) all c.grants.grants c.grants.reader rest (c.grants.invariant.0 all rest whole is) c.grants-test.ensures.0 in
    let fits = there IsToRead c.grants.grants next.0 next.1 (subst (AllByRecursion IsToRead) next.2 whole) in
    let read = ap reader_at (c.grants-test.ensures.1 ∙ next.3) ∙ reader_again next.0 (listed reader_tokens next.1 ++ rest) fits in
    let memory = no_fault c.in_err-grant.field-0.0 _ _ c.in_err-grant.ensures.read read in
    let p = err_from_is_err_and c.from_residual.result c.from_residual.ensures.1 in
    rw p.1 (p.2 ∙ memory)

pub grants-preserved : goal.grants-preserved
grants-preserved c = (
  λ all rest whole is.
      let next = at_next reader_tokens (λ x ts. refl) all c.grants.grants c.grants.reader rest (c.grants.invariant.0 all rest whole is) c.grants-test.ensures.0 in
      let fits = there IsToRead c.grants.grants next.0 next.1 (subst (AllByRecursion IsToRead) next.2 whole) in
      let read = sym c.in_ok-grant.ensures.read ∙ ap reader_at (c.grants-test.ensures.1 ∙ next.3) ∙ reader_again next.0 (listed reader_tokens next.1 ++ rest) fits in
      let step = read_one reader_tokens all c.grants.grants c.grants.reader rest c.group_grant.new.reader c.in_ok-grant.grant next (both_are _ _ read) in
      rw c.in_ok-push.ensures.ok step,
  omega (arith, c.in_ok-grant.ensures.shorter, ap length c.grants-test.ensures.1, c.grants.invariant.1),
)

pub returns-clause-again : goal.returns-clause-again
returns-clause-again c all rest whole is = at_last reader_tokens (λ x ts. refl) all c.grants.grants c.grants.reader rest c.take_end_array.new.self (c.grants.invariant.0 all rest whole is) c.grants-test.ensures
