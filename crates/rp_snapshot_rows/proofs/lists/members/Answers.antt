use Rattle.std.proofs.Common.{◌++◌, length, refl, sym, ap, ◌∙◌, arith}
use Rattle.std.proofs.lemmas.Result.{err_from_is_err_and}
use Rattle.rp_snapshot_rows.specs.Reading.{member_at}
use Rattle.rp_json.specs.Tokens.{listed}
use Rattle.rp_snapshot_rows.specs.Tokens.{member_tokens}
use Rattle.rp_snapshot_rows.proofs.Forms.{both_are, member_again, no_fault}
use Rattle.rp_snapshot_rows.proofs.ListLemmas.{at_last, at_next, read_one}
use Rattle.rp_snapshot_rows.proofs.lists.members.Goals as goal

pub returns-in_err-member-clause-again : goal.returns-in_err-member-clause-again
returns-in_err-member-clause-again c all rest is =
    let next = at_next member_tokens (λ x ts. refl) all c.members.members c.members.reader rest (c.members.invariant.0 all rest is) c.members-test.ensures.0 in
    let read = ap member_at (c.members-test.ensures.1 ∙ next.3) ∙ member_again next.0 (listed member_tokens next.1 ++ rest) in
    let memory = no_fault c.in_err-member.field-0.0 _ _ c.in_err-member.ensures.read read in
    let p = err_from_is_err_and c.from_residual.result c.from_residual.ensures.1 in
    rw p.1 (p.2 ∙ memory)

pub members-preserved : goal.members-preserved
members-preserved c = (
  λ all rest is.
      let next = at_next member_tokens (λ x ts. refl) all c.members.members c.members.reader rest (c.members.invariant.0 all rest is) c.members-test.ensures.0 in
      let read = sym c.in_ok-member.ensures.read ∙ ap member_at (c.members-test.ensures.1 ∙ next.3) ∙ member_again next.0 (listed member_tokens next.1 ++ rest) in
      let step = read_one member_tokens all c.members.members c.members.reader rest c.member.new.reader c.in_ok-member.member next (both_are _ _ read) in
      rw c.in_ok-push.ensures.ok step,
  omega (arith, c.in_ok-member.ensures.shorter, ap length c.members-test.ensures.1, c.members.invariant.1),
)

pub returns-clause-again : goal.returns-clause-again
returns-clause-again c all rest is = at_last member_tokens (λ x ts. refl) all c.members.members c.members.reader rest c.take_end_array.new.self (c.members.invariant.0 all rest is) c.members-test.ensures
