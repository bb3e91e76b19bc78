use Rattle.std.proofs.Common.{◌++◌, length, refl, sym, ap, ◌∙◌, arith, subst}
use Rattle.std.specs.List.{AllByRecursion}
use Rattle.std.proofs.lemmas.Result.{err_from_is_err_and}
use Rattle.rp_snapshot_rows.specs.Again.{HasNumbers}
use Rattle.rp_snapshot_rows.specs.Reading.{link_at}
use Rattle.rp_json.specs.Tokens.{listed}
use Rattle.rp_snapshot_rows.specs.Tokens.{link_tokens}
use Rattle.rp_snapshot_rows.proofs.Forms.{both_are, link_again, no_fault}
use Rattle.rp_snapshot_rows.proofs.ListLemmas.{at_last, at_next, read_one, there}
use Rattle.rp_snapshot_rows.proofs.lists.links.Goals as goal

pub returns-in_err-link-clause-again : goal.returns-in_err-link-clause-again
returns-in_err-link-clause-again c all rest whole is =
    let next = at_next link_tokens (λ x ts. refl) all c.links.links c.links.reader rest (c.links.invariant.0 all rest whole is) c.links-test.ensures.0 in
    let fits = there HasNumbers c.links.links next.0 next.1 (subst (AllByRecursion HasNumbers) next.2 whole) in
    let read = ap link_at (c.links-test.ensures.1 ∙ next.3) ∙ link_again next.0 (listed link_tokens next.1 ++ rest) fits in
    let memory = no_fault c.in_err-link.field-0.0 _ _ c.in_err-link.ensures.read read in
    let p = err_from_is_err_and c.from_residual.result c.from_residual.ensures.1 in
    rw p.1 (p.2 ∙ memory)

pub links-preserved : goal.links-preserved
links-preserved c = (
  λ all rest whole is.
      let next = at_next link_tokens (λ x ts. refl) all c.links.links c.links.reader rest (c.links.invariant.0 all rest whole is) c.links-test.ensures.0 in
      let fits = there HasNumbers c.links.links next.0 next.1 (subst (AllByRecursion HasNumbers) next.2 whole) in
      let read = sym c.in_ok-link.ensures.read ∙ ap link_at (c.links-test.ensures.1 ∙ next.3) ∙ link_again next.0 (listed link_tokens next.1 ++ rest) fits in
      let step = read_one link_tokens all c.links.links c.links.reader rest c.link.new.reader c.in_ok-link.link next (both_are _ _ read) in
      rw c.in_ok-push.ensures.ok step,
  omega (arith, c.in_ok-link.ensures.shorter, ap length c.links-test.ensures.1, c.links.invariant.1),
)

pub returns-clause-again : goal.returns-clause-again
returns-clause-again c all rest whole is = at_last link_tokens (λ x ts. refl) all c.links.links c.links.reader rest c.take_end_array.new.self (c.links.invariant.0 all rest whole is) c.links-test.ensures
