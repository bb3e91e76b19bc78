use Rattle.std.proofs.Common.{◌++◌, ◌∙◌}
use Rattle.std.proofs.lemmas.Result.{err_from_is_err_and}
use Rattle.rp_json.specs.Tokens.{listed}
use Rattle.rp_restore.specs.Again.{group_tokens}
use Rattle.rp_restore.proofs.Left.{group_held, group_next, groups_closed}
use Rattle.rp_restore.proofs.groups.groups.Goals as goal

pub groups-preserved : goal.groups-preserved
groups-preserved c = (
  c.in_ok-group.ensures.valid,
  c.in_ok-group.ensures.schemas ∙ c.groups.invariant.1,
  c.in_ok-group.ensures.partners ∙ c.groups.invariant.2,
  λ gs ms rest may is.
      let start = c.args.holdings.now.content in
      let held = c.groups.holdings.content in
      let next = group_next gs ms start held c.groups.reader rest (c.groups.invariant.3 gs ms rest may is) c.groups-test.ensures.0 in
      let one = c.in_ok-group.ensures.again next.0 (listed group_tokens next.1 ++ rest) next.2 (c.groups-test.ensures.1 ∙ next.5) in
      group_held gs ms start held c.group.new.holdings.content c.groups.reader rest c.group.new.reader next one,
)

pub returns-in_err-group-clause-again : goal.returns-in_err-group-clause-again
returns-in_err-group-clause-again c gs ms rest may is =
    let start = c.args.holdings.now.content in
    let held = c.groups.holdings.content in
    let next = group_next gs ms start held c.groups.reader rest (c.groups.invariant.3 gs ms rest may is) c.groups-test.ensures.0 in
    let memory = c.in_err-group.ensures.again next.0 (listed group_tokens next.1 ++ rest) next.2 (c.groups-test.ensures.1 ∙ next.5) in
    let p = err_from_is_err_and c.from_residual.result c.from_residual.ensures.1 in
    rw p.1 (p.2 ∙ memory)

pub returns-clause-again : goal.returns-clause-again
returns-clause-again c gs ms rest may is = groups_closed gs ms c.args.holdings.now.content c.groups.holdings.content c.groups.reader rest c.take_end_array.new.self (c.groups.invariant.3 gs ms rest may is) c.groups-test.ensures
