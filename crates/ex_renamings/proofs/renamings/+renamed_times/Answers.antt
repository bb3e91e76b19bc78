use Rattle.std.proofs.Common.{◌≡◌, ◌+◌, ◌/◌, suc, map, ◌∙◌, ap, arith}
use Rattle.std.proofs.lemmas.Result.{IfOk-weaker}
use Rattle.ex_renamings.specs.Renamings.{renamed}
use Rattle.ex_renamings.specs.Tables.{target}
use Rattle.ex_renamings.proofs.Tables.{even, odd}
use Rattle.ex_renamings.proofs.renamings.+renamed_times.Goals as goal

pub returns-then-count-eq0-2 : goal.returns-then-count-eq0-2
returns-then-count-eq0-2 t c =
    let n = c.args.count / 2 in
    let half = c.in_ok-half.half.items in
    let table = c.in_ok-table.table.items in
    let sum : c.args.count ≡ n + n = omega arith in
    let is : table ≡ map (target half) half = cc (c.in_ok-table.ensures, c.deref.ensures.value, c.deref-2.ensures.value) in
    even c.args.types.now c.args.count n half table sum is c.in_ok-half.ensures

pub returns : goal.returns
returns t c =
    let n = c.args.count / 2 in
    let half = c.in_ok-half.half.items in
    let table = c.in_ok-table.table.items in
    let sum : c.args.count ≡ suc (n + n) = omega arith in
    let is : table ≡ map (target half) half = cc (c.in_ok-table.ensures, c.deref.ensures.value, c.deref-2.ensures.value) in
    IfOk-weaker c.all_renamed.result _ _
    (λ further more. odd c.args.types.now c.args.count n half table further.items sum is
    (more ∙ ap (map (renamed c.args.types.now)) c.deref-else-count-eq0-2.ensures.value) c.in_ok-half.ensures)
    c.all_renamed.ensures
