use Rattle.std.proofs.Common.{◌≡◌, ◌++◌, [], ◌∷◌, length, sym, ◌∙◌, ap, zero-add, arith}
use Rattle.std.proofs.lemmas.List.FromFn.{map-range_with_len_more}
use Rattle.ex_renamings.proofs.Tables.{none_renamed}
use Rattle.ex_renamings.proofs.renamings.all_themselves.Goals as goal

pub loop-number-preserved : goal.loop-number-preserved
loop-number-preserved c =
    let n = c.loop-number.number in
    c.in_ok-push.ensures.items
    ∙ ap (λ l. l ++ n ∷ []) c.loop-number.invariant
    ∙ sym (map-range_with_len_more (λ k. k) 0 n n (zero-add n))

pub returns : goal.returns
returns c =
    let all : c.loop-number.number ≡ length c.args.types.now = omega arith in
    rw (c.loop-number.invariant, all) (none_renamed c.args.types.now)
