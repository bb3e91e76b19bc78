use Rattle.std.proofs.Common.{◌≡◌, ◌<◌, ◌+◌, ◌∙◌, ℕ, true, List, length, take, map, filter, ap, sym, subst, arith}
use Rattle.std.specs.BTreeMap.Range.{range_contains}
use Rattle.std.specs.declared.ops.Bound.TheVariants.{Included, Excluded}
use Rattle.plain_data.specs.Numbers.{is_among}
use Rattle.rp_index.specs.Pairs.{pair_cmp}
use Rattle.rp_index.proofs.Candidates.{seconds_have, all_taken}
use Rattle.rp_index.proofs.pairs.seconds_in.Goals as goal

pub returns-then-len-most : goal.returns-then-len-most
returns-then-len-most c = λ u there.
    let keys = c.args.set.now.keys in
    let first = c.args.first in
    let most = c.args.most in
    let end = c.in-Some.end in
    let seconds = c.in_ok-seconds.seconds in
    let under : ℕ → List ℕ = λ e. map (λ (p : ℕ × ℕ). p.1) (filter (range_contains pair_cmp (Included (first, 0)) (Excluded (e, 0))) keys) in
    let items : seconds.items ≡ take most (under end) = c.in_ok-seconds.ensures in
    let own : length seconds.items < most = omega (arith, c.if-len-most.true, c.len.ensures, seconds.ok.0) in
    let few : length (take most (under end)) < most = subst (λ (l : List ℕ). length l < most) items own in
    let next : end ≡ first + 1 = c.in-Some.ensures.1 in
    ap (λ (l : List ℕ). is_among l u) (items ∙ all_taken most (under end) few)
    ∙ subst (λ (e : ℕ). is_among (under e) u ≡ true) (sym next) (seconds_have first u keys there)
