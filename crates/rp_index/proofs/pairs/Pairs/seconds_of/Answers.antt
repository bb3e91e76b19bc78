use Rattle.std.proofs.Common.{◌≡◌, ◌==◌, ◌∙◌, ℕ, true, false, ap, ⊎_elim}
use Rattle.std.proofs.lemmas.Bool.{cases_Bool}
use Rattle.std.proofs.lemmas.List.Folds.{list_any-append}
use Rattle.plain_data.specs.Numbers.{is_among}
use Rattle.rp_index.specs.Pairs.{has_pair}
use Rattle.rp_index.proofs.Tests.{or_left, or_right}
use Rattle.rp_index.proofs.Candidates.{second_there}
use Rattle.rp_index.proofs.pairs.Pairs.seconds_of.Goals as goal

pub returns : goal.returns
returns c = λ order u there.
    let x = c.args.self.now in
    let q : ℕ × ℕ = (c.args.first, u) in
    let settled = c.in_ok-seconds.seconds.items in
    let fresh = c.in-Some.fresh.items in
    let found : (v : ℕ) → has_pair x.fresh.keys (c.args.first, v) ≡ true → is_among fresh v ≡ true = rw c.in-Some.is at c.in_ok-fresh.ensures in
    let apart = ap (λ l. is_among l u) c.in_ok-append.ensures.items ∙ list_any-append (λ m. m == u) settled fresh in
    apart ∙ ⊎_elim
    (λ (first : has_pair x.settled.items q ≡ true).
    or_left (is_among settled u) (is_among fresh u) (ap (λ l. is_among l u) c.in_ok-seconds.ensures ∙ second_there c.args.first u c.settled_under-settled.result.now (c.settled_under-settled.ensures order u first)))
    (λ (other : has_pair x.settled.items q ≡ false).
    or_right (is_among settled u) (is_among fresh u) (found u (rw other at there)))
    (cases_Bool (has_pair x.settled.items q))
