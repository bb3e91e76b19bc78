use Rattle.std.proofs.Common.{◌≡◌, ◌∙◌, ℕ, sym}
use Rattle.std.proofs.lemmas.Iterator.Adapters.{fact_from_collect, YieldsList-from_vec}
use Rattle.std.proofs.lemmas.Result.{IfOk-weaker}
use Rattle.std.specs.BTreeSet.{IsFromIterResult}
use Rattle.std.specs.Ordering.{nat_cmp}
use Rattle.plain_data.specs.Numbers.{is_among}
use Rattle.rp_index.proofs.Candidates.{contained}
use Rattle.rp_index.proofs.pairs.ascending.Goals as goal

pub returns : goal.returns
returns c =
    let numbers = c.args.numbers.items in
    IfOk-weaker c.collect.result (IsFromIterResult nat_cmp numbers) (λ set. (n : ℕ) → is_among set.keys n ≡ is_among numbers n)
    (λ set made. λ n. sym (contained set.keys n) ∙ made.0 n ∙ contained numbers n)
    (fact_from_collect (IsFromIterResult nat_cmp) c.collect.result c.collect.ensures.ran
    (YieldsList-from_vec {s = c.into_iter.result} numbers c.into_iter.ensures.rest (c.into_iter.ensures.len ∙ c.args.numbers.ok.0)))
