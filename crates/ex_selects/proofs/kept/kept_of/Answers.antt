use Rattle.std.proofs.Common.{◌≡◌, ◌||◌, ◌&&◌, ◌==◌, ℕ, subst, ◌∙◌, ap}
use Rattle.plain_data.specs.Numbers.{is_among}
use Rattle.graphs.specs.Graphs.{supertypes}
use Rattle.ex_selects.specs.Sorts.{sort_at, is_of}
use Rattle.ex_selects.specs.Kept.{IsUnited, StandFor}
use Rattle.ex_selects.proofs.Standing.{family_stands}
use Rattle.ex_selects.proofs.kept.kept_of.Goals as goal

pub returns : goal.returns
returns c =
    let graph = c.args.graph.now in
    let sorts = c.args.sorts.now in
    let class = c.args.class in
    let e = c.args.number in
    let united = c.in-Some.found.keys in
    let numbers = c.in_ok-numbers.numbers.items in
    let kept = c.in_ok-kept.kept in
    let u : IsUnited c.args.all.now (supertypes graph e) united =
    subst (λ ms. IsUnited c.args.all.now ms united) c.supertypes.ensures (rw c.in-Some.is at c.in_ok-found.ensures) in
    let adds : (k : ℕ) → is_among numbers k ≡ ((is_of class (sort_at sorts e) && e == k) || is_among united k) = λ k.
    ap (λ l. is_among l k) c.in_ok-numbers.ensures.same ∙ c.in_ok-add_if.ensures k
    ∙ ap (λ b. (b && e == k) || is_among united k) (c.is_of.ensures ∙ ap (is_of class) c.sort_at.ensures) in
    let s : StandFor sorts numbers kept = subst (λ ns. StandFor sorts ns kept) c.deref.ensures.value c.in_ok-kept.ensures in
    family_stands graph sorts class c.args.all.now c.requires.table e c.requires.within united numbers u adds kept s
