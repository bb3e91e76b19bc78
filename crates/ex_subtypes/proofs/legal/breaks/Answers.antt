use Rattle.std.proofs.Common.{◌≡◌, ℕ, Some, None, sym, ◌∙◌, ap}
use Rattle.std.specs.List.{list_any}
use Rattle.std.specs.Option.{option_copied}
use Rattle.plain_data.specs.Numbers.{is_among}
use Rattle.ex_subtypes.specs.Legal.{is_neither}
use Rattle.ex_subtypes.specs.Nodes.{all_kept, kept_at, taken_at}
use Rattle.ex_subtypes.specs.Places.{is_place_of}
use Rattle.ex_subtypes.proofs.Broken.{breaks_none, breaks_some}
use Rattle.ex_subtypes.proofs.legal.breaks.Goals as goal

pub returns-in-None : goal.returns-in-None
returns-in-None c =
    let none : kept_at (all_kept c.args.entities.now) c.args.number ≡ None = ap (λ ks. kept_at ks c.args.number) (sym c.requires.kept) ∙ sym c.constraint_at.ensures ∙ ap option_copied c.in-None.is in
    sym (breaks_none c.args.entities.now c.args.set.now c.args.number none)

pub returns-in_ok-places-in-Some : goal.returns-in_ok-places-in-Some
returns-in_ok-places-in-Some c =
    let constraint = c.in-Some.constraint.now in
    let places = c.in_ok-places-in-Some.places.items in
    let below = c.args.below.now in
    let some : kept_at (all_kept c.args.entities.now) c.args.number ≡ Some constraint = ap (λ ks. kept_at ks c.args.number) (sym c.requires.kept) ∙ sym c.constraint_at.ensures ∙ ap option_copied c.in-Some.is in
    let at : (k : ℕ) → is_among places k ≡ list_any (λ n. is_place_of constraint.places c.args.set.now n k) below = λ k.
    c.in_ok-places-in-Some.ensures.same k ∙ ap (λ members. list_any (λ n. is_place_of constraint.places members n k) below) c.as_slice.ensures.same in
    c.is_neither.ensures ∙ ap is_neither (c.taken_at.ensures ∙ ap (taken_at constraint.node) c.deref.ensures.value)
    ∙ breaks_some c.args.entities.now c.args.set.now below places c.args.number constraint c.requires.readable some c.requires.below at
