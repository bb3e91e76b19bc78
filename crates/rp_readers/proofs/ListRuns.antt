-- What an iterator over the elements of a list gives.
use Rattle.std.proofs.Common.{◌≡◌, true, ◌∙◌, ap}
use Rattle.std.specs.Iterator.Runs.{Run, EveryRun, ItemsAre}
use Rattle.std.specs.Vec.Iter.{into_iter_items, into_iter_steps}
use Rattle.std.specs.declared.vec.IntoIter.{IntoIter}

-- a whole run gives all of them
pub all_items : {X Z : Type 0} → EveryRun (into_iter_steps {X = X} {Z = Z}) (λ p. ItemsAre p (into_iter_items p.from))
    → (s : IntoIter X Z) (p : Run (into_iter_steps {X = X} {Z = Z})) → p.from ≡ s → p.whole ≡ true → p.items ≡ into_iter_items s
all_items runs s p from whole = (runs p p.seen).4 whole ∙ ap into_iter_items from
