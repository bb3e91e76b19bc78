use Rattle.std.proofs.Common.{◌≡◌, ◌<◌, ◌+◌, [], ◌∷◌, ◌++◌, length, take, get_or, subst, sym, arith}
use Rattle.std.proofs.lemmas.List.{take_more}
use Rattle.ex_kinds.specs.Indexed.{AreEntities}
use Rattle.ex_kinds.specs.declared.kind.Sort.TheVariants.{Integer}
use Rattle.ex_kinds.specs.declared.kind.ValueKind.{ValueKind}
use Rattle.ex_kinds.proofs.indexed.entities_of.Goals as goal

pub loop-kind-preserved : goal.loop-kind-preserved
loop-kind-preserved c =
    let kinds = c.args.kinds.now in
    let i = c.loop-kind.kind-index in
    let first : ValueKind = record { depth = 0; sort = Integer } in
    let within : i < length kinds = omega arith in
    let longer : take (i + 1) kinds ≡ take i kinds ++ get_or kinds i first ∷ [] = take_more kinds i first within in
    subst (AreEntities c.note.new.entities.keys) (sym longer) (c.in_ok-note.ensures.ok (take i kinds) c.loop-kind.invariant)
