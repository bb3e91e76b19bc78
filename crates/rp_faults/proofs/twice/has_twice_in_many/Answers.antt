use Rattle.std.proofs.Common.{◌≡◌, ◌+◌, List, [], ◌∷◌, ◌++◌, take, drop, sym, ap, ◌∙◌}
use Rattle.std.specs.List.{list_any}
use Rattle.rp_operations.specs.Operations.{is_same, set_union}
use Rattle.rp_faults.specs.Keys.{key_of}
use Rattle.rp_faults.proofs.Bucketed.{among-sharing, holds-more, room-more}
use Rattle.rp_faults.proofs.Repeated.{once, take-read, twice}
use Rattle.rp_faults.proofs.twice.has_twice_in_many.Goals as goal
use Rattle.rp_value.specs.declared.value.Value.{Value}

pub returns-then-is_sharing : goal.returns-then-is_sharing
returns-then-is_sharing c =
    let items = c.args.items.now in
    let i = c.loop-item.item-index in
    let x = c.item-item.result in
    let among : c.is_sharing.result ≡ list_any (is_same x) (take i items) =
    (rw (c.sharing.ensures, c.key_of-key.ensures) at c.is_sharing.ensures) ∙ among-sharing x c.loop-item.before (take i items) c.loop-item.invariant.held in
    twice items i x c.loop-item-test.true c.item-item.is c.loop-item.invariant.same (sym among ∙ c.if-is_sharing.true)

pub loop-item-preserved : goal.loop-item-preserved
loop-item-preserved c =
    let items = c.args.items.now in
    let i = c.loop-item.item-index in
    let x = c.item-item.result in
    let among : c.is_sharing.result ≡ list_any (is_same x) (take i items) =
    (rw (c.sharing.ensures, c.key_of-key.ensures) at c.is_sharing.ensures) ∙ among-sharing x c.loop-item.before (take i items) c.loop-item.invariant.held in
    let more : take i items ++ x ∷ [] ≡ take (i + 1) items = sym (take-read items i x c.loop-item-test.true c.item-item.is) in
    record {
      same = ap (λ (ys : List Value). set_union ys (drop (i + 1) items)) (sym more) ∙ once items i x c.loop-item-test.true c.item-item.is c.loop-item.invariant.same (sym among ∙ c.if-is_sharing.false);
      room = room-more c.loop-item.before c.put.new.self c.key_of-key.result _ c.in_ok-put.ensures c.loop-item.invariant.room;
      held = holds-more key_of c.loop-item.before c.put.new.self c.key_of-key.result _ (take i items) (take (i + 1) items) c.in_ok-put.ensures c.key_of-key.ensures c.loop-item.invariant.room c.loop-item.invariant.held more;
    }
