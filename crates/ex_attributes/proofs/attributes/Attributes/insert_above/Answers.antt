use Rattle.std.proofs.Common.{◌≡◌, ◌+◌, ◌==◌, ◌&&◌, ◌||◌, not, true, false, drop, get_or, ◌∙◌, ap, arith}
use Rattle.std.proofs.lemmas.Bool.Decides.{nat_tests}
use Rattle.plain_data.specs.Numbers.{is_among}
use Rattle.graphs.proofs.Sets.{inserted}
use Rattle.ex_attributes.proofs.Above.{inserted_next, left_out_next}
use Rattle.ex_attributes.proofs.attributes.Attributes.insert_above.Goals.{then-above-entity+in_ok-insert, else-above-entity}
use Rattle.ex_attributes.proofs.attributes.Attributes.insert_above.Goals as goal

pub loop-above-preserved : goal.loop-above-preserved
loop-above-preserved c = λ k.
    let entity = c.args.entity in
    let family = c.deref-above-items.result.now in
    let i = c.loop-above.above-index in
    let set = c.loop-above.set.keys in
    let later = not (entity == k) && is_among (drop (i + 1) family) k in
    elim c.if-above-entity.branch [
      | then-above-entity+in_ok-insert w ↦
          let apart : (get_or family i 0 == entity) ≡ false = grind (arith, nat_tests, w.if-above-entity.true) in
          ap (λ s. is_among s.keys k || later) w.set-is
          ∙ inserted_next entity i family set k c.loop-above-test.true w.insert.new.self.keys apart (inserted set w.insert.new.self.keys (get_or family i 0) w.in_ok-insert.ensures.keys k)
          ∙ c.loop-above.invariant k
      | else-above-entity w ↦
          let one : (get_or family i 0 == entity) ≡ true = grind (arith, nat_tests, w.if-above-entity.false) in
          ap (λ s. is_among s.keys k || later) w.set-is
          ∙ left_out_next entity i family set k c.loop-above-test.true one
          ∙ c.loop-above.invariant k
    ]
