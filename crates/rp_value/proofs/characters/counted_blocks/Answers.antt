use Rattle.std.proofs.Common.{◌≡◌, ◌+◌, ◌-◌, ◌*◌, ◌/◌, ◌∷◌, [], ◌++◌, length, take, drop, map, sym, ◌∙◌, ap, take_all, arith}
use Rattle.std.specs.List.{range_with_len}
use Rattle.std.proofs.lemmas.List.FromFn.{map-range_with_len_more}
use Rattle.rp_value.specs.Blocks.{begun_in}
use Rattle.rp_value.proofs.Ends.{begun, begun-add, begun-plain, starts-are}
use Rattle.rp_value.proofs.characters.counted_blocks.Goals as goal
use Rattle.rp_value.proofs.characters.counted_blocks.Goals.{then-end-plain, else-end-plain}

pub loop-block-preserved : goal.loop-block-preserved
loop-block-preserved c =
    let text = c.args.text.now in
    let block = c.loop-block.block in
    let end = (block + 1) * 256 in
    let at : end - 256 ≡ block * 256 = omega arith in
    let size : end - (end - 256) ≡ 256 = omega arith in
    let next : block * 256 + 256 ≡ end = omega arith in
    let part = ap (λ n. begun (take n (drop (end - 256) text))) size ∙ ap (λ n. begun (take 256 (drop n text))) at in
    let sum = begun-add text (block * 256) 256 in
    let counted : c.if-end-plain.count ≡ begun_in text (block + 1) =
    elim c.if-end-plain.branch [
      | then-end-plain w ↦ w.count-is ∙ sym (begun-plain text end c.args.plain w.if-end-plain.true c.requires.plain)
      | else-end-plain w ↦ omega (arith, w.count-is, w.character_count-count.ensures, part, sum, ap (λ n. begun (take n text)) next, c.loop-block.invariant.0)
    ] in (
      counted,
      c.in_ok-push-2.ensures.items ∙ ap (λ l. l ++ c.if-end-plain.count ∷ []) c.loop-block.invariant.1 ∙ ap (λ n. map (begun_in text) (range_with_len 0 (block + 1)) ++ n ∷ []) counted
          ∙ sym (map-range_with_len_more (begun_in text) 0 (block + 1) (block + 1) (omega arith)),
    )

pub returns-clause-starts : goal.returns-clause-starts
returns-clause-starts c =
    let text = c.args.text.now in
    let all : c.loop-block.block ≡ length text / 256 = omega (arith, c.loop-block.auto.block-end, c.loop-block-test.false) in
    c.from_vec.ensures ∙ c.loop-block.invariant.1 ∙ ap (λ n. map (begun_in text) (range_with_len 0 (n + 1))) all ∙ starts-are text

pub returns-clause-count : goal.returns-clause-count
returns-clause-count c =
    let text = c.args.text.now in
    let at = length text / 256 * 256 in
    let all : c.loop-block.block ≡ length text / 256 = omega (arith, c.loop-block.auto.block-end, c.loop-block-test.false) in
    omega (arith, c.loop-block.invariant.0, ap (begun_in text) all, begun-add text at (length text - at), ap begun (take_all (at + (length text - at)) text (omega arith)), c.character_count-count-2.ensures)
