use Rattle.std.proofs.Common.{◌≡◌, ◌≤◌, ◌<◌, ◌-◌, ◌*◌, length, take, drop, slice_index, ◌∙◌, ap, length-take, length-take-le, arith}
use Rattle.std.proofs.lemmas.List.{take_rest}
use Rattle.rp_value.specs.Blocks.{begun_in, block_starts}
use Rattle.rp_value.proofs.Ends.{end_of, end-behind, end-within, start-is, start-within, starts-first, starts-rise}
use Rattle.rp_value.proofs.characters.end_by_blocks.Goals as goal

pub last_within-block-requires-clause-first : goal.last_within-block-requires-clause-first
last_within-block-requires-clause-first c = rw c.requires (starts-first c.args.text.now)

pub last_within-block-requires-clause-rising : goal.last_within-block-requires-clause-rising
last_within-block-requires-clause-rising c = rw c.requires (starts-rise c.args.text.now)

pub overflow_mul-start : goal.overflow_mul-start
overflow_mul-start c = omega (arith, start-within c.args.text.now c.last_within-block.result (rw c.requires at c.last_within-block.ensures.within))

pub slice_bounds-end_of_characters-count : goal.slice_bounds-end_of_characters-count
slice_bounds-end_of_characters-count c = start-within c.args.text.now c.last_within-block.result (rw c.requires at c.last_within-block.ensures.within)

pub slice_bounds-end_of_characters-start : goal.slice_bounds-end_of_characters-start
slice_bounds-end_of_characters-start c = start-within c.args.text.now c.last_within-block.result (rw c.requires at c.last_within-block.ensures.within)

pub overflow_add-result : goal.overflow_add-result
overflow_add-result c =
    let text = c.args.text.now in
    let block = c.last_within-block.result in
    let within = start-within text block (rw c.requires at c.last_within-block.ensures.within) in
    let rest = drop (block * 256) text in
    let left = c.args.count - slice_index c.args.starts.now block in
    omega (arith, within, c.end_of_characters.ensures, end-within left (take (length text - block * 256) rest), length-take (length text - block * 256) rest)

pub returns : goal.returns
returns c =
    let text = c.args.text.now in
    let block = c.last_within-block.result in
    let at = block * 256 in
    let lt : block < length (block_starts text) = rw c.requires at c.last_within-block.ensures.within in
    let counted : slice_index c.args.starts.now block ≡ begun_in text block = ap (λ l. slice_index l block) c.requires ∙ start-is text block lt in
    let most : begun_in text block ≤ c.args.count = omega (arith, counted, c.last_within-block.ensures.most) in
    let rest = ap (λ n. end_of (c.args.count - n) (take (length text - at) (drop at text))) counted ∙ ap (end_of (c.args.count - begun_in text block)) (take_rest text at) in
    omega (arith, c.end_of_characters.ensures, rest, end-behind at c.args.count text most, length-take-le at text (start-within text block lt))
