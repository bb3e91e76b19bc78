use Rattle.std.proofs.Common.{◌≡◌, ◌+◌, ◌<◌, ◌∙◌, slice_index, arith, rules}
use Rattle.std.specs.Char.{to_ascii_lowercase}
use Rattle.ex_lex.specs.Words.{reserved}
use Rattle.ex_lex.proofs.Rows.{starts_ordered, kind_by_letter, letter_of}
use Rattle.ex_lex.proofs.words.word_kind.Goals as goal

pub kind_between-requires-clause-ordered : goal.kind_between-requires-clause-ordered
kind_between-requires-clause-ordered c =
    let less : c.from-letter.result < 26 = search rules in
    let bounds = starts_ordered c.from-letter.result less in
    omega (arith, c.start-from.ensures, c.start-to.ensures, bounds.0)

pub kind_between-requires-clause-within : goal.kind_between-requires-clause-within
kind_between-requires-clause-within c =
    let less : c.from-letter.result < 26 = search rules in
    let bounds = starts_ordered c.from-letter.result less in
    omega (arith, c.start-to.ensures, bounds.1)

pub returns : goal.returns
unfolding reserved
returns c =
    let word = c.args.word.now in
    let l = c.from-letter.result in
    let letter = letter_of (slice_index word 0) c.requires in
    let less : l < 26 = search rules in
    let is : to_ascii_lowercase (slice_index word 0) ≡ 97 + l = omega (arith, c.from-letter.ensures, c.to_ascii_lowercase.ensures.value, letter.0) in
    let told = rw (c.start-from.ensures, c.start-to.ensures) at c.kind_between.ensures in
    told ∙ kind_by_letter l word less is
