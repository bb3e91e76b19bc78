use Rattle.std.proofs.Common.{◌≡◌, length, map}
use Rattle.ex_lex.specs.Words.{kind_in}
use Rattle.ex_lex.proofs.words.kind_in.Given as goal

abbrev pub invariant-rows : goal.invariant-rows
invariant-rows l = kind_in (map (λ row. (row.0.now, row.1)) l.rows) l.word ≡ kind_in (map (λ row. (row.0.now, row.1)) l.initial.rows) l.word

abbrev pub decreases-rows : goal.decreases-rows
decreases-rows l = length l.rows
