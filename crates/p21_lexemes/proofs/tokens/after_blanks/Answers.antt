use Rattle.std.proofs.lemmas.List.{take_rest}
use Rattle.p21_lexemes.proofs.Lexemes.{lexemes_after_blanks}
use Rattle.p21_lexemes.proofs.tokens.after_blanks.Goals as goal

pub returns-clause-value : goal.returns-clause-value
returns-clause-value c =
    let z = c.args.z.now in
    let n = c.blanks_len.result in
    rw (take_rest z n) (lexemes_after_blanks c.args.end n z c.blanks_len.ensures.value c.blanks_len.ensures.within c.requires)
