use Rattle.std.proofs.Common.{◌-◌, length, arith}
use Rattle.p21_lexemes.proofs.Cursor.{shown-token}
use Rattle.p21_lexemes.proofs.Words.{token_is, word-IsAscii}
use Rattle.p21_lexemes.proofs.tokens.with_token.Goals as goal

pub returns : goal.returns
returns c =
    let z = c.args.left.now in
    let fits = c.requires.fits in
    shown-token (c.args.end - length z) c.args.len c.args.kind _ z c.requires.front fits.0 fits.1

pub invariant_of-result : goal.invariant_of-result
invariant_of-result c =
    let z = c.args.left.now in
    let fits = c.requires.fits in
    record {
      ended = λ none. absurd (omega arith);
      goes_on = λ some. token_is z c.args.kind c.args.len c.requires.front;
      fits = fits.1;
      plain = word-IsAscii z c.args.kind c.args.len c.requires.front;
      within = c.requires.within;
      range = c.requires.range;
    }
