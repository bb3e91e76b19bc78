use Rattle.std.proofs.Common.{ap, arith, ◌+◌, codes, Some, None}
use Rattle.std.specs.Option.{option_map}
use Rattle.memchr.proofs.lemmas.ValueLemmas.{FindsNeedle-value}
use Rattle.p21_lexemes.proofs.front.comment_len.Goals as goal

pub returns-in-None-clause-value : goal.returns-in-None-clause-value
returns-in-None-clause-value c = ap (option_map (λ place. place + 2)) (FindsNeedle-value c.args.z.now (codes "*/") None c.in-None.ensures)

pub returns-in-Some-clause-value : goal.returns-in-Some-clause-value
returns-in-Some-clause-value c =
    ap (option_map (λ place. place + 2)) (FindsNeedle-value c.args.z.now (codes "*/") (Some c.in-Some.place) c.in-Some.ensures)

pub returns-in-Some-clause-within : goal.returns-in-Some-clause-within
returns-in-Some-clause-within c = let fits = c.in-Some.ensures.1.fits in (omega arith, fits)
