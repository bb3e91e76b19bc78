use Rattle.std.proofs.Common.{[], sym, ◌∙◌}
use Rattle.std.proofs.lemmas.List.{get_or_read}
use Rattle.std.proofs.lemmas.Slice.Eq.{bytes_eq-Decides}
use Rattle.rp_readers.proofs.readers.place_among.Goals as goal

pub returns-then-is : goal.returns-then-is
returns-then-is c =
    let found = get_or_read c.args.texts.now c.loop-i.i c.index-texts-i.result c.loop-i-test.true c.index-texts-i.is [] in
    let same = (bytes_eq-Decides c.args.text.now c.index-texts-i.result).0 (sym c.is.ensures ∙ c.if-is.true) in
    (c.loop-i-test.true, sym found ∙ sym same)
