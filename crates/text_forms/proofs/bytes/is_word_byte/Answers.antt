-- The table is held against the definition at each of the 256 bytes, by computing.
use Rattle.std.proofs.Common.{not, nat_eq, get_or, refl, arith}
use Rattle.std.proofs.lemmas.Bool.{agree_below_at}
use Rattle.text_forms.specs.declared.bytes.TheConstants.{WORD_BYTES}
use Rattle.text_forms.specs.Words.{is_word_byte}
use Rattle.text_forms.proofs.bytes.is_word_byte.Goals as goal

pub returns : goal.returns
returns c = rw c.from.ensures (agree_below_at (λ k. not (nat_eq (get_or WORD_BYTES k 0) 46)) is_word_byte 256 c.args.b refl (omega arith))
