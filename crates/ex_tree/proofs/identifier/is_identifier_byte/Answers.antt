-- The table is held against the definition at each of the 256 bytes, by computing.
use Rattle.std.proofs.Common.{not, nat_eq, get_or, refl, arith}
use Rattle.std.proofs.lemmas.Bool.{agree_below_at}
use Rattle.ex_tree.specs.declared.identifier.TheConstants.{IDENTIFIER_BYTES}
use Rattle.ex_tree.specs.Identifiers.{is_identifier_byte}
use Rattle.ex_tree.proofs.identifier.is_identifier_byte.Goals as goal

pub returns : goal.returns
returns c = rw c.from.ensures (agree_below_at (λ k. not (nat_eq (get_or IDENTIFIER_BYTES k 0) 46)) is_identifier_byte 256 c.args.byte refl (omega arith))
