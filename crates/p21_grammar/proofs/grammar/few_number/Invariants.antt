use Rattle.std.proofs.Common.{◌≡◌, ◌≤◌, drop}
use Rattle.rp_numbers.specs.Whole.{value_after}
use Rattle.p21_grammar.proofs.Names.{most}
use Rattle.p21_grammar.proofs.grammar.few_number.Given as goal

abbrev pub invariant-digits : goal.invariant-digits
invariant-digits l = (l.number ≤ most l.digit-index) × (value_after l.number (drop l.digit-index l.digits) ≡ value_after 0 l.digits)
