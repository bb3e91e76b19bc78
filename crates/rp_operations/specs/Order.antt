-- How values of one kind stand to each other, other than aggregates and instances.
use Rattle.std.specs.Prelude.{◌==◌, if◌then◌else◌}
use Rattle.std.specs.Cmp.Lexicographic.{slice_cmp}
use Rattle.std.specs.Ordering.{nat_cmp, int_cmp, bool_cmp}
use Rattle.std.specs.declared.cmp.Ordering.{Ordering}
use Rattle.std.specs.declared.cmp.Ordering.TheVariants as o
use Rattle.rp_numbers.specs.Logical.{rank}
use Rattle.rp_numbers.specs.declared.Logical.{Logical}
use Rattle.rp_numbers.specs.declared.Logical.TheVariants.{False, Unknown, True}
use Rattle.rp_operations.specs.Seen.{Seen, Number, Text, Bits, Truth, Item}
use Rattle.rp_operations.specs.declared.compared.Compared.{Compared}
use Rattle.rp_operations.specs.declared.compared.Compared.TheVariants as c

abbrev pub of_ordering : Ordering → Compared
of_ordering o.Less = c.Less
of_ordering o.Equal = c.Equal
of_ordering o.Greater = c.Greater

-- Texts go by their characters, which is the order of their bytes in UTF-8; a text or a binary that begins another is less.
-- Of two kinds, and with `?`, nothing is known.
abbrev pub compare_scalars : Seen → Seen → Compared
compare_scalars (Number n) (Number m) = of_ordering (int_cmp n m)
compare_scalars (Text s) (Text t) = of_ordering (slice_cmp nat_cmp s t)
compare_scalars (Bits s) (Bits t) = of_ordering (slice_cmp bool_cmp s t)
compare_scalars (Truth x) (Truth y) = of_ordering (nat_cmp (rank x) (rank y))
compare_scalars (Item enumeration place) (Item other at) = if enumeration == other then of_ordering (nat_cmp place at) else c.Unknown
compare_scalars s t = c.Unknown

-- what `=` says of what is compared
abbrev pub equals : Compared → Logical
equals c.Less = False
equals c.Equal = True
equals c.Greater = False
equals c.Differs = False
equals c.Unknown = Unknown
