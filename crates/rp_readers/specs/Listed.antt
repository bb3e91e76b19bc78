-- Groups whose members can be walked over in order, and whose populations can be searched: those of each valid repository.
use Rattle.std.specs.Prelude.{◌≡◌, Some}
use Rattle.std.specs.List.{AllByRecursion}
use Rattle.rp_rows.specs.declared.rows.Listing.{Listing}
use Rattle.rp_rows.specs.declared.rows.Key.{Key}
use Rattle.rp_rows.specs.Rows.{GroupRow}
use Rattle.rp_rows.specs.Listings.{IsListed}
use Rattle.rp_population.specs.Populations.{Counted}
use Rattle.rp_positions.specs.Positions.{AreInOrder}
use Rattle.rp_plain.specs.Plain.{Plain}
use Rattle.rp_plain.specs.Readers.{Readers, as_counted}
use Rattle.rp_rows.specs.declared.rows.ModelContent.{ModelContent}
use Rattle.rp_sight.specs.declared.rows.RowRef.{RowRef}
use Rattle.rp_sight.specs.Stored.{row_of}

-- the members of the group stand in the order of owner and name, each once
abbrev pub HoldsListed : GroupRow → Type 0
HoldsListed g = IsListed g.holds

-- all groups are so
abbrev pub AreListed : Plain → Type 0
AreListed r = AllByRecursion HoldsListed r.groups

-- all groups that a partner is told of are so
abbrev pub TellsListed : Readers → Type 0
TellsListed a = (k : Key) (g : Listing) → a.listing k ≡ Some g → IsListed g

-- the models that count in all groups that a partner is told of are in order
abbrev pub TellsPopulations : Readers → Type 0
TellsPopulations a = (k : Key) → AreInOrder (a.counted k)

-- a model that counts, as it is looked at
abbrev pub counted_of : RowRef ModelContent → Counted
counted_of m = as_counted (row_of m)
