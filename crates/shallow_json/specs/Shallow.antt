-- Values and the members of an object, without what stands within their lists and objects.
use Rattle.serde_json.specs.Data.{Data, null, boolean, number, string, array, object, Members, no_members, member}

-- the value, or null for a list and for an object
abbrev pub plain : Data → Data
plain null = null
plain (boolean b) = boolean b
plain (number n) = number n
plain (string s) = string s
plain (array ds) = null
plain (object ms) = null

abbrev pub shallow : Members → Members
shallow no_members = no_members
shallow (member k d ms) = member k (plain d) (shallow ms)

-- the value, or null for a list, without what stands within the lists and objects of an object
abbrev pub flat : Data → Data
flat null = null
flat (boolean b) = boolean b
flat (number n) = number n
flat (string s) = string s
flat (array ds) = null
flat (object ms) = object (shallow ms)
