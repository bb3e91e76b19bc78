-- The names of instances and of links.
use Rattle.std.specs.Prelude.{◌≡◌, ℕ, ◌<◌, List, length, None}
use Rattle.std.specs.List.{find}
use Rattle.std.specs.Ordering.{nat_cmp}
use Rattle.sorted_tables.specs.Table.{is_at}
use Rattle.rp_content.specs.declared.instance.Instance.{Instance}
use Rattle.rp_content.specs.declared.link.Link.{Link}

abbrev pub instance_name : Instance → ℕ
instance_name i = i.name

abbrev pub link_name : Link → ℕ
link_name l = l.name

-- so much room is enough for an instance of this name, if none stands there
abbrev pub Takes : ℕ → ℕ → List Instance → Type 0
Takes room n is = find (is_at nat_cmp instance_name n) is ≡ None → length is < room
