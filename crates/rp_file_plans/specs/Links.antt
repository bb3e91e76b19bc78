-- Links in the order of their names.
use Rattle.std.specs.Prelude.{◌≤◌, List, [], ◌∷◌}
use Rattle.std.specs.List.{AllByRecursion}
use Rattle.rp_content.specs.declared.link.Link.{Link}

-- no name is less than one before it
abbrev pub AreInOrder : List Link → Type 0
AreInOrder [] = Unit {0}
AreInOrder (l ∷ ls) = AllByRecursion (λ (m : Link). l.name ≤ m.name) ls × AreInOrder ls
