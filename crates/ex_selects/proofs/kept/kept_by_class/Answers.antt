use Rattle.ex_selects.specs.declared.sorts.Class.{Class}
use Rattle.ex_selects.specs.declared.sorts.Class.TheVariants as class
use Rattle.ex_selects.proofs.kept.kept_by_class.Goals as goal

of_each : (P : Class → Type 0) → P class.Plain → P class.Items → P class.Lists → (of : Class) → P of
of_each P plain items lists class.Plain = plain
of_each P plain items lists class.Items = items
of_each P plain items lists class.Lists = lists

pub returns : goal.returns
returns c = of_each _ c.in_ok-plain.ensures c.in_ok-items.ensures c.in_ok-lists.ensures
