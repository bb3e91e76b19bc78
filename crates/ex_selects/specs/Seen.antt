-- Types in the end, without where they lie in memory.
use Rattle.ex_selects.specs.declared.ends.Base as code
use Rattle.ex_selects.specs.declared.ends.Base.TheVariants as b
use Rattle.ex_selects.specs.declared.ends.Target as code_target
use Rattle.ex_selects.specs.Ends.{Base, Plain, Instance, Aggregate, Enumeration, Select, Nothing, Target}

abbrev pub seen : code.Base → Base
seen (b.Plain simple) = Plain simple
seen b.Instance = Instance
seen (b.Aggregate kind low element) = Aggregate kind low element.now
seen (b.Enumeration number) = Enumeration number
seen (b.Select number) = Select number
seen b.Nothing = Nothing

abbrev pub seen_target : code_target.Target → Target
seen_target t = record { name = t.name; base = seen t.base }
