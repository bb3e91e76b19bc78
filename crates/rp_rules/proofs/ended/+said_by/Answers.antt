use Rattle.std.proofs.Common.{refl, sym}
use Rattle.rp_operators.proofs.Sights.{sees-Dec, sees-Int}
use Rattle.rp_rules.proofs.ended.+said_by.Goals as goal

pub returns-in-Int : goal.returns-in-Int
returns-in-Int t c = rw (sym (sees-Int c.args.value.now _ c.in-Int.is)) refl

pub returns-in-Dec : goal.returns-in-Dec
returns-in-Dec t c = rw (sym (sees-Dec c.args.value.now _ c.in-Dec.is)) refl
