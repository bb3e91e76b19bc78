use Rattle.ex_declarations.specs.Declared as spec
use Rattle.ex_resolve.proofs.Ends.{kept}
use Rattle.ex_resolve.proofs.sorts.sort_declarations.Goals as goal

pub loop-declaration-preserved : goal.loop-declaration-preserved
loop-declaration-preserved c = record {
  entities = kept spec.entity_of c.loop-declaration.left c.pop.new.self c.in-Some.declaration c.loop-declaration.sorted.entities c.put_first.new.self.entities _ c.in-Some.ensures c.in_ok-put_first.ensures.entities c.loop-declaration.invariant.entities;
  functions = kept spec.function_of c.loop-declaration.left c.pop.new.self c.in-Some.declaration c.loop-declaration.sorted.functions c.put_first.new.self.functions _ c.in-Some.ensures c.in_ok-put_first.ensures.functions c.loop-declaration.invariant.functions;
  rules = kept spec.rule_of c.loop-declaration.left c.pop.new.self c.in-Some.declaration c.loop-declaration.sorted.rules c.put_first.new.self.rules _ c.in-Some.ensures c.in_ok-put_first.ensures.rules c.loop-declaration.invariant.rules;
  types = kept spec.type_of c.loop-declaration.left c.pop.new.self c.in-Some.declaration c.loop-declaration.sorted.types c.put_first.new.self.types _ c.in-Some.ensures c.in_ok-put_first.ensures.types c.loop-declaration.invariant.types;
}
