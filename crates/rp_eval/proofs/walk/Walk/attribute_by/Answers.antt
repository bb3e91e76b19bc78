use Rattle.std.proofs.Common.{sym}
use Rattle.rp_eval.specs.Bodies.{bodies_at}
use Rattle.rp_eval.proofs.walk.Walk.attribute_by.Goals as goal

pub returns-in-Some : goal.returns-in-Some
returns-in-Some g c =
    let found = rw (c.explicit_derivations-derivations.ensures, c.schema-schema.ensures) at c.in-Some.ensures in
    rw (c.in-Explicit.is, sym found) c.derived.ensures

pub returns-in-Some-derivation_in : goal.returns-in-Some-derivation_in
returns-in-Some-derivation_in g c =
    let found = rw (c.own_derivations-derivations.ensures, c.schema-schema.ensures) at c.in-Some-derivation_in.ensures in
    rw (c.in-Derived.is, sym found) c.derived-in-Some-derivation_in.ensures

pub returns-in-Inverse : goal.returns-in-Inverse
returns-in-Inverse g c =
    let below = bodies_at (g.W.Setting.world c.args.self.now.world.now) c.args.self.now.levels in
    let given = rw (c.lookup.ensures.world, c.inverse_at-inverse.ensures, c.schema-schema.ensures) at (c.inverse_by.ensures below) in
    record {
      value = rw c.in-Inverse.is given;
      ready = c.requires.ready;
    }
