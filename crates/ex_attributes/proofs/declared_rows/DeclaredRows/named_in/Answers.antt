use Rattle.std.proofs.Common.{rules, ◌∙◌, ap}
use Rattle.ex_attributes.specs.Tables.{places_at}
use Rattle.ex_attributes.proofs.Runs.{named_rows, places_rise, of_each_member}
use Rattle.ex_attributes.proofs.declared_rows.DeclaredRows.named_in.Goals as goal

pub of_members-requires : goal.of_members-requires
of_members-requires c =
    let places = c.places_of-places.ensures ∙ ap (λ n. places_at n c.self.inside.by_name) c.as_bytes.ensures.value in
    rw (places, c.deref.ensures.value) (places_rise c.self.inside.rows.items c.self.inside.by_name c.args.name.now c.self.invariant.0 (c.self.invariant.1.0 (search (rules, c.if-self.true))))

pub returns-in-Some : goal.returns-in-Some
returns-in-Some c =
    let exact = rw c.in-Some.is at c.in_ok-members.ensures.exact in
    let ascending = rw c.in-Some.is at c.in_ok-members.ensures.ascending in
    let rise = c.self.invariant.1.0 (search (rules, c.if-self.true)) in
    let places = c.places_of-places.ensures ∙ ap (λ n. places_at n c.self.inside.by_name) c.as_bytes.ensures.value in
    let turn = of_each_member c.self.inside.rows.items c.self.inside.by_name c.args.name.now c.self.invariant.0 c.in-Some.members.items c.args.family.now exact ascending rise in
    rw (← c.self.view_is, ← turn, ← places, ← c.deref.ensures.value, ← c.deref-in-Some.ensures.value) c.of_members.ensures

pub returns : goal.returns
returns c =
    let places = c.places_of-places.ensures ∙ ap (λ n. places_at n c.self.inside.by_name) c.as_bytes.ensures.value in
    rw (← c.self.view_is, ← named_rows c.self.inside.rows.items c.self.inside.by_name c.args.name.now c.self.invariant.0, ← places, ← c.deref-2.ensures.value, ← c.in_ok-rows.ensures, ← c.deref-3.ensures.value) c.of_family.ensures
