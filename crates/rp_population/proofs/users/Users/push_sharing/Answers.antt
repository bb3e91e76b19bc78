use Rattle.std.proofs.Common.{◌≡◌, ◌∙◌, Option, Some, List, ℕ, sym, ap}
use Rattle.std.specs.List.{flat_map}
use Rattle.ex_layouts.specs.Entities.{line_of}
use Rattle.rp_rows.specs.declared.rows.ModelContent.{ModelContent}
use Rattle.rp_population.specs.declared.roles.Role.{Role}
use Rattle.rp_population.specs.declared.roles.Role.TheVariants.{Every, Of}
use Rattle.rp_population.specs.Populations.{Counted, places, placed_all}
use Rattle.rp_population.specs.Uses.{users_in}
use Rattle.rp_population.specs.Sought.{SoughtUsers}
use Rattle.rp_population.specs.Found.{AreNames, line_by, told_in, told_in_all}
use Rattle.rp_population.proofs.Using.{all_are, attribute_are, attribute_of}
use Rattle.rp_population.proofs.users.Users.push_sharing.Goals as goal

pub returns-in-Every-clause-places : goal.returns-in-Every-clause-places
returns-in-Every-clause-places c =
    let u = c.self.inside in
    let names = c.in_ok-names.names.keys in
    let m : Counted = record { model = c.args.model.now; content = c.args.held.now.content } in
    let are : AreNames u.of m.model m.content.links names = c.in_ok-names.ensures in
    let role : u.role ≡ Some Every = c.in-Some.is ∙ ap Some c.in-Every.is in
    let same : flat_map (told_in_all names m.model) c.get.result.now.content.instances
    ≡ places (users_in c.args.self.now.schema c.args.self.now.role c.args.self.now.of (placed_all m)) =
    ap (λ (h : ModelContent). flat_map (told_in_all names m.model) h.content.instances) c.get.ensures
    ∙ all_are u.layouts u.of m names are
    ∙ ap (λ (r : Option Role). places (users_in u.layouts r u.of (placed_all m))) (sym role)
    ∙ ap (λ (s : SoughtUsers). places (users_in s.schema s.role s.of (placed_all m))) c.self.view_is in
    rw same at c.push_uses.ensures

pub returns-clause-places : goal.returns-clause-places
returns-clause-places c =
    let u = c.self.inside in
    let names = c.in_ok-names.names.keys in
    let m : Counted = record { model = c.args.model.now; content = c.args.held.now.content } in
    let are : AreNames u.of m.model m.content.links names = c.in_ok-names.ensures in
    let entity = c.in-Of.entity in
    let name = c.in-Of.name in
    let role : u.role ≡ Some (Of entity name) = c.in-Some.is ∙ ap Some c.in-Of.is in
    let line : c.as_slice.result.now ≡ line_of u.layouts entity = c.as_slice.ensures ∙ c.self.invariant ∙ ap (line_by u.layouts) role in
    let same : flat_map (told_in u.layouts (record { entity = entity; line = c.as_slice.result.now; name = name }) names m.model) c.get.result.now.content.instances
    ≡ places (users_in c.args.self.now.schema c.args.self.now.role c.args.self.now.of (placed_all m)) =
    ap (λ (l : List ℕ). flat_map (told_in u.layouts (record { entity = entity; line = l; name = name }) names m.model) c.get.result.now.content.instances) line
    ∙ ap (λ (h : ModelContent). flat_map (told_in u.layouts (attribute_of u.layouts entity name) names m.model) h.content.instances) c.get.ensures
    ∙ attribute_are u.layouts entity name u.of m names are
    ∙ ap (λ (r : Option Role). places (users_in u.layouts r u.of (placed_all m))) (sym role)
    ∙ ap (λ (s : SoughtUsers). places (users_in s.schema s.role s.of (placed_all m))) c.self.view_is in
    rw same at c.push_uses_in.ensures.places
