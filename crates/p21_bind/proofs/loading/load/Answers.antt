use Rattle.std.proofs.Common.{◌≡◌, true, false, ◌++◌, ◌==◌, [], Some, Ok, refl, sym, ◌∙◌, ap, subst}
use Rattle.std.specs.List.{list_all}
use Rattle.std.specs.Prelude.{IfSome}
use Rattle.plain_data.specs.Numbers.{is_among}
use Rattle.p21_instances.specs.Instances.{has_twice}
use Rattle.p21_grammar.specs.File.{file_of}
use Rattle.p21_grammar.specs.Visited.{ShownAll}
use Rattle.p21_bind.specs.OnePass.{Becomes, loaded}
use Rattle.p21_mappings.specs.Contents.{content}
use Rattle.p21_bind.proofs.WholeFiles.{loaded_whole, loaded_named, of_found}
use Rattle.p21_bind.proofs.loading.load.Goals as goal

pub into_content-requires : goal.into_content-requires
into_content-requires c =
    let first = c.in_ok-loading.loading in
    let now = c.read_visited.new.visitor in
    let start : Becomes first [] first = record {
      layouts = refl;
      names = sym c.in_ok-loading.ensures.names;
      references = sym c.in_ok-loading.ensures.references;
      instances = ap Ok (sym c.in_ok-loading.ensures.instances);
    } in
    let given : IfSome c.in_ok-raw.field-0 (λ rest. ShownAll (Becomes first) rest now (file_of c.args.text.now)) = c.in_ok-raw.ensures first start in
    let shown = subst (λ o. IfSome o (λ rest. ShownAll (Becomes first) rest now (file_of c.args.text.now))) c.in-Some.is given in
    loaded_named first now c.in-Some.raw (file_of c.args.text.now) shown

pub returns : goal.returns
returns c =
    let first = c.in_ok-loading.loading in
    let now = c.read_visited.new.visitor in
    let start : Becomes first [] first = record {
      layouts = refl;
      names = sym c.in_ok-loading.ensures.names;
      references = sym c.in_ok-loading.ensures.references;
      instances = ap Ok (sym c.in_ok-loading.ensures.instances);
    } in
    let given : IfSome c.in_ok-raw.field-0 (λ rest. ShownAll (Becomes first) rest now (file_of c.args.text.now)) = c.in_ok-raw.ensures first start in
    let shown = subst (λ o. IfSome o (λ rest. ShownAll (Becomes first) rest now (file_of c.args.text.now))) c.in-Some.is given in
    of_found c.into_content.result (λ held. held ≡ content c.in-Some.raw.header now.instances.items) (λ held. has_twice (λ m n. m == n) now.names.items ≡ false)
    (λ held. list_all (is_among (now.names.items ++ c.args.linked.now)) now.references.items ≡ true)
    (λ held. loaded c.args.schema.now c.args.name.now c.args.linked.now (file_of c.args.text.now) ≡ Some held)
    (λ held made once defined. loaded_whole c.args.schema.now c.args.name.now c.args.linked.now first now c.in-Some.raw held (file_of c.args.text.now) shown
    c.in_ok-loading.ensures.layouts (sym c.in_ok-is_of_schema.ensures ∙ c.if-not-branch.false) once defined made)
    c.into_content.ensures.content c.into_content.ensures.once c.into_content.ensures.defined
