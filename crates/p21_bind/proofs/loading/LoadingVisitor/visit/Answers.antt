use Rattle.std.proofs.Common.{[], ◌∷◌, ◌++◌, Ok, ◌∙◌, sym, ap}
use Rattle.std.proofs.lemmas.List.{map-append}
use Rattle.p21_bind.specs.Files.{one}
use Rattle.p21_bind.specs.OnePass.{any_name, no_name}
use Rattle.p21_mappings.specs.Referred.{mapping_references}
use Rattle.p21_bind.proofs.WholeFiles.{apart_more, references_more}
use Rattle.p21_bind.proofs.loading.LoadingVisitor.visit.Goals as goal

pub returns-in_ok-put_references_of-in-Ok : goal.returns-in_ok-put_references_of-in-Ok
returns-in_ok-put_references_of-in-Ok c = λ first xs goes_on becomes.
    let x = c.args.instance.now in
    let ok = ap (λ s. one s any_name no_name x) (sym becomes.layouts) ∙ c.in-Ok.ensures.made in
    record {
      layouts = c.one.ensures.layouts ∙ becomes.layouts;
      names = map-append (λ i. i.name) xs (x ∷ []) ∙ ap (λ l. l ++ x.name ∷ []) becomes.names ∙ sym c.in_ok-push-in-Ok-2.ensures.items;
      references = references_more xs x ∙ ap (λ l. l ++ mapping_references x.mapping) becomes.references ∙ sym c.in_ok-put_references_of-in-Ok.ensures;
      instances = apart_more first.layouts xs x c.args.self.now.instances.items c.in-Ok.found becomes.instances ok ∙ ap Ok (sym c.in_ok-push-in-Ok.ensures.items);
    }
