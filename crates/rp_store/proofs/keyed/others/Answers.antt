use Rattle.std.proofs.Common.{rules, not, ◌∙◌, ap}
use Rattle.std.specs.Str.{bytes_eq}
use Rattle.std.proofs.lemmas.Fn.{filter_same}
use Rattle.rp_store.specs.Entries.{without_name}
use Rattle.rp_store.proofs.keyed.others.Goals as goal

pub returns : goal.returns
returns c =
    c.from_vec.ensures
    ∙ filter_same _ (λ m. not (bytes_eq m c.args.name.now)) _ (λ x b f' called. search rules) _ _ c.retain.ensures.filtered
    ∙ ap (without_name c.args.name.now) c.into_vec-names.ensures
