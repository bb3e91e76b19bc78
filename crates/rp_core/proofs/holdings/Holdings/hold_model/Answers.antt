use Rattle.std.proofs.Common.{◌≡◌, map, Some, sym, ◌∙◌, ap}
use Rattle.rp_rows.specs.declared.rows.Key.{Key}
use Rattle.rp_store.specs.Entries.{entry_key}
use Rattle.rp_store.specs.Kept.{Fits}
use Rattle.rp_store.specs.Models as store
use Rattle.rp_sight.specs.Stored.{joined}
use Rattle.rp_restore_laws.specs.Restoring.{row_of, restored, with_model}
use Rattle.rp_core.specs.Held.{Kept}
use Rattle.rp_core.proofs.Holding.{granted_at, held_rows, held_alike}
use Rattle.rp_core.proofs.holdings.Holdings.hold_model.Goals as goal

pub commit-requires : goal.commit-requires
unfolding Fits
commit-requires c = c.in_ok-reserve.ensures.room

pub invariant_of-self-2 : goal.invariant_of-self-2
invariant_of-self-2 c =
    let k : Key = c.args.key in
    let ms = c.self.inside.store.entries in
    let es = c.self.inside.access.models.entries in
    let models : c.commit.new.self.entries ≡ store.with_model k (Some c.args.holds) ms = c.commit.ensures ∙ (λ i. store.with_model (c.in_ok-key.ensures i) (Some (c.in_ok-indexed.ensures i)) (c.in_ok-reserve.ensures.models i)) in
    let rights : c.hold_model.new.self.models.entries ≡ granted_at k c.args.grants es = c.in_ok-hold_model.ensures.held ∙ ap (λ (j : Key). granted_at j c.args.grants es) (c.in_ok-again.ensures ∙ c.in_ok-key.ensures) in
    record {
      layouts = c.self.invariant.layouts;
      rules = c.self.invariant.rules;
      alike = ap (map entry_key) models ∙ held_alike k c.args.holds c.args.grants ms es c.self.invariant.alike ∙ ap (map entry_key) (sym rights);
    }

pub returns-clause-held : goal.returns-clause-held
returns-clause-held c =
    let k : Key = c.args.key in
    let ms = c.self.inside.store.entries in
    let es = c.self.inside.access.models.entries in
    let models : c.commit.new.self.entries ≡ store.with_model k (Some c.args.holds) ms = c.commit.ensures ∙ (λ i. store.with_model (c.in_ok-key.ensures i) (Some (c.in_ok-indexed.ensures i)) (c.in_ok-reserve.ensures.models i)) in
    let rights : c.hold_model.new.self.models.entries ≡ granted_at k c.args.grants es = c.in_ok-hold_model.ensures.held ∙ ap (λ (j : Key). granted_at j c.args.grants es) (c.in_ok-again.ensures ∙ c.in_ok-key.ensures) in
    let rows : joined c.commit.new.self.entries c.hold_model.new.self.models.entries ≡ restored (row_of k c.args.holds c.args.grants) (joined ms es) =
    (λ i. joined (models i) (rights i)) ∙ held_rows k c.args.holds c.args.grants ms es c.self.invariant.alike in
    (λ i. record {
      schemas = c.self.inside.schemas.now;
      partners = c.self.inside.partners.items;
      models = rows i;
      groups = (c.in_ok-hold_model.ensures.groups i).rows;
    })
    ∙ ap (λ (h : Kept). with_model (row_of k c.args.holds c.args.grants) h.content) c.self.view_is
