-- A model that is taken is valid, and of a valid one the snapshot has what is taken.
use Rattle.std.proofs.Common.{◌≡◌, ◌≤◌, ℕ, inl, inr, false, List, [], Some, None, Result, Ok, Err, IsErrAnd, refl, sym, ◌∙◌, ap, subst, arith}
use Rattle.plain_data.specs.declared.failure.Failure.{Failure}
use Rattle.ex_types.specs.Checked.{Checked}
use Rattle.p21_bind.specs.Files.{bound_file}
use Rattle.p21_bind.specs.Origins.{IsInstanceOfFile, IsSpelled}
use Rattle.p21_bind.proofs.Ascending.{bound_ascends, bound_names, defined_by, of_file}
use Rattle.p21_laws.specs.Contents.{IsRead}
use Rattle.p21_mappings.specs.Contents.{content}
use Rattle.rp_content.specs.declared.content.Content.{Content}
use Rattle.rp_rows.specs.Contents.{instance_name, greatest_name, link_name, link_names}
use Rattle.rp_rows.specs.Instances.{max_instances, max_name}
use Rattle.rp_rows.specs.Rows.{Text, Model, row_key}
use Rattle.rp_plain.specs.Meaning.{schema_named}
use Rattle.rp_plain.specs.Valid.{IsValidContent, IsValidModel}
use Rattle.rp_snapshot_rows.specs.declared.rows.SavedModel.{SavedModel}
use Rattle.rp_snapshot_rows.specs.Again.{saved_model}
use Rattle.rp_snapshots.specs.Snapshots.{first_version, file_by, file_in}
use Rattle.rp_laws.proofs.BoundFiles.{bound_refer}
use Rattle.rp_laws.proofs.ByName.{within, all_within}
use Rattle.rp_laws.proofs.FileInstances.{all_spelled}
use Rattle.rp_laws.proofs.TextAgain.{AllAccepted, model_again}
use Rattle.rp_laws.proofs.ValidTables.{all_each}
use Rattle.rp_restored_rows.specs.declared.lack.RowLack.{RowLack}
use Rattle.rp_restored_rows.specs.Models.{joins, content_lack, IsTaken, Reads, Takes}
use Rattle.rp_restored_rows.proofs.Checks.{holds, passes, neither, both_none}
use Rattle.rp_restored_rows.proofs.FileContents.{one_read, in_order, all_sound}
use Rattle.rp_restored_rows.proofs.LinkTests.{are_linked, links_valid, links_pass, free_pass, all_within_test, are_within}
use Rattle.rp_restored_rows.proofs.Tested.{at_most, no_more, row_valid, row_passes}

least : (n : ℕ) → 0 ≤ n
least n = omega arith

-- ---- what is taken is valid

module _ (schemas : List Checked) (partners : List Text) (s : SavedModel) (file : Text) where
  content_valid : (c : Content) → IsTaken schemas partners s file c → IsValidContent schemas partners s.key (joins s c).holds
  content_valid c t =
      let schema = t.schema in
      let raw = t.read.0 in
      let reads = t.read.1.0 in
      let linked = link_names s.links in
      let head = holds _ _ _ (neither _ _ t.head).1 in
      let links = are_linked partners s.key s.greatest s.links head.1 in
      let read = of_file schema linked raw c t.read.1.1 in
      let defined = defined_by linked raw in
      let same_names = bound_names schema defined (λ n. false) raw.instances read.found read.reads in
      let refer = bound_refer schema defined (λ n. false) raw.instances read.found read.reads in
      let Valid : Content → Type 0 = λ d. bound_file schema linked raw ≡ Ok d → content_lack s d ≡ None → IsValidContent schemas partners s.key (joins s d).holds in
      let held = content raw.header read.found in
      subst Valid read.are
      (λ says fits.
      let few = holds _ _ _ fits in
      let low = holds _ _ _ few.1 in
      let free = holds _ _ _ low.1 in
      let start = within instance_name s.greatest 0 held.instances (least s.greatest) (are_within instance_name s.greatest held.instances low.0) in
      record {
        schema = schema;
        loaded = t.loaded;
        header = inr (record { file = file; raw = raw; reads = reads; is = refl });
        instances = in_order held.instances (bound_ascends schema linked raw held says);
        spelled = all_each (IsInstanceOfFile schema) (IsSpelled schema) (λ i is. inl is) held.instances (all_spelled schema file raw reads linked held says);
        sound = all_sound raw s.links read.found same_names refer;
        few = at_most max_instances _ few.0;
        in_use = within link_name s.greatest (greatest_name 0 held.instances) s.links start (are_within link_name s.greatest s.links links.within);
        greatest = at_most max_name s.greatest head.0;
        links = links.order;
        linked = links_valid partners s.key s.greatest s.links (joins s held).holds.content links free.0;
        few_links = links.few;
      }) t.read.1.1 t.fits

  pub taken_valid : (c : Content) → IsTaken schemas partners s file c → IsValidModel schemas partners (joins s c)
  taken_valid c t = record { row = row_valid partners (joins s c) (neither _ _ t.head).0; content = content_valid c t }

  -- ---- one thing is taken

  pub one_taken : (c d : Content) → IsTaken schemas partners s file c → IsTaken schemas partners s file d → c ≡ d
  one_taken c d one other =
      let some : Some one.schema ≡ Some other.schema = sym one.loaded ∙ other.loaded in
      let same : one.schema ≡ other.schema = cc in
      one_read other.schema (link_names s.links) file c d (subst (λ schema. IsRead schema (link_names s.links) file c) same one.read) other.read

  -- ---- nothing is taken of a file that isn't read

  pub not_read : (schema : Checked) → schema_named schemas s.schema ≡ Some schema → (e : Failure RowLack) → Reads schema (link_names s.links) file (Err e) → (r : Result Content (Failure RowLack)) → IsErrAnd r (λ f. f ≡ e) → Takes schemas partners s file r
  not_read schema loaded e unread (Ok c) is = elim is [ ]
  not_read schema loaded e unread (Err f) is = λ c t.
      let some : Some t.schema ≡ Some schema = sym t.loaded ∙ loaded in
      let same : t.schema ≡ schema = cc in
      is ∙ unread c (subst (λ x. IsRead x (link_names s.links) file c) same t.read)

-- ---- of a valid model

-- what its file has
abbrev pub unlinked : Model → Content
unlinked m = record m.holds.content { links = [] }

pub valid_taken : (schemas : List Checked) (partners : List Text) → AllAccepted schemas → (m : Model) → IsValidModel schemas partners m → (file : Text) → file ≡ file_in first_version schemas m.holds
    → IsTaken schemas partners (saved_model m) file (unlinked m)
valid_taken schemas partners accepted m valid file is =
    let x = valid.content in
    let h = m.holds in
    let lows = all_within link_name h.greatest (greatest_name 0 h.content.instances) h.content.links x.in_use in
    let low = all_within instance_name h.greatest 0 h.content.instances lows.0 in
    let text = is ∙ ap (λ o. file_by first_version o h) x.loaded in
    record {
      head =
          both_none _ _ (row_passes partners m valid.row)
          (passes _ _ _ (no_more max_name h.greatest x.greatest) (links_pass partners (row_key m) h.greatest h.content.links h.content x.linked x.few_links x.links lows.1));
      schema = x.schema;
      loaded = x.loaded;
      read = subst (λ t. IsRead x.schema (link_names h.content.links) t (unlinked m)) (sym text) (model_again schemas partners accepted m valid x.schema x.loaded);
      fits =
          passes _ _ _ (no_more max_instances _ x.few)
          (passes _ _ _ (all_within_test instance_name h.greatest h.content.instances low.1)
          (passes _ _ _ (free_pass partners (row_key m) h.greatest h.content.links h.content x.linked) refl));
    }
