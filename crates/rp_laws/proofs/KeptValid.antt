-- The edits of each request are fit, and so a step keeps the repository valid.
use Rattle.std.proofs.Common.{◌≡◌, ◌<◌, ℕ, Bool, true, false, ◌||◌, nat_le, nat_lt, inl, inr, List, [], ◌∷◌, length, Option, Some, None, Result, Ok, Err, refl, sym, ◌∙◌, ap, subst, arith}
use Rattle.std.specs.Prelude.{filter, if◌then◌else◌}
use Rattle.std.specs.List.{find, list_any}
use Rattle.std.specs.Ordering.{is_gt, nat_cmp}
use Rattle.std.specs.Str.{bytes_eq, str_to_ascii_uppercase}
use Rattle.std.proofs.lemmas.Bool.{both_ways, false_from_ne_true, or_parts}
use Rattle.std.proofs.lemmas.Bool.Decides.{nat_tests}
use Rattle.std.proofs.lemmas.Slice.Eq.{bytes_eq-Decides}
use Rattle.ex_types.specs.Checked.{Checked}
use Rattle.p21_tree.specs.declared.raw.Raw.{Raw}
use Rattle.p21_tree.specs.declared.fault.FileFault.{FileFault}
use Rattle.p21_tree.specs.declared.fault.InstanceFault.{InstanceFault}
use Rattle.p21_grammar.specs.File.{file_of}
use Rattle.p21_grammar.specs.Schemas.{is_of_schema}
use Rattle.p21_mappings.specs.Contents.{content}
use Rattle.p21_bind.specs.Files.{AreAscending, bound_file}
use Rattle.p21_bind.proofs.Ascending.{bound_ascends, bound_names, defined_by, of_file}
use Rattle.rp_content.specs.declared.content.Content.{Content}
use Rattle.rp_content.specs.declared.instance.Instance.{Instance}
use Rattle.rp_content.specs.declared.link.Link.{Link}
use Rattle.sorted_tables.specs.Table.{is_after, IsAscending}
use Rattle.rp_rows.specs.declared.rows.Level.TheVariants.{Read}
use Rattle.rp_rows.specs.declared.rows.ModelContent.{ModelContent}
use Rattle.rp_rows.specs.Names.{is_name}
use Rattle.rp_rows.specs.declared.rows.Key.{Key}
use Rattle.rp_rows.specs.Rows.{Text, is_row, Model, key_of}
use Rattle.rp_rows.specs.Contents.{instance_name, names, greatest_name, link_name, link_names}
use Rattle.rp_rows.specs.Instances.{max_instances, max_name, with_instance, without_instance}
use Rattle.rp_rows.specs.Sight.{owns, sees}
use Rattle.rp_rows.specs.Alterations.{Grants}
use Rattle.rp_plain.specs.declared.messages.Request.{Request}
use Rattle.rp_plain.specs.declared.messages.Request.TheVariants.{CreateModel, DeleteModel, Put, Add, Set, DropInstance, GrantModel, RevokeModel, CreateGroup, DeleteGroup, GrantGroup, RevokeGroup, Include, Exclude}
use Rattle.rp_plain.specs.declared.messages.Refusal.{Refusal}
use Rattle.rp_plain.specs.declared.messages.Refusal.TheVariants as refusal
use Rattle.rp_plain.specs.Plain.{Plain, model_at}
use Rattle.rp_plain.specs.Edits.{Edit, EditModel, EditGroup}
use Rattle.rp_plain.specs.Readers.{asked, held}
use Rattle.rp_plain.specs.Meaning.{first_some, has_text, schema_name, has_schema, schema_named}
use Rattle.rp_rows.specs.Listings.{max_models}
use Rattle.rp_plain.specs.Models.{new_content}
use Rattle.rp_plain.specs.Links.{max_links, links_in_order, linking, no_request}
use Rattle.rp_plain.specs.Files.{BoundFile, told, bound_by, read_for, read_content, ill_linked, too_many, refilled, filled}
use Rattle.rp_plain.specs.Grants.{unless_own}
use Rattle.rp_plain.specs.Instances.{Saying, said, is_absent, instance_in, next_in, is_full, is_needed, placing, dropping}
use Rattle.rp_plain.specs.Step.{meaning, outcome, answer, next}
use Rattle.rp_plain.specs.Opening.{new_fault, opened}
use Rattle.p21_bind.specs.Origins.{IsInstanceOfFile, IsSpelled}
use Rattle.rp_plain.specs.Valid.{IsValidContent, IsValid}
use Rattle.rp_laws.proofs.ByName.{within, greatest_from}
use Rattle.rp_laws.proofs.BoundFiles.{bound_refer}
use Rattle.rp_laws.proofs.FileNames.{file_named}
use Rattle.rp_laws.proofs.FileInstances.{all_spelled, all_sound, in_order_most}
use Rattle.rp_laws.proofs.Links.{seen_valid, AreTaken, links_taken}
use Rattle.rp_laws.proofs.Passed.{all_pass, passed, is_so, no_more}
use Rattle.rp_laws.proofs.Single.{added_valid, set_valid, left_valid}
use Rattle.rp_laws.proofs.GroupsValid.{group_created, include_fit, exclude_fit}
use Rattle.rp_laws.proofs.ValidTables.{all_each, found_there, MayHold}
use Rattle.rp_laws.proofs.ValidEdits.{Anything, IsFitEdit, AreFit, changed_valid}

-- ---- creation

found_by : {X : Type 0} (test : X → Bool) (xs : List X) → list_any test xs ≡ true → (x : X) × (find test xs ≡ Some x)
found_by test [] e = cc
found_by {X = X} test (x ∷ xs) e = by (test x) (found_by test xs) e
  where
    by : (t : Bool) → (list_any test xs ≡ true → (y : X) × (find test xs ≡ Some y)) → (t || list_any test xs) ≡ true → (y : X) × ((if t then Some x else find test xs) ≡ Some y)
    by true rest e = (x, refl)
    by false rest e = rest e

created : (r : Plain) (c name schema : Text) → has_text r.partners c ≡ true → first_some (meaning (asked r c) c (CreateModel name schema)).tests ≡ None
    → MayHold r.partners (IsValidContent r.schemas r.partners) Anything max_models r.models (key_of c name) (new_content schema)
created r c name schema partner passes =
    let each = all_pass (meaning (asked r c) c (CreateModel name schema)).tests passes in
    let few : nat_le max_models (length (filter (owns c) r.models)) ≡ false = passed (nat_le max_models (length (filter (owns c) r.models))) refusal.TooMany each.1.1.1.0 in
    let upper = str_to_ascii_uppercase schema in
    let found = found_by (λ (s : Checked). bytes_eq upper (schema_name s)) r.schemas (is_so (has_schema r.schemas upper) refusal.UnknownSchema each.1.0) in
    record {
      owner = partner;
      name = is_so (is_name name) refusal.BadName each.0;
      valid = record {
        schema = found.0;
        loaded = found.1;
        header = inl refl;
        instances = tt;
        spelled = tt;
        sound = tt;
        few = omega arith;
        in_use = omega arith;
        greatest = omega arith;
        links = tt;
        linked = tt;
        few_links = omega arith;
      };
      room = λ none. grind (arith, nat_tests);
    }

-- ---- what is put where a model is seen

-- a model that is seen may hold what is as valid as what it holds
held_there : (r : Plain) (c : Text) (k : Key) (h : ModelContent) (m : Model) → model_at r c k ≡ Some m → (IsValidContent r.schemas r.partners k m.holds → IsValidContent r.schemas r.partners k h) → IsValid r
    → MayHold r.partners (IsValidContent r.schemas r.partners) Anything max_models r.models k h
held_there r c k h m seen content valid =
    let old = seen_valid r c k m seen valid in
    record {
      owner = subst (λ (j : Key). has_text r.partners j.owner ≡ true) old.1 old.0.row.owner;
      name = subst (λ (j : Key). is_name j.name ≡ true) old.1 old.0.row.name;
      valid = content (subst (λ (j : Key). IsValidContent r.schemas r.partners j m.holds) old.1 old.0.content);
      room = λ none. absurd (found_there (is_row k) (sees r.groups c) r.models m seen none);
    }

-- ---- a file is put

-- what a file says that is taken for a model
record IsTaken (schemas : List Checked) (h : ModelContent) (linked : List ℕ) (file : Result Raw FileFault) (c : Content) : Type 0 where
  raw : Raw
  schema : Checked
  reads : file ≡ Ok raw
  loaded : schema_named schemas h.schema ≡ Some schema
  says : bound_file schema linked raw ≡ Ok c

taken_by : (schemas : List Checked) (h : ModelContent) (linked : List ℕ) (raw : Raw) (c : Content) (o : Option Checked) → schema_named schemas h.schema ≡ o → bound_by o linked raw ≡ Ok c → IsTaken schemas h linked (Ok raw) c
taken_by schemas h linked raw c None loaded e = cc
taken_by schemas h linked raw c (Some schema) loaded e = by (bound_file schema linked raw) refl e
  where
    by : (o : Result Content InstanceFault) → bound_file schema linked raw ≡ o → told o ≡ Ok c → IsTaken schemas h linked (Ok raw) c
    by (Err fault) says f = cc
    by (Ok d) says f = let same : d ≡ c = cc in record { raw = raw; schema = schema; reads = refl; loaded = loaded; says = says ∙ ap Ok same }

taken : (schemas : List Checked) (h : ModelContent) (linked : List ℕ) (file : Result Raw FileFault) (c : Content) → read_for schemas h linked file ≡ Ok c → IsTaken schemas h linked file c
taken schemas h linked (Err fault) c e = cc
taken schemas h linked (Ok raw) c e = by (is_of_schema h.schema raw) e
  where
    by : (t : Bool) → (if t then bound_by (schema_named schemas h.schema) linked raw else Err refusal.WrongSchema) ≡ Ok c → IsTaken schemas h linked (Ok raw) c
    by true f = taken_by schemas h linked raw c (schema_named schemas h.schema) refl f
    by false f = cc

is_above : (m n : ℕ) → m < n → is_gt (nat_cmp n m) ≡ true
is_above m n less = grind (arith, nat_tests)

-- each stands before those with greater names
ascending : (is : List Instance) → AreAscending is → IsAscending nat_cmp instance_name is
ascending [] order = tt
ascending (i ∷ is) order = (
  all_each (λ (j : Instance). i.name < j.name) (λ (j : Instance). is_after nat_cmp instance_name i.name j ≡ true) (λ j less. is_above i.name j.name less) is order.0,
  ascending is order.1,
)

refilled_valid : (schemas : List Checked) (partners : List Text) (k : Key) (h : ModelContent) (file : Text) (links : List Link) (c : Content) → IsTaken schemas h (link_names links) (file_of file) c → AreTaken partners k links c
    → nat_lt max_instances (length c.instances) ≡ false → IsValidContent schemas partners k h → IsValidContent schemas partners k (refilled h (linking links c))
refilled_valid schemas partners k h file links c t beside few valid =
    let linked = link_names links in
    let read = of_file t.schema linked t.raw c t.says in
    let defined = defined_by linked t.raw in
    let same_names = bound_names t.schema defined (λ n. false) t.raw.instances read.found read.reads in
    let most = in_order_most max_name h.greatest read.found t.raw.instances same_names (file_named file t.raw t.reads) valid.greatest in
    let refer = bound_refer t.schema defined (λ n. false) t.raw.instances read.found read.reads in
    let Valid : Content → Type 0 = λ d. bound_file t.schema linked t.raw ≡ Ok d → AreTaken partners k links d → nat_lt max_instances (length d.instances) ≡ false → IsValidContent schemas partners k (refilled h (linking links d)) in
    let held = content t.raw.header read.found in
    let start = greatest_name h.greatest held.instances in
    subst Valid read.are
    (λ says beside few. record {
      schema = t.schema;
      loaded = t.loaded;
      header = inr (record { file = file; raw = t.raw; reads = t.reads; is = refl });
      instances = ascending held.instances (bound_ascends t.schema linked t.raw held says);
      spelled = all_each (IsInstanceOfFile t.schema) (IsSpelled t.schema) (λ i is. inl is) held.instances (all_spelled t.schema file t.raw t.reads linked held says);
      sound = all_sound t.raw links read.found same_names refer;
      few = no_more max_instances (length held.instances) few;
      in_use = greatest_from (greatest_name 0 held.instances) start (link_names (links_in_order links)) (greatest_from 0 h.greatest (names held.instances) (omega arith));
      greatest = within link_name max_name start (links_in_order links) most beside.named;
      links = beside.order;
      linked = beside.each;
      few_links = beside.few;
    }) t.says beside few

filled_fit : (r : Plain) (c : Text) (k : Key) (file : Text) (links : List Link) (o : Option Model) (read : BoundFile) → model_at r c k ≡ o → read_content r.schemas (held o) (link_names links) (file_of file) ≡ read → no_request links ≡ None
    → ill_linked (asked r c) k (held o) links read ≡ None → too_many links read ≡ None → IsValid r → AreFit r (filled k (held o) links read)
filled_fit r c k file links None (Ok said) seen reads request fault few valid = tt
filled_fit r c k file links None (Err refusal) seen reads request fault few valid = tt
filled_fit r c k file links (Some m) (Err refusal) seen reads request fault few valid = tt
filled_fit r c k file links (Some m) (Ok said) seen reads request fault few valid =
    let both = or_parts (nat_lt max_instances (length said.instances)) (nat_lt max_links (length links)) (passed (nat_lt max_instances (length said.instances) || nat_lt max_links (length links)) refusal.TooMany few) in
    let read = taken r.schemas m.holds (link_names links) (file_of file) said reads in
    let beside = links_taken r c k m.holds.schema links said request fault both.1 valid in
    (held_there r c k (refilled m.holds (linking links said)) m seen (refilled_valid r.schemas r.partners k m.holds file links said read beside both.0) valid, tt)

put_fit : (r : Plain) (c : Text) (k : Key) (file : Text) (links : List Link) → first_some (meaning (asked r c) c (Put k file links)).tests ≡ None → IsValid r → AreFit r (meaning (asked r c) c (Put k file links)).edits
put_fit r c k file links passes valid =
    let each = all_pass (meaning (asked r c) c (Put k file links)).tests passes in
    filled_fit r c k file links (model_at r c k) (read_content r.schemas (held (model_at r c k)) (link_names links) (file_of file)) refl refl each.0 each.1.1.1.1.1.1.0 each.1.1.1.1.1.1.1.0 valid

-- ---- one instance is put or dropped

added_fit : (r : Plain) (c : Text) (k : Key) (text : Text) (o : Option Model) (new : Saying) → model_at r c k ≡ o → said r.schemas (held o) (next_in (held o)) text ≡ new → is_full (held o) ≡ None → IsValid r → AreFit r (placing k (held o) new)
added_fit r c k text None (Ok i) seen says room valid = tt
added_fit r c k text None (Err refusal) seen says room valid = tt
added_fit r c k text (Some m) (Err refusal) seen says room valid = tt
added_fit r c k text (Some m) (Ok i) seen says room valid =
    (held_there r c k (with_instance i m.holds) m seen (added_valid r.schemas r.partners k m.holds text i says room) valid, tt)

set_fit : (r : Plain) (c : Text) (k : Key) (name : ℕ) (text : Text) (o : Option Model) (new : Saying) → model_at r c k ≡ o → said r.schemas (held o) name text ≡ new → is_absent (instance_in (held o) name) ≡ None → IsValid r → AreFit r (placing k (held o) new)
set_fit r c k name text None (Ok i) seen says there valid = tt
set_fit r c k name text None (Err refusal) seen says there valid = tt
set_fit r c k name text (Some m) (Err refusal) seen says there valid = tt
set_fit r c k name text (Some m) (Ok i) seen says there valid =
    (held_there r c k (with_instance i m.holds) m seen (set_valid r.schemas r.partners k m.holds name text i says there) valid, tt)

dropped_fit : (r : Plain) (c : Text) (k : Key) (name : ℕ) (o : Option Model) → model_at r c k ≡ o → is_needed name (held o) ≡ None → IsValid r → AreFit r (dropping k name (held o))
dropped_fit r c k name None seen unused valid = tt
dropped_fit r c k name (Some m) seen unused valid = (held_there r c k (without_instance name m.holds) m seen (left_valid r.schemas r.partners k m.holds name unused) valid, tt)

-- ---- grants

turned : (c to : Text) → bytes_eq to c ≡ false → bytes_eq c to ≡ false
turned c to other = false_from_ne_true (bytes_eq c to) (λ same. both_ways (bytes_eq to c) other ((bytes_eq-Decides to c).1 (sym ((bytes_eq-Decides c to).0 same))))

-- a grant to another is fit
granted_fit : (r : Plain) (c to : Text) (e : Edit) → (bytes_eq c to ≡ false → IsFitEdit r e) → AreFit r (unless_own c to e)
granted_fit r c to e fit = by (bytes_eq to c) refl
  where
    by : (t : Bool) → bytes_eq to c ≡ t → AreFit r (if t then [] else e ∷ [])
    by true own = tt
    by false other = (fit (turned c to other), tt)

-- ---- the step

-- what only reads is in the last line
edits_fit : (r : Plain) (c : Text) (q : Request) → has_text r.partners c ≡ true → first_some (meaning (asked r c) c q).tests ≡ None → IsValid r → AreFit r (meaning (asked r c) c q).edits
edits_fit r c (CreateModel name schema) partner passes valid = (created r c name schema partner passes, tt)
edits_fit r c (DeleteModel name) partner passes valid = (tt, tt)
edits_fit r c (Put k file links) partner passes valid = put_fit r c k file links passes valid
edits_fit r c (Add k text) partner passes valid =
    let h = held (model_at r c k) in
    let each = all_pass (meaning (asked r c) c (Add k text)).tests passes in
    added_fit r c k text (model_at r c k) (said r.schemas h (next_in h) text) refl refl each.1.1.1.1.1.0 valid
edits_fit r c (Set k name text) partner passes valid =
    let each = all_pass (meaning (asked r c) c (Set k name text)).tests passes in
    set_fit r c k name text (model_at r c k) (said r.schemas (held (model_at r c k)) name text) refl refl each.1.1.1.1.1.0 valid
edits_fit r c (DropInstance k name) partner passes valid =
    let each = all_pass (meaning (asked r c) c (DropInstance k name)).tests passes in
    dropped_fit r c k name (model_at r c k) refl each.1.1.1.1.0 valid
edits_fit r c (GrantModel name to l) partner passes valid =
    let each = all_pass (meaning (asked r c) c (GrantModel name to l)).tests passes in
    let known = is_so (has_text r.partners to) refusal.UnknownPartner each.1.0 in
    granted_fit r c to (EditModel (key_of c name) (Grants to (Some l))) (λ other. record { valid = record { partner = known; other = other }; level = tt })
edits_fit r c (RevokeModel name to) partner passes valid = (tt, tt)
edits_fit r c (CreateGroup name schema) partner passes valid = (group_created r c name schema partner passes, tt)
edits_fit r c (DeleteGroup name) partner passes valid = (tt, tt)
edits_fit r c (GrantGroup name to) partner passes valid =
    let each = all_pass (meaning (asked r c) c (GrantGroup name to)).tests passes in
    let known = is_so (has_text r.partners to) refusal.UnknownPartner each.1.0 in
    granted_fit r c to (EditGroup (key_of c name) (Grants to (Some Read))) (λ other. record { valid = record { partner = known; other = other }; level = refl })
edits_fit r c (RevokeGroup name to) partner passes valid = (tt, tt)
edits_fit r c (Include group k) partner passes valid = include_fit r c group k passes valid
edits_fit r c (Exclude group k) partner passes valid = exclude_fit r c group k valid
edits_fit r c _ partner passes valid = tt

outcome_fit : (r : Plain) (c : Text) (q : Request) (refusal : Option Refusal) → has_text r.partners c ≡ true → first_some (meaning (asked r c) c q).tests ≡ refusal → IsValid r → AreFit r (outcome (meaning (asked r c) c q) refusal).edits
outcome_fit r c q None partner passes valid = edits_fit r c q partner passes valid
outcome_fit r c q (Some refusal) partner passes valid = tt

pub step_valid : (r : Plain) (c : Text) (q : Request) → has_text r.partners c ≡ true → IsValid r → IsValid (next r c q)
step_valid r c q partner valid = changed_valid (answer (asked r c) c q).edits r valid (outcome_fit r c q (first_some (meaning (asked r c) c q).tests) partner refl valid)

pub opening_valid : (schemas : List Checked) (partners : List Text) → new_fault schemas partners ≡ None → IsValid (opened schemas partners)
opening_valid schemas partners opens = record {
  opens = opens;
  order = record { models = tt; groups = tt };
  models = tt;
  groups = tt;
  few_models = λ owner. omega arith;
  few_groups = λ owner. omega arith;
}
