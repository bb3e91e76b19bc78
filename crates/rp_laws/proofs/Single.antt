-- What a model holds stays valid by the requests for one instance.
use Rattle.std.proofs.Common.{◌≡◌, ◌<◌, ◌≤◌, ℕ, ◌+◌, Bool, true, false, ◌||◌, ◌==◌, nat_le, inr, List, [], ◌∷◌, length, Option, Some, None, Result, Ok, Err, refl, sym, ◌∙◌, ap, subst, arith}
use Rattle.std.specs.Prelude.{if◌then◌else◌}
use Rattle.std.specs.List.{find, AllByRecursion}
use Rattle.std.proofs.lemmas.Bool.{or_left, or_right, false_from_ne_true}
use Rattle.std.proofs.lemmas.Bool.Decides.{nat_tests}
use Rattle.plain_data.specs.Numbers.{is_among}
use Rattle.ex_types.specs.Checked.{Checked}
use Rattle.p21_tree.specs.declared.fault.FileFault.{FileFault}
use Rattle.p21_tree.specs.declared.fault.InstanceFault.{InstanceFault}
use Rattle.p21_tree.specs.declared.instance.Mapping.{Mapping}
use Rattle.p21_read.specs.Single.{mapping_of}
use Rattle.p21_bind.specs.Files as files
use Rattle.p21_mappings.specs.Instances.{Mapped, instance}
use Rattle.p21_bind.specs.Single.{bound_instance}
use Rattle.rp_content.specs.declared.instance.Instance.{Instance}
use Rattle.rp_content.specs.declared.link.Link.{Link}
use Rattle.rp_rows.specs.declared.rows.ModelContent.{ModelContent}
use Rattle.rp_rows.specs.declared.rows.Key.{Key}
use Rattle.rp_rows.specs.Rows.{Text}
use Rattle.rp_rows.specs.Contents.{names}
use Rattle.rp_rows.specs.Instances.{max_instances, max_name, is_instance, instance_of, is_used, next_name, with_instance, without_instance}
use Rattle.rp_plain.specs.declared.messages.Refusal.TheVariants as refusal
use Rattle.rp_plain.specs.Meaning.{schema_named}
use Rattle.rp_plain.specs.Instances.{told, bound_by, is_defined, said_by, said, is_absent, is_full, is_needed}
use Rattle.p21_bind.specs.Origins.{IsInstanceOfText, IsSpelled}
use Rattle.rp_plain.specs.Valid.{IsSound, IsValidLink, IsValidContent}
use Rattle.rp_laws.proofs.BoundInstances.{IsBound, instance_bound}
use Rattle.rp_laws.proofs.Passed.{passed}
use Rattle.rp_laws.proofs.SingleEdits.{placed_valid, dropped_valid, name_within, in_use_parts}
use Rattle.rp_laws.proofs.ValidTables.{all_each}

-- ---- what a text says

bound_one : (schema : Checked) (defined : ℕ → Bool) (name : ℕ) (mapping : Mapping) (i : Instance) → bound_instance schema defined name mapping ≡ Ok i → IsBound schema defined name i
unfolding bound_instance
bound_one schema defined name mapping i e = by (instance schema defined false (record { name = name; mapping = mapping })) refl e
  where
    by : (o : Mapped Instance) → instance schema defined false (record { name = name; mapping = mapping }) ≡ o → files.told name o ≡ Ok i → IsBound schema defined name i
    by (Ok j) is f =
        let same : j ≡ i = cc in
        (instance_bound schema defined false (record { name = name; mapping = mapping }) i (is ∙ ap Ok same)).1
    by (Err kind) is f = cc

-- an instance that is taken for a model, under this name
record IsSaid (schemas : List Checked) (h : ModelContent) (name : ℕ) (i : Instance) : Type 0 where
  schema : Checked
  loaded : schema_named schemas h.schema ≡ Some schema
  spelled : IsInstanceOfText schema i
  named : i.name ≡ name
  sound : IsSound h.content i

taken : (schemas : List Checked) (h : ModelContent) (name : ℕ) (text : Text) (i : Instance) → said schemas (Some h) name text ≡ Ok i → IsSaid schemas h name i
taken schemas h name text i e = read (mapping_of text) refl e
  where
    bound : (mapping : Mapping) → mapping_of text ≡ Ok mapping → (schema : Checked) → schema_named schemas h.schema ≡ Some schema → (o : Result Instance InstanceFault) → bound_instance schema (is_defined h.content) name mapping ≡ o → told o ≡ Ok i → IsSaid schemas h name i
    bound mapping reads schema loaded (Err fault) is f = cc
    bound mapping reads schema loaded (Ok j) is f =
        let same : j ≡ i = cc in
        let says : bound_instance schema (is_defined h.content) name mapping ≡ Ok i = is ∙ ap Ok same in
        let one = bound_one schema (is_defined h.content) name mapping i says in
        record {
          schema = schema;
          loaded = loaded;
          spelled = record {
            text = text;
            mapping = mapping;
            reads = reads;
            defined = is_defined h.content;
            says = ap (λ n. bound_instance schema (is_defined h.content) n mapping) one.name_is ∙ says;
          };
          named = one.name_is;
          sound = one.references;
        }

    by_schema : (mapping : Mapping) → mapping_of text ≡ Ok mapping → (s : Option Checked) → schema_named schemas h.schema ≡ s → bound_by s (is_defined h.content) name mapping ≡ Ok i → IsSaid schemas h name i
    by_schema mapping reads None loaded f = cc
    by_schema mapping reads (Some schema) loaded f = bound mapping reads schema loaded (bound_instance schema (is_defined h.content) name mapping) refl f

    read : (o : Result Mapping FileFault) → mapping_of text ≡ o → said_by schemas h name o ≡ Ok i → IsSaid schemas h name i
    read (Err fault) reads f = cc
    read (Ok mapping) reads f = by_schema mapping reads (schema_named schemas h.schema) refl f

-- ---- it has the name of no link

above_links : (greatest : ℕ) (l : Link) → l.name ≤ greatest → (greatest + 1 == l.name) ≡ false
above_links greatest l low = grind (arith, nat_tests)

is_there : (n : ℕ) (xs : List Instance) (x : Instance) → instance_of n xs ≡ Some x → is_among (names xs) n ≡ true
is_there n [] x found = cc
is_there n (y ∷ ys) x found = by (is_there n ys x) (is_instance n y) refl found
  where
    named : is_instance n y ≡ true → (y.name == n) ≡ true
    named e = grind (arith, nat_tests)

    by : (find (is_instance n) ys ≡ Some x → is_among (names ys) n ≡ true) → (t : Bool) → is_instance n y ≡ t → (if t then Some y else find (is_instance n) ys) ≡ Some x → is_among (names (y ∷ ys)) n ≡ true
    by rest true e f = or_left (y.name == n) (is_among (names ys) n) (named e)
    by rest false e f = or_right (y.name == n) (is_among (names ys) n) (rest f)

apart_free : (n m : ℕ) (ns : List ℕ) → is_among ns n ≡ true → is_among ns m ≡ false → (n == m) ≡ false
apart_free n m ns there free = false_from_ne_true (n == m) (λ e. let same : n ≡ m = grind (arith, nat_tests) in let here : is_among ns m ≡ true = ap (is_among ns) (sym same) ∙ there in cc)

-- ---- it is put into the model

abbrev AreApart : ℕ → List Link → Type 0
AreApart name ls = AllByRecursion (λ (l : Link). (name == l.name) ≡ false) ls

said_valid : (schemas : List Checked) (partners : List Text) (k : Key) (h : ModelContent) (name : ℕ) (i : Instance) → IsSaid schemas h name i → name ≤ max_name → AreApart name h.content.links
    → (instance_of name h.content.instances ≡ None → length h.content.instances < max_instances) → IsValidContent schemas partners k h → IsValidContent schemas partners k (with_instance i h)
said_valid schemas partners k h name i is small apart room valid =
    let same_schema : Some is.schema ≡ Some valid.schema = sym is.loaded ∙ valid.loaded in
    let same : is.schema ≡ valid.schema = cc in
    let spelled : IsSpelled valid.schema i = inr (subst (λ (s : Checked). IsInstanceOfText s i) same is.spelled) in
    let named = sym is.named in
    placed_valid schemas partners k h i valid spelled is.sound (subst (λ n. n ≤ max_name) named small) (subst (λ n. AreApart n h.content.links) named apart) (λ none. room (ap (λ n. instance_of n h.content.instances) named ∙ none))

pub added_valid : (schemas : List Checked) (partners : List Text) (k : Key) (h : ModelContent) (text : Text) (i : Instance) → said schemas (Some h) (next_name h) text ≡ Ok i → is_full (Some h) ≡ None → IsValidContent schemas partners k h → IsValidContent schemas partners k (with_instance i h)
added_valid schemas partners k h text i says room valid =
    let less : (nat_le max_name h.greatest || nat_le max_instances (length h.content.instances)) ≡ false = passed (nat_le max_name h.greatest || nat_le max_instances (length h.content.instances)) refusal.TooMany room in
    let apart = all_each (λ (l : Link). l.name ≤ h.greatest) (λ (l : Link). (next_name h == l.name) ≡ false) (above_links h.greatest) h.content.links (in_use_parts h valid.in_use).1 in
    said_valid schemas partners k h (next_name h) i (taken schemas h (next_name h) text i says) (grind (arith, nat_tests)) apart (λ none. grind (arith, nat_tests)) valid

pub set_valid : (schemas : List Checked) (partners : List Text) (k : Key) (h : ModelContent) (name : ℕ) (text : Text) (i : Instance) → said schemas (Some h) name text ≡ Ok i → is_absent (instance_of name h.content.instances) ≡ None → IsValidContent schemas partners k h → IsValidContent schemas partners k (with_instance i h)
set_valid schemas partners k h name text i says there valid = by (instance_of name h.content.instances) refl there
  where
    by : (o : Option Instance) → instance_of name h.content.instances ≡ o → is_absent o ≡ None → IsValidContent schemas partners k (with_instance i h)
    by None is f = cc
    by (Some x) is f =
        let below : name ≤ h.greatest = name_within h.greatest name h.content.instances (in_use_parts h valid.in_use).0 x is in
        let most = valid.greatest in
        let stands = is_there name h.content.instances x is in
        let apart = all_each (IsValidLink partners k h.content) (λ (l : Link). (name == l.name) ≡ false) (λ l old. apart_free name l.name (names h.content.instances) stands old.free) h.content.links valid.linked in
        said_valid schemas partners k h name i (taken schemas h name text i says) (omega (arith, below, most)) apart (λ none. let wrong : None ≡ Some x = sym none ∙ is in cc) valid

-- ---- it is dropped

pub left_valid : (schemas : List Checked) (partners : List Text) (k : Key) (h : ModelContent) (name : ℕ) → is_needed name (Some h) ≡ None → IsValidContent schemas partners k h → IsValidContent schemas partners k (without_instance name h)
left_valid schemas partners k h name unused = dropped_valid schemas partners k h name (passed (is_used name h.content.instances) refusal.InUse unused)
