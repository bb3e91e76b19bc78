-- What is read of a file.
use Rattle.std.proofs.Common.{◌≡◌, ◌<◌, ℕ, Bool, true, false, ◌||◌, ◌==◌, List, [], ◌∷◌, ◌++◌, Some, None, Result, Ok, Err, refl, sym, ◌∙◌, ap, subst, arith}
use Rattle.std.specs.Prelude.{if◌then◌else◌}
use Rattle.std.specs.List.{AllByRecursion, list_all}
use Rattle.std.specs.Ordering.{is_gt, nat_cmp}
use Rattle.std.proofs.lemmas.Bool.Decides.{nat_tests}
use Rattle.std.proofs.lemmas.List.Folds.{list_any-append}
use Rattle.plain_data.specs.Numbers.{is_among}
use Rattle.ex_types.specs.Checked.{Checked}
use Rattle.p21_bind.specs.Files.{AreAscending, bound_file}
use Rattle.p21_bind.specs.OnePass as one_pass
use Rattle.p21_bind.proofs.Ascending.{defined_by}
use Rattle.p21_grammar.specs.File.{file_of}
use Rattle.p21_grammar.specs.Schemas.{is_of_schema}
use Rattle.p21_instances.specs.Instances as spelled
use Rattle.p21_instances.proofs.ByName.{all-in_order, among_in_order}
use Rattle.p21_instances.proofs.Sets.{list_all-same}
use Rattle.p21_laws.specs.Contents.{IsRead}
use Rattle.p21_mappings.specs.Contents.{content}
use Rattle.p21_tree.specs.declared.fault.FileFault.{FileFault}
use Rattle.p21_tree.specs.declared.fault.InstanceFault.{InstanceFault}
use Rattle.p21_tree.specs.declared.raw.Raw.{Raw}
use Rattle.rp_content.specs.declared.content.Content.{Content}
use Rattle.rp_content.specs.declared.instance.Instance.{Instance}
use Rattle.rp_content.specs.declared.link.Link.{Link}
use Rattle.sorted_tables.specs.Table.{is_after, IsAscending}
use Rattle.rp_rows.specs.Contents.{instance_name, names, link_names, references_of}
use Rattle.rp_plain.specs.Instances.{is_defined}
use Rattle.rp_plain.specs.Valid.{IsSound}
use Rattle.rp_laws.proofs.ValidTables.{all_each}

-- ---- one text is read in one way

ok_same : {A B : Type 0} (r : Result A B) (x y : A) → r ≡ Ok x → r ≡ Ok y → x ≡ y
ok_same r x y e f = cc

pub one_read : (schema : Checked) (linked text : List ℕ) (c d : Content) → IsRead schema linked text c → IsRead schema linked text d → c ≡ d
one_read schema linked text c d one other =
    let same = ok_same (file_of text) one.0 other.0 one.1.0 other.1.0 in
    ok_same (bound_file schema linked other.0) c d (subst (λ raw. bound_file schema linked raw ≡ Ok c) same one.1.1) other.1.1

-- what is read in one pass
found_is : (r : Result Content InstanceFault) (c : Content) → one_pass.found r ≡ Some c → r ≡ Ok c
found_is (Ok d) c e = let same : d ≡ c = cc in ap (λ x. Ok x) same
found_is (Err fault) c e = cc

-- what is read of a file that was read
abbrev IsOf : Checked → List ℕ → Result Raw FileFault → Content → Type 0
IsOf schema linked file c = (raw : Raw) × ((file ≡ Ok raw) × (bound_file schema linked raw ≡ Ok c))

loaded_is : (schema : Checked) (name linked : List ℕ) (file : Result Raw FileFault) (c : Content) → one_pass.loaded schema name linked file ≡ Some c → IsOf schema linked file c
loaded_is schema name linked (Err fault) c e = cc
loaded_is schema name linked (Ok raw) c e = by (is_of_schema name raw) e
  where
    by : (t : Bool) → (if t then one_pass.found (bound_file schema linked raw) else None) ≡ Some c → IsOf schema linked (Ok raw) c
    by true f = (raw, (refl, found_is (bound_file schema linked raw) c f))
    by false f = cc

pub read_loaded : (schema : Checked) (name linked text : List ℕ) (c : Content) → one_pass.loaded schema name linked (file_of text) ≡ Some c → IsRead schema linked text c
read_loaded schema name linked text c e = loaded_is schema name linked (file_of text) c e

-- ---- instances

is_above : (m n : ℕ) → m < n → is_gt (nat_cmp n m) ≡ true
is_above m n less = grind (arith, nat_tests)

pub in_order : (is : List Instance) → AreAscending is → IsAscending nat_cmp instance_name is
in_order [] order = tt
in_order (i ∷ is) order = (
  all_each (λ (j : Instance). i.name < j.name) (λ (j : Instance). is_after nat_cmp instance_name i.name j ≡ true) (λ j less. is_above i.name j.name less) is order.0,
  in_order is order.1,
)

-- where the instances have the names of the file, and refer to these and to the links, they are sound in a model that holds both
module _ (raw : Raw) (links : List Link) (found : List Instance) (same_names : names found ≡ spelled.names raw.instances) where
  abbrev pub held : Content
  held = record { header = (content raw.header found).header; instances = (content raw.header found).instances; links = links }

  abbrev defined : ℕ → Bool
  defined = defined_by (link_names links) raw

  same : (n : ℕ) → defined n ≡ is_defined held n
  same n =
      ap (λ ns. is_among (ns ++ link_names links) n) (sym same_names)
      ∙ list_any-append (λ m. m == n) (names found) (link_names links)
      ∙ ap (λ b. b || is_among (link_names links) n) (among_in_order instance_name n found)
      ∙ sym (list_any-append (λ m. m == n) (names held.instances) (link_names links))

  pub all_sound : AllByRecursion (λ i. list_all defined (references_of i) ≡ true) found → AllByRecursion (IsSound held) held.instances
  all_sound all =
      all-in_order instance_name (IsSound held) found
      (all_each (λ i. list_all defined (references_of i) ≡ true) (IsSound held) (λ i is. sym (list_all-same defined (is_defined held) same (references_of i)) ∙ is) found all)
