-- The instances of a file in order of name: each of them the file's and sound, and none greater than names are.
use Rattle.std.proofs.Common.{◌≡◌, ◌≤◌, ℕ, Bool, true, ◌||◌, ◌==◌, List, [], ◌∷◌, ◌++◌, append_assoc, Ok, refl, sym, ◌∙◌, ap, subst}
use Rattle.std.specs.List.{list_all, AllByRecursion}
use Rattle.std.proofs.lemmas.List.Folds.{list_any-append}
use Rattle.plain_data.specs.Numbers.{is_among}
use Rattle.ex_types.specs.Checked.{Checked}
use Rattle.p21_tree.specs.declared.instance.Instance as tree
use Rattle.p21_tree.specs.declared.raw.Raw.{Raw}
use Rattle.p21_grammar.specs.File.{file_of}
use Rattle.p21_instances.specs.Instances as spelled
use Rattle.p21_instances.specs.Instances.{in_order}
use Rattle.p21_instances.proofs.ByName.{below, all-in_order, among_in_order}
use Rattle.p21_instances.proofs.Sets.{list_all-same}
use Rattle.p21_mappings.specs.Contents.{content}
use Rattle.p21_bind.specs.Files.{bound_file}
use Rattle.p21_bind.proofs.Ascending.{defined_by}
use Rattle.rp_content.specs.declared.content.Content.{Content}
use Rattle.rp_content.specs.declared.instance.Instance.{Instance}
use Rattle.rp_content.specs.declared.link.Link.{Link}
use Rattle.rp_rows.specs.Contents.{instance_name, names, greatest_name, link_name, link_names, references_of}
use Rattle.rp_plain.specs.Instances.{is_defined}
use Rattle.rp_plain.specs.Links.{linking}
use Rattle.p21_bind.specs.Origins.{IsInstanceOfFile}
use Rattle.rp_plain.specs.Valid.{IsSound}
use Rattle.rp_laws.proofs.ByName.{AreWithin, within}

-- ---- each is of the file

each_stands : (schema : Checked) (file : List ℕ) (raw : Raw) (reads : file_of file ≡ Ok raw) (linked : List ℕ) (c : Content) (says : bound_file schema linked raw ≡ Ok c) (before is : List Instance) → c.instances ≡ before ++ is
    → AllByRecursion (IsInstanceOfFile schema) is
each_stands schema file raw reads linked c says before [] e = tt
each_stands schema file raw reads linked c says before (i ∷ is) e = (
  record { file = file; raw = raw; reads = reads; linked = linked; content = c; says = says; before = before; behind = is; stands = e },
  each_stands schema file raw reads linked c says (before ++ i ∷ []) is (e ∙ sym (append_assoc before (i ∷ []) is)),
)

pub all_spelled : (schema : Checked) (file : List ℕ) (raw : Raw) → file_of file ≡ Ok raw → (linked : List ℕ) (c : Content) → bound_file schema linked raw ≡ Ok c → AllByRecursion (IsInstanceOfFile schema) c.instances
all_spelled schema file raw reads linked c says = each_stands schema file raw reads linked c says [] c.instances refl

-- ---- each is sound

-- where the instances have the names of the file, and refer to these and to the links, they are sound in a model that holds both
module _ (raw : Raw) (links : List Link) (found : List Instance) (same_names : names found ≡ spelled.names raw.instances) where
  abbrev held : Content
  held = linking links (content raw.header found)

  abbrev defined : ℕ → Bool
  defined = defined_by (link_names links) raw

  same : (n : ℕ) → defined n ≡ is_defined held n
  same n =
      ap (λ ns. is_among (ns ++ link_names links) n) (sym same_names)
      ∙ list_any-append (λ m. m == n) (names found) (link_names links)
      ∙ (λ i. among_in_order instance_name n found i || among_in_order link_name n links i)
      ∙ sym (list_any-append (λ m. m == n) (names held.instances) (link_names held.links))

  each_sound : (is : List Instance) → AllByRecursion (λ i. list_all defined (references_of i) ≡ true) is → AllByRecursion (IsSound held) is
  each_sound [] all = tt
  each_sound (i ∷ is) all = (sym (list_all-same defined (is_defined held) same (references_of i)) ∙ all.0, each_sound is all.1)

  pub all_sound : AllByRecursion (λ i. list_all defined (references_of i) ≡ true) found → AllByRecursion (IsSound held) held.instances
  all_sound all = all-in_order instance_name (IsSound held) found (each_sound found all)

-- ---- the greatest name

same_most : (most : ℕ) (is : List Instance) (xs : List tree.Instance) → names is ≡ spelled.names xs → AllByRecursion (λ (x : tree.Instance). x.name ≤ most) xs → AreWithin instance_name most is
same_most most [] xs e all = tt
same_most most (i ∷ is) [] e all = cc
same_most most (i ∷ is) (x ∷ xs) e all =
    let first : i.name ≡ x.name = cc in
    let rest : names is ≡ spelled.names xs = cc in
    (subst (λ n. n ≤ most) (sym first) all.0, same_most most is xs rest all.1)

-- none is greater than those of the file
pub in_order_most : (most n : ℕ) (is : List Instance) (xs : List tree.Instance) → names is ≡ spelled.names xs → AllByRecursion (λ (x : tree.Instance). x.name ≤ most) xs → n ≤ most → greatest_name n (in_order (below instance_name) is) ≤ most
in_order_most most n is xs e all low =
    within instance_name most n (in_order (below instance_name) is) low (all-in_order instance_name (λ (i : Instance). i.name ≤ most) is (same_most most is xs e all))
