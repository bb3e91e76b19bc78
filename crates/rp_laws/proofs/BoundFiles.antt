-- The instances of a file that is bound refer to names of the file, or to such as are linked.
use Rattle.std.proofs.Common.{◌≡◌, ℕ, Bool, true, List, [], ◌∷◌, Ok, subst}
use Rattle.std.specs.List.{AllByRecursion, list_all}
use Rattle.ex_types.specs.Checked.{Checked}
use Rattle.p21_bind.specs.Files.{instances_after}
use Rattle.p21_bind.proofs.Ascending.{begun, more, none_are}
use Rattle.p21_tree.specs.declared.instance.Instance as tree
use Rattle.rp_content.specs.declared.instance.Instance.{Instance}
use Rattle.rp_rows.specs.Contents.{references_of}
use Rattle.rp_laws.proofs.BoundInstances.{instance_bound}

module _ (schema : Checked) (defined : ℕ → Bool) where
  pub bound_refer : (stood : ℕ → Bool) (xs : List tree.Instance) (is : List Instance) → instances_after schema defined stood xs ≡ Ok is → AllByRecursion (λ i. list_all defined (references_of i) ≡ true) is
  bound_refer stood [] is e = subst (AllByRecursion (λ i. list_all defined (references_of i) ≡ true)) (none_are schema defined is stood e) tt
  bound_refer stood (x ∷ xs) is e =
      let b = begun schema defined stood x xs is e in
      let bound = instance_bound schema defined (stood x.name) x b.first b.reads in
      subst (AllByRecursion (λ i. list_all defined (references_of i) ≡ true)) b.are (bound.1.references, bound_refer (more schema defined stood x) xs b.later b.follow)
