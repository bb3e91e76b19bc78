-- What a model holds, whose header and instances came with files, or by themselves.
use Rattle.std.specs.Prelude.{◌≡◌, ◌≤◌, ◌⊎◌, ℕ, true, List, ◌++◌, map}
use Rattle.std.specs.List.{AllByRecursion, list_all}
use Rattle.plain_data.specs.Numbers.{is_among}
use Rattle.ex_types.specs.Checked.{Checked}
use Rattle.p21_bind.specs.Files.{AreAscending}
use Rattle.p21_bind.specs.Origins.{IsHeaderOfFile, IsSpelled}
use Rattle.p21_lexemes.specs.Lexical.{max_name}
use Rattle.p21_canonical.specs.Trees.{instance_tree}
use Rattle.rp_content.specs.Headers.{default_header}
use Rattle.rp_content.specs.declared.content.Content.{Content}
use Rattle.rp_content.specs.declared.instance.Instance.{Instance}
use Rattle.p21_laws.specs.Instances.{references_of}

-- each name that an instance refers to is one of these instances, or linked
abbrev pub IsSound : Checked → List ℕ → List Instance → Instance → Type 0
IsSound schema linked all i = list_all (is_among (map (λ (j : Instance). j.name) all ++ linked)) (references_of (instance_tree schema i).mapping) ≡ true

-- each of its instances has come with some file or by itself, whatever the model held then, and refers to what it holds now
pub record IsKept (schema : Checked) (linked : List ℕ) (c : Content) : Type 0 where
  pub header : (c.header ≡ default_header) ⊎ IsHeaderOfFile c.header
  pub order : AreAscending c.instances
  pub names : AllByRecursion (λ (i : Instance). i.name ≤ max_name) c.instances
  pub read : AllByRecursion (IsSpelled schema) c.instances
  pub sound : AllByRecursion (IsSound schema linked c.instances) c.instances
