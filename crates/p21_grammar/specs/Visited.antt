-- A file whose instances are shown one after the other to a visitor.
use Rattle.std.specs.Prelude.{◌≡◌, false, true, List, [], Option, Result, Ok, Err}
use Rattle.text_forms.specs.Forms.{Outcome}
use Rattle.p21_lexemes.specs.Tokens.{Lexemes}
use Rattle.p21_tree.specs.declared.fault.FileFault.{FileFault}
use Rattle.p21_tree.specs.declared.instance.Instance.{Instance}
use Rattle.p21_tree.specs.declared.raw.Raw.{Raw}
use Rattle.p21_tree.specs.declared.raw.Section.{Section}
use Rattle.p21_grammar.specs.declared.whole.Body.{Body}

-- what was read, as the rest of it and the instances
abbrev pub Parts : Type 0 → Type 0
Parts A = A × List Instance

abbrev pub of_instances : List Instance → Parts (Unit {0})
of_instances xs = (tt, xs)

abbrev pub of_body : Body → Parts (Option Section)
of_body body = (body.section, body.instances)

abbrev pub of_file : Raw → Parts Raw
of_file raw = (record raw { instances = [] }, raw.instances)

-- The form gives this rest and these tokens, and the visitor has become what it becomes by the instances that the form gives.
module _ {V : Type 0} (Becomes : List Instance → V → Type 0) where
  abbrev pub Shown : {A B : Type 0} → (B → Parts A) → A → Lexemes → V → Outcome Lexemes FileFault B → Type 0
  Shown parts rest new visitor (Ok p) = ((p.1 ≡ new) × ((parts p.0).0 ≡ rest)) × Becomes (parts p.0).1 visitor
  Shown parts rest new visitor (Err fault) = false ≡ true

  -- the same, of a whole text
  abbrev pub ShownAll : Raw → V → Result Raw FileFault → Type 0
  ShownAll rest visitor (Ok raw) = ((of_file raw).0 ≡ rest) × Becomes raw.instances visitor
  ShownAll rest visitor (Err fault) = false ≡ true
