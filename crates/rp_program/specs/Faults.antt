-- Which faults end a command that works on files alone.
use Rattle.std.specs.Prelude.{ℕ, List, ⊤}
use Rattle.std.specs.declared.io.Error.{Error}
use Rattle.rp_program.specs.declared.fault.Fault.{Fault}
use Rattle.rp_program.specs.declared.fault.Fault.TheVariants.{Start, Read, Write, Refused, Page, Listen, Serve, Unsaved}

-- There is nothing to work on; or a write failed, a file isn't taken, or the page that is wanted in the file of a path isn't written.
abbrev pub EndsBy : (Unwritten Untaken : Type 0) → (List ℕ → Error → Type 0) → Fault → Type 0
EndsBy Unwritten Untaken Unpaged (Start why) = ⊤
EndsBy Unwritten Untaken Unpaged Write = Unwritten
EndsBy Unwritten Untaken Unpaged (Refused path words) = Untaken
EndsBy Unwritten Untaken Unpaged (Page path error) = Unpaged path error
EndsBy Unwritten Untaken Unpaged Read = ⊥
EndsBy Unwritten Untaken Unpaged (Listen at error) = ⊥
EndsBy Unwritten Untaken Unpaged (Serve fault) = ⊥
EndsBy Unwritten Untaken Unpaged (Unsaved why) = ⊥
