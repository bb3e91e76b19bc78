-- What the files of a folder hold.
use Rattle.std.specs.Prelude.{◌≡◌, ℕ, List, length, take, nat_le, if◌then◌else◌, Option, Some, None, ok_or, option_map, Result, Ok, Err}
use Rattle.rp_io.specs.Limits.{file_limit}
use Rattle.rp_io.specs.declared.device.DeviceFault.{DeviceFault}
use Rattle.rp_files.specs.declared.fault.LoadFault.{LoadFault}
use Rattle.rp_files.specs.declared.fault.LoadFault.TheVariants as fault

-- what each path holds: the bytes of a file, or nothing where none can be opened
abbrev pub Held : Type 0
Held = List ℕ → Option (List ℕ)

-- what is left to read of a file that was opened: all of it
abbrev pub opened_of : Option (List ℕ) → Result (Option (List ℕ)) DeviceFault
opened_of held = ok_or (option_map Some held) (record {})

-- No read of such a reader fails: a failed one would change its count of failures.
abbrev pub NeverFails : {R : Type 0} → (R → ℕ) → Type 0
NeverFails {R} failures = (before after : R) → failures after ≡ failures before

-- the first bytes of a file, at most so many
abbrev pub front_of : ℕ → Option (List ℕ) → Result (List ℕ) DeviceFault
front_of most read = ok_or (option_map (λ bytes. take most bytes) read) (record {})

-- all bytes of a file, unless they are too many
abbrev pub whole_of : ℕ → List ℕ → Option (List ℕ) → Result (List ℕ) LoadFault
whole_of limit path None = Err (fault.Unreadable path)
whole_of limit path (Some bytes) = if nat_le (length bytes) limit then Ok bytes else Err (fault.TooLarge path)

abbrev pub file_at : Held → List ℕ → Result (List ℕ) LoadFault
file_at held path = whole_of file_limit path (held path)

-- all bytes of a file, however many they are
abbrev pub all_of : List ℕ → Option (List ℕ) → Result (List ℕ) LoadFault
all_of path read = ok_or read (fault.Unreadable path)

abbrev pub all_at : Held → List ℕ → Result (List ℕ) LoadFault
all_at held path = all_of path (held path)
