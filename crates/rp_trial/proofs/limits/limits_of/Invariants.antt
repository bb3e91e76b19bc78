use Rattle.std.proofs.Common.{◌≡◌, ◌++◌, map, drop}
use Rattle.std.specs.Prelude.{option_map}
use Rattle.std.specs.String.{string_bytes}
use Rattle.rp_trial.specs.Limits.{limits_of}
use Rattle.rp_trial.proofs.limits.limits_of.Given as goal

-- those so far, before those of what is left
abbrev pub invariant-loop-word : goal.invariant-loop-word
invariant-loop-word l = option_map (λ rest. l.limits.items ++ rest) (limits_of (map string_bytes (drop l.word-index l.words))) ≡ limits_of (map string_bytes l.words)
