-- How the attributes of a rule of UNIQUE end in instances, one after the other.
use Rattle.std.specs.Prelude.{ℕ, ◌++◌, true, List, [], ◌∷◌, map, length, if◌then◌else◌}
use Rattle.std.specs.List.{filter_map, flat_map}
use Rattle.rp_meaning.specs.declared.report.Verdict.TheVariants as judged
use Rattle.rp_meaning.specs.declared.rule.Rule.{Rule}
use Rattle.rp_meaning.specs.declared.rule.Rule.TheVariants as r
use Rattle.rp_meaning.specs.Expressions.{World}
use Rattle.rp_meaning.specs.Report.{instance_culprit, is_whole, places, row_of, value_in}
use Rattle.rp_meaning.specs.Sequence.{Candidate, Ended, Valued, Limited, NotRun, Result, Trial, culprits, each_after, one}
use Rattle.rp_rules.specs.declared.unique.Gathered.{Gathered}
use Rattle.rp_rules.specs.declared.unique.Table.{Table}
use Rattle.rp_rules.specs.Endings.{occurs}
use Rattle.rp_rules.specs.Places.{place_or_none}
use Rattle.rp_rules.specs.Tallies.{listed}
use Rattle.rp_value.specs.declared.value.Value.{Value}

-- ---- in an instance

abbrev pub gathered_of : List Ended → Gathered
gathered_of found = record { values = flat_map value_in found; limited = occurs judged.Limit found; not_run = occurs judged.NotRun found }

abbrev pub with_end : Gathered → Ended → Gathered
with_end g (Valued x) = record { values = g.values ++ x ∷ []; limited = g.limited; not_run = g.not_run }
with_end g Limited = record { values = g.values; limited = true; not_run = g.not_run }
with_end g NotRun = record { values = g.values; limited = g.limited; not_run = true }

module _ (world : World) where
  -- with the ends of more evaluations, and the steps that are used then
  abbrev pub gathered_after : Gathered → List Trial → ℕ → Gathered × ℕ
  gathered_after g [] used = (g, used)
  gathered_after g (trial ∷ others) used = gathered_after (with_end g (one world trial used).0) others (one world trial used).1

-- so many attributes of a rule
abbrev pub unique_rules : ℕ → ℕ → ℕ → List Rule
unique_rules entity place count = map (r.Unique entity place) (places count)

-- rules that are tried on an instance
abbrev pub trials_of : List Rule → Value → List Trial
trials_of rules x = map (λ rule. (rule, x)) rules

-- ---- in all instances

abbrev pub table_of : List Result → Table
table_of results = record { rows = filter_map row_of results; limited = culprits judged.Limit results; not_run = culprits judged.NotRun results }

abbrev pub with_row : ℕ → Table → Value → Gathered → Table
with_row count t x g = record {
  rows = t.rows ++ (if is_whole g.values count then (record { culprit = instance_culprit (place_or_none x); values = g.values }) ∷ [] else []);
  limited = t.limited ++ listed g.limited (instance_culprit (place_or_none x));
  not_run = t.not_run ++ listed g.not_run (instance_culprit (place_or_none x));
}

module _ (world : World) (rules : List Rule) where
  -- with what more instances come to, and the steps that are used then
  abbrev pub table_after : Table → List Value → ℕ → Table × ℕ
  table_after t [] used = (t, used)
  table_after t (x ∷ others) used =
      table_after (with_row (length rules) t x (gathered_of (each_after world [] (trials_of rules x) used).0)) others (each_after world [] (trials_of rules x) used).1

-- an instance by these rules
abbrev pub candidate_of : List Rule → Value → Candidate
candidate_of rules x = (instance_culprit (place_or_none x), trials_of rules x)
