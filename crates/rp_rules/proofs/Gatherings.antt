-- The table of a rule of UNIQUE, instance by instance, is that of all that was tried.
use Rattle.std.proofs.Common.{◌≡◌, ℕ, ◌+◌, ◌-◌, ◌<◌, ◌≤◌, ◌==◌, ◌&&◌, ◌||◌, not, Bool, true, false, Option, Some, None, List, [], ◌∷◌, ◌++◌, map, length, drop, get_or, refl, sym, ap, ◌∙◌, subst, if◌then◌else◌, arith, append-nil}
use Rattle.std.proofs.lemmas.Bool.{eqb-true}
use Rattle.std.proofs.lemmas.Grind.{flat_map-append}
use Rattle.std.proofs.lemmas.List.{length-append, length-map}
use Rattle.std.proofs.lemmas.List.FromFn.{length-range_with_len}
use Rattle.std.proofs.lemmas.List.Elements.{All-nil, All-push, All-same, filter_map-append}
use Rattle.std.specs.List.{All, filter_map, flat_map, list_any, range_with_len}
use Rattle.rp_numbers.specs.declared.Logical.{Logical}
use Rattle.rp_numbers.specs.declared.Logical.TheVariants as l
use Rattle.ex_named.specs.declared.reference.AttributePlace.{AttributePlace}
use Rattle.rp_meaning.specs.declared.report.Check.{Check}
use Rattle.rp_meaning.specs.declared.report.Constraint.TheVariants as c
use Rattle.rp_meaning.specs.declared.report.Verdict.{Verdict}
use Rattle.rp_meaning.specs.declared.report.Verdict.TheVariants as judged
use Rattle.rp_meaning.specs.declared.rule.Rule.{Rule}
use Rattle.rp_meaning.specs.declared.rule.Rule.TheVariants as r
use Rattle.rp_meaning.specs.declared.schema.Schema.{Schema}
use Rattle.rp_meaning.specs.Bare.{is_indeterminate}
use Rattle.rp_meaning.specs.Expressions.{World}
use Rattle.rp_meaning.specs.Operators.{truth_in}
use Rattle.rp_meaning.specs.Populations.{Instance, extent, places_of}
use Rattle.rp_meaning.specs.Report.{Row, agreeing, candidates_of, instance_culprit, is_whole, of_instance, places, row_of, unique_check, value_in, world}
use Rattle.rp_meaning.specs.Sequence.{Candidate, Ended, Valued, Limited, NotRun, Result, Trial, all_after, by_truth, check_of, each_after, one, same_verdict, tried, verdict_of}
use Rattle.rp_operations.specs.Seen.{seen}
use Rattle.rp_rules.specs.declared.unique.Gathered.{Gathered}
use Rattle.rp_rules.specs.declared.unique.Table.{Table}
use Rattle.rp_rules.specs.Endings.{occurs}
use Rattle.rp_rules.specs.Gatherings.{candidate_of, gathered_after, gathered_of, table_after, table_of, trials_of, unique_rules, with_end, with_row}
use Rattle.rp_rules.specs.Places.{place_or_none}
use Rattle.rp_rules.specs.Buckets.{HasValues}
use Rattle.rp_rules.proofs.Steps.{drop-read, numbers-end, numbers-step}
use Rattle.rp_rules.proofs.Tallied.{culprits-more, occurs-more, or_false}
use Rattle.rp_value.specs.declared.value.Value.{Value, out-Value}
use Rattle.rp_value.specs.declared.value.Value.TheVariants as v

-- ---- in an instance

or_true : (b : Bool) → (b || true) ≡ true
or_true true = refl
or_true false = refl

-- what has a value is at no limit, and was begun
no_limit : (t : Option Logical) → same_verdict (by_truth t) judged.Limit ≡ false
no_limit None = refl
no_limit (Some l.True) = refl
no_limit (Some l.False) = refl
no_limit (Some l.Unknown) = refl

was_begun : (t : Option Logical) → same_verdict (by_truth t) judged.NotRun ≡ false
was_begun None = refl
was_begun (Some l.True) = refl
was_begun (Some l.False) = refl
was_begun (Some l.Unknown) = refl

occurs-not : (verdict : Verdict) (found : List Ended) (e : Ended) → same_verdict (verdict_of e) verdict ≡ false → occurs verdict (found ++ e ∷ []) ≡ occurs verdict found
occurs-not verdict found e not = occurs-more verdict found e ∙ ap (λ b. occurs verdict found || b) not ∙ or_false (occurs verdict found)

occurs-now : (verdict : Verdict) (found : List Ended) (e : Ended) → same_verdict (verdict_of e) verdict ≡ true → occurs verdict (found ++ e ∷ []) ≡ true
occurs-now verdict found e now = occurs-more verdict found e ∙ ap (λ b. occurs verdict found || b) now ∙ or_true (occurs verdict found)

no_value : (found : List Ended) (e : Ended) → value_in e ≡ [] → flat_map value_in (found ++ e ∷ []) ≡ flat_map value_in found
no_value found e none = flat_map-append value_in found (e ∷ []) ∙ ap (λ (xs : List Value). flat_map value_in found ++ (xs ++ [])) none ∙ append-nil (flat_map value_in found)

pub gathered-with : (found : List Ended) (e : Ended) → gathered_of (found ++ e ∷ []) ≡ with_end (gathered_of found) e
gathered-with found (Valued x) = λ i. record {
  values = flat_map-append value_in found (Valued x ∷ []) i;
  limited = occurs-not judged.Limit found (Valued x) (no_limit (truth_in (seen x))) i;
  not_run = occurs-not judged.NotRun found (Valued x) (was_begun (truth_in (seen x))) i;
}
gathered-with found Limited = λ i. record {
  values = no_value found Limited refl i;
  limited = occurs-now judged.Limit found Limited refl i;
  not_run = occurs-not judged.NotRun found Limited refl i;
}
gathered-with found NotRun = λ i. record {
  values = no_value found NotRun refl i;
  limited = occurs-not judged.Limit found NotRun refl i;
  not_run = occurs-now judged.NotRun found NotRun refl i;
}

module _ (world : World) where
  pub gathered-all : (found : List Ended) (ts : List Trial) (used : ℕ)
      → gathered_after world (gathered_of found) ts used ≡ (gathered_of (each_after world found ts used).0, (each_after world found ts used).1)
  gathered-all found [] used = refl
  gathered-all found (t ∷ ts) used =
      ap (λ (g : Gathered). gathered_after world g ts (one world t used).1) (sym (gathered-with found (one world t used).0))
      ∙ gathered-all (found ++ (one world t used).0 ∷ []) ts (one world t used).1

  pub as-many : (found : List Ended) (ts : List Trial) (used : ℕ) → length (each_after world found ts used).0 ≡ length found + length ts
  as-many found [] used = omega arith
  as-many found (t ∷ ts) used =
      as-many (found ++ (one world t used).0 ∷ []) ts (one world t used).1
      ∙ (let e : length (found ++ (one world t used).0 ∷ []) ≡ length found + 1 = length-append found ((one world t used).0 ∷ []) in omega (arith, e))

  -- one attribute more
  pub gathered-step : (g : Gathered) (entity place at count : ℕ) (x : Value) (used : ℕ) → at < count
      → gathered_after world g (trials_of (map (r.Unique entity place) (range_with_len at (count - at))) x) used
      ≡ gathered_after world (with_end g (one world (r.Unique entity place at, x) used).0) (trials_of (map (r.Unique entity place) (range_with_len (at + 1) (count - (at + 1)))) x) (one world (r.Unique entity place at, x) used).1
  gathered-step g entity place at count x used h = ap (λ (ns : List ℕ). gathered_after world g (trials_of (map (r.Unique entity place) ns) x) used) (numbers-step at count h)

  pub gathered-end : (g : Gathered) (entity place at count : ℕ) (x : Value) (used : ℕ) → count ≤ at
      → gathered_after world g (trials_of (map (r.Unique entity place) (range_with_len at (count - at))) x) used ≡ (g, used)
  gathered-end g entity place at count x used h = ap (λ (ns : List ℕ). gathered_after world g (trials_of (map (r.Unique entity place) ns) x) used) (numbers-end at count h)

-- ---- in all instances

row-if : (b : Bool) (row : Row) → filter_map (λ (o : Option Row). o) ((if b then Some row else None) ∷ []) ≡ (if b then row ∷ [] else [])
row-if true row = refl
row-if false row = refl

row-more : (x : Result) (count : ℕ) → length x.1 ≡ count
    → filter_map row_of (x ∷ []) ≡ (if is_whole (flat_map value_in x.1) count then (record { culprit = x.0; values = flat_map value_in x.1 }) ∷ [] else [])
row-more x count is =
    row-if (is_whole (flat_map value_in x.1) (length x.1)) (record { culprit = x.0; values = flat_map value_in x.1 })
    ∙ ap (λ (n : ℕ). let row : Row = record { culprit = x.0; values = flat_map value_in x.1 } in if is_whole (flat_map value_in x.1) n then row ∷ [] else []) is

table-with : (found : List Result) (x : Value) (es : List Ended) (count : ℕ) → length es ≡ count
    → with_row count (table_of found) x (gathered_of es) ≡ table_of (found ++ (instance_culprit (place_or_none x), es) ∷ [])
table-with found x es count is =
    let r : Result = (instance_culprit (place_or_none x), es) in
    λ i. record {
      rows = sym (filter_map-append row_of found (r ∷ []) ∙ ap (λ (rows : List Row). filter_map row_of found ++ rows) (row-more r count is)) i;
      limited = sym (culprits-more judged.Limit found r) i;
      not_run = sym (culprits-more judged.NotRun found r) i;
    }

first : (a b : Bool) → (a && b) ≡ true → a ≡ true
first true b h = refl
first false b h = absurd (cc)

module _ (world : World) (rules : List Rule) where
  -- one instance more
  pub table-step : (t : Table) (xs : List Value) (i : ℕ) (x : Value) (used : ℕ) → i < length xs → x ≡ get_or xs i x
      → table_after world rules t (drop i xs) used
      ≡ table_after world rules (with_row (length rules) t x (gathered_of (each_after world [] (trials_of rules x) used).0)) (drop (i + 1) xs) (each_after world [] (trials_of rules x) used).1
  table-step t xs i x used h is = ap (λ (ys : List Value). table_after world rules t ys used) (drop-read xs i x h is)

  -- each row has a value for each attribute
  row-whole : (b : Bool) (count : ℕ) (rows : List Row) (row : Row) → (b ≡ true → length row.values ≡ count) → All (HasValues count) rows → All (HasValues count) (rows ++ (if b then row ∷ [] else []))
  row-whole true count rows row h whole = All-push (HasValues count) rows row whole (h refl)
  row-whole false count rows row h whole = All-same (HasValues count) (rows ++ []) rows (append-nil rows) whole

  has-values : (values : List Value) (count : ℕ) → is_whole values count ≡ true → length values ≡ count
  has-values values count h = eqb-true (length values) count (first (length values == count) (not (list_any is_indeterminate values)) h)

  pub table-whole : (t : Table) (xs : List Value) (used : ℕ) → All (HasValues (length rules)) t.rows → All (HasValues (length rules)) (table_after world rules t xs used).0.rows
  table-whole t [] used whole = whole
  table-whole t (x ∷ xs) used whole =
      let g = gathered_of (each_after world [] (trials_of rules x) used).0 in
      table-whole (with_row (length rules) t x g) xs (each_after world [] (trials_of rules x) used).1
      (row-whole (is_whole g.values (length rules)) (length rules) t.rows (record { culprit = instance_culprit (place_or_none x); values = g.values }) (has-values g.values (length rules)) whole)

  pub table-all : (found : List Result) (xs : List Value) (used : ℕ)
      → table_after world rules (table_of found) xs used
      ≡ (table_of (all_after world found (map (candidate_of rules) xs) used).0, (all_after world found (map (candidate_of rules) xs) used).1)
  table-all found [] used = refl
  table-all found (x ∷ xs) used =
      let es = (each_after world [] (trials_of rules x) used).0 in
      let made = as-many world [] (trials_of rules x) used in
      let tried_on : length (trials_of rules x) ≡ length rules = length-map {B = Trial} rules (λ (rule : Rule). (rule, x)) in
      let many : length es ≡ length rules = omega (arith, made, tried_on) in
      ap (λ (t : Table). table_after world rules t xs (each_after world [] (trials_of rules x) used).1) (table-with found x es (length rules) many)
      ∙ table-all (found ++ (instance_culprit (place_or_none x), es) ∷ []) xs (each_after world [] (trials_of rules x) used).1

module _ (schema : Schema) (population : List Instance) (rules : List Rule) where
  candidates-of : (places : List ℕ) → map (candidate_of rules) (map (λ place. v.Inst place) places) ≡ map (of_instance schema population rules) places
  unfolding out-Value denote.Hole.Carrier.out
  candidates-of [] = refl
  candidates-of (place ∷ places) = ap (λ (cs : List Candidate). of_instance schema population rules place ∷ cs) (candidates-of places)

  pub table-tried : (entity used : ℕ) (instances : List Value) → instances ≡ extent population entity
      → table_after (world schema population) rules (table_of []) instances used
      ≡ (table_of (tried (world schema population) (candidates_of schema population entity rules) used).0, (tried (world schema population) (candidates_of schema population entity rules) used).1)
  table-tried entity used instances is =
      ap (λ (xs : List Value). table_after (world schema population) rules (table_of []) xs used) is
      ∙ table-all (world schema population) rules [] (extent population entity) used
      ∙ ap (λ (cs : List Candidate). (table_of (tried (world schema population) cs used).0, (tried (world schema population) cs used).1)) (candidates-of (places_of population entity))

abbrev check_by_table : ℕ → ℕ → Table → Check
check_by_table entity place t = check_of (c.Unique entity place) (agreeing t.rows) t.limited t.not_run []

module _ (schema : Schema) (population : List Instance) where
  pub unique-check : (entity place used : ℕ) (attributes : List AttributePlace) (instances : List Value) (t : Table) → instances ≡ extent population entity
      → t ≡ (table_after (world schema population) (unique_rules entity place (length attributes)) (table_of []) instances used).0
      → check_of (c.Unique entity place) (agreeing t.rows) t.limited t.not_run [] ≡ (unique_check schema population entity place attributes used).0
  unique-check entity place used attributes instances t is table =
      ap (check_by_table entity place) table
      ∙ ap (λ (p : Table × ℕ). check_by_table entity place p.0) (table-tried schema population (unique_rules entity place (length attributes)) entity used instances is)

  pub unique-used : (entity place used : ℕ) (attributes : List AttributePlace) (instances : List Value) → instances ≡ extent population entity
      → (table_after (world schema population) (unique_rules entity place (length attributes)) (table_of []) instances used).1 ≡ (unique_check schema population entity place attributes used).1
  unique-used entity place used attributes instances is =
      ap (λ (p : Table × ℕ). p.1) (table-tried schema population (unique_rules entity place (length attributes)) entity used instances is)

pub rules-count : (entity place count : ℕ) → length (unique_rules entity place count) ≡ count
rules-count entity place count = length-map (places count) (r.Unique entity place) ∙ length-range_with_len 0 count

pub ruleset counted = (rules-count)

pub rows-whole : (world : World) (entity place count : ℕ) (xs : List Value) (used : ℕ) (rows : List Row)
    → rows ≡ (table_after world (unique_rules entity place count) (table_of []) xs used).0.rows → All (HasValues count) rows
rows-whole world entity place count xs used rows is =
    let rules = unique_rules entity place count in
    let whole : All (HasValues (length rules)) (table_after world rules (table_of []) xs used).0.rows = table-whole world rules (table_of []) xs used (All-nil (HasValues (length rules))) in
    All-same (HasValues count) rows _ is (subst (λ (n : ℕ). All (HasValues n) (table_after world rules (table_of []) xs used).0.rows) (rules-count entity place count) whole)
