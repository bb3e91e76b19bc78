-- Rows that agree with others, row after row.
use Rattle.std.proofs.Common.{◌≡◌, ℕ, ◌+◌, ◌<◌, ◌==◌, ◌&&◌, not, Bool, true, false, List, ◌∷◌, ◌++◌, map, filter, length, get_or, drop, refl, sym, ap, ◌∙◌, append_assoc}
use Rattle.std.proofs.lemmas.List.Elements.{All-get_or}
use Rattle.std.specs.Borrow.{Bor}
use Rattle.std.specs.List.{All, list_any}
use Rattle.rp_meaning.specs.Report.{Row, agree, agrees}
use Rattle.rp_faults.specs.Buckets.{Holds, all_now, sharing}
use Rattle.rp_faults.proofs.Bucketed.{any-among}
use Rattle.rp_rules.specs.Buckets.{HasValues, key_of_row}
use Rattle.rp_rules.specs.Tallies.{listed}
use Rattle.rp_rules.proofs.Sharing.{agree-key}
use Rattle.rp_rules.proofs.Steps.{drop-read}
use Rattle.rp_meaning.specs.declared.report.Culprit.{Culprit}

second : (a b : Bool) → (a && b) ≡ true → b ≡ true
second true b h = h
second false b h = absurd (cc)

of-one-key : (count : ℕ) (row other : Row) → length row.values ≡ count → length other.values ≡ count → agrees row other ≡ true → key_of_row other ≡ key_of_row row
of-one-key count row other many others h =
    sym (agree-key 0 row.values other.values (many ∙ sym others) (second (not (row.culprit.instance == other.culprit.instance)) (agree row.values other.values) h))

-- a row agrees with one in the bucket of its key where it does with one of all
pub agrees-with : (count : ℕ) (row : Row) (rows : List Row) (bs : List (List (Bor Row))) → length row.values ≡ count → All (HasValues count) rows → Holds key_of_row bs rows
    → list_any (agrees row) (all_now (sharing bs (key_of_row row))) ≡ list_any (agrees row) rows
agrees-with count row rows bs many whole held =
    any-among key_of_row (HasValues count) (agrees row) (key_of_row row) bs rows (λ other others h. of-one-key count row other many others h) whole held

abbrev agree_with_one : List Row → Row → Bool
agree_with_one rows row = list_any (agrees row) rows

agreed-if : (passes : Row → Bool) (row : Row) (b : Bool) (others : List Row) → passes row ≡ b
    → map (λ (r : Row). r.culprit) (filter passes (row ∷ others)) ≡ listed b row.culprit ++ map (λ (r : Row). r.culprit) (filter passes others)
agreed-if passes row true others is = rw is refl
agreed-if passes row false others is = rw is refl

-- one row more
pub agreeing-step : (rows : List Row) (found : List Culprit) (i : ℕ) (row : Row) (b : Bool) → i < length rows → row ≡ get_or rows i row → b ≡ list_any (agrees row) rows
    → found ++ map (λ (r : Row). r.culprit) (filter (λ (row : Row). list_any (agrees row) rows) (drop i rows))
    ≡ (found ++ listed b row.culprit) ++ map (λ (r : Row). r.culprit) (filter (λ (row : Row). list_any (agrees row) rows) (drop (i + 1) rows))
agreeing-step rows found i row b h is so =
    ap (λ (rs : List Row). found ++ map (λ (r : Row). r.culprit) (filter (agree_with_one rows) rs)) (drop-read rows i row h is)
    ∙ ap (λ (cs : List Culprit). found ++ cs) (agreed-if (agree_with_one rows) row b (drop (i + 1) rows) (sym so))
    ∙ sym (append_assoc found (listed b row.culprit) (map (λ (r : Row). r.culprit) (filter (agree_with_one rows) (drop (i + 1) rows))))

pub as-many-values : (count : ℕ) (rows : List Row) (i : ℕ) (row : Row) → i < length rows → row ≡ get_or rows i row → All (HasValues count) rows → length row.values ≡ count
as-many-values count rows i row h is whole = ap (λ (r : Row). length r.values) is ∙ All-get_or (HasValues count) rows i row h whole
