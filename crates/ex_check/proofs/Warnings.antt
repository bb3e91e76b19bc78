-- The warnings of a schema stand in the order of its text.
use Rattle.std.proofs.Common.{◌≡◌, ℕ, zero, suc, ◌+◌, ◌<◌, ◌≤◌, Bool, true, false, List, [], ◌∷◌, map, filter, slice_index, Option, Some, None, Result, Ok, Err, refl, ap, subst, arith}
use Rattle.std.specs.List.{filter_map}
use Rattle.std.specs.List.Sorted.{IsStrictlyIncreasing}
use Rattle.ex_lex.specs.Lexeme.{Lexeme, Lexed}
use Rattle.ex_lex.specs.Spelling.{Rise}
use Rattle.ex_expressions.specs.Strings.{string_value, string_token, strings}
use Rattle.ex_syntax.specs.Schemas.{with_strings, parsed, tree_of, syntax}
use Rattle.ex_forms.specs.Input.{stream}
use Rattle.ex_tree.specs.declared.declaration.Schema.{Schema}
use Rattle.ex_tree.specs.declared.declaration.StringToken.{StringToken}
use Rattle.ex_tree.specs.declared.fault.ParseFault.{ParseFault}
use Rattle.ex_named.specs.Outcomes.{Outcome, given}
use Rattle.ex_resolve.specs.Schemas.{Resolved, resolved, named_schema, make_schema, schema_parts, SchemaParts}
use Rattle.ex_warnings.specs.Warnings.{warnings, names_select}
use Rattle.ex_types.specs.Checked.{Checked, checked, checked_by}
use Rattle.ex_typing_statements.specs.Statements.{Told}
use Rattle.ex_subtypes.specs.declared.build.SubtypeFault.{SubtypeFault}
use Rattle.ex_compiled.specs.Compiling.{built}
use Rattle.ex_subtypes.specs.Faults.{built_by}

earlier : (from before : ℕ) (ns : List ℕ) → before ≤ from → Rise from ns → Rise before ns
earlier from before [] less rise = tt
earlier from before (n ∷ ns) less rise = (omega (arith, rise.0), rise.1)

-- ---- strings among tokens

one_string : (from : ℕ) (t : Lexeme) (ts : List Lexeme) (value : Option (List ℕ)) → string_value t ≡ value → from ≤ t.at
    → Rise (t.at + 1) (map (λ s. s.at) (filter_map string_token ts)) → Rise from (map (λ s. s.at) (filter_map string_token (t ∷ ts)))
one_string from t ts None is less rise = rw is (earlier (t.at + 1) from (map (λ s. s.at) (filter_map string_token ts)) (omega (arith, less)) rise)
one_string from t ts (Some value) is less rise = rw is (less, rise)

all_strings : (from : ℕ) (ts : List Lexeme) → Rise from (map (λ t. t.at) ts) → Rise from (map (λ s. s.at) (filter_map string_token ts))
all_strings from [] rise = tt
all_strings from (t ∷ ts) rise = one_string from t ts (string_value t) refl rise.0 (all_strings (t.at + 1) ts rise.1)

put_beside : (lexemes : List Lexeme) (r : Result Schema ParseFault) (schema : Schema) → with_strings lexemes r ≡ Ok schema → strings lexemes ≡ schema.strings
put_beside lexemes (Ok tree) schema is = let same : record tree { strings = strings lexemes } ≡ schema = cc in ap (λ s. s.strings) same
put_beside lexemes (Err fault) schema is = cc

-- the string literals of a tree, where the tokens rise
pub strings_rise : (lexed : Lexed) (schema : Schema) → Rise 0 (map (λ t. t.at) lexed.lexemes) → parsed lexed ≡ Ok schema → Rise 0 (map (λ s. s.at) schema.strings)
unfolding parsed strings
strings_rise lexed schema rise is =
    subst (λ l. Rise 0 (map (λ s. s.at) l)) (put_beside lexed.lexemes (tree_of (syntax (stream lexed))) schema is) (all_strings 0 lexed.lexemes rise)

-- ---- they are handed on

handed : (schema : Schema) (parts : Outcome (Unit {0} × SchemaParts)) (supertypes : List (List ℕ)) (r : Resolved)
    → given (λ found. record { schema = found; supertypes = supertypes }) (given (make_schema schema) parts) ≡ Ok r → schema.strings ≡ r.schema.strings
handed schema (Ok parts) supertypes r is =
    let made : Resolved = record { schema = make_schema schema parts; supertypes = supertypes } in
    let same : made ≡ r = cc in ap (λ x. x.schema.strings) same
handed schema (Err fault) supertypes r is = cc

-- the string literals of a schema with its names bound
pub named_rise : (schema : Schema) (r : Resolved) → Rise 0 (map (λ s. s.at) schema.strings) → resolved schema ≡ Ok r → Rise 0 (map (λ s. s.at) r.schema.strings)
unfolding resolved named_schema
named_rise schema r rise is = subst (λ l. Rise 0 (map (λ s. s.at) l)) (handed schema (schema_parts schema) _ r is) rise

-- ---- those that are warned of

one_kept : (from : ℕ) (p : StringToken → Bool) (s : StringToken) (ss : List StringToken) (is_kept : Bool) → p s ≡ is_kept → from ≤ s.at
    → Rise (s.at + 1) (map (λ s. s.at) (filter p ss)) → Rise from (map (λ s. s.at) (filter p (s ∷ ss)))
one_kept from p s ss false is less rise = rw is (earlier (s.at + 1) from (map (λ s. s.at) (filter p ss)) (omega (arith, less)) rise)
one_kept from p s ss true is less rise = rw is (less, rise)

kept : (from : ℕ) (p : StringToken → Bool) (ss : List StringToken) → Rise from (map (λ s. s.at) ss) → Rise from (map (λ s. s.at) (filter p ss))
kept from p [] rise = tt
kept from p (s ∷ ss) rise = one_kept from p s ss (p s) refl rise.0 (kept (s.at + 1) p ss rise.1)

increasing : (from : ℕ) (ns : List ℕ) → Rise from ns → IsStrictlyIncreasing ns
increasing from [] rise k less = omega (arith, less)
increasing from (n ∷ []) rise k less = omega (arith, less)
increasing from (n ∷ m ∷ ms) rise zero less = omega (arith, rise.1.0)
increasing from (n ∷ m ∷ ms) rise (suc k) less =
    let there : suc (k + 1) ≡ suc k + 1 = omega arith in
    subst (λ j. slice_index (n ∷ m ∷ ms) (suc k) < slice_index (n ∷ m ∷ ms) j) there (increasing (n + 1) (m ∷ ms) rise.1 k (omega (arith, less)))

given_warnings : (named : Resolved) (told : Told) (schema : Checked) → checked_by named told ≡ Ok schema → warnings named.schema ≡ schema.warnings
given_warnings named None schema is = let same : record { named = named; warnings = warnings named.schema } ≡ schema = cc in ap (λ s. s.warnings) same
given_warnings named (Some fault) schema is = cc

-- the warnings of a checked schema
pub warnings_rise : (named : Resolved) (schema : Checked) → Rise 0 (map (λ s. s.at) named.schema.strings) → checked named ≡ Ok schema → IsStrictlyIncreasing schema.warnings
unfolding checked warnings
warnings_rise named schema rise is =
    subst IsStrictlyIncreasing (given_warnings named _ schema is) (increasing 0 _ (kept 0 (λ s. names_select named.schema s.value) named.schema.strings rise))

given_schema : (schema : Checked) (told : Option SubtypeFault) (compiled : Checked) → built_by schema told ≡ Ok compiled → schema ≡ compiled
given_schema schema None compiled is = cc
given_schema schema (Some fault) compiled is = cc

-- those of a schema whose expressions can be read
pub built_rise : (schema compiled : Checked) → IsStrictlyIncreasing schema.warnings → built schema ≡ Ok compiled → IsStrictlyIncreasing compiled.warnings
built_rise schema compiled rise is = subst (λ s. IsStrictlyIncreasing s.warnings) (given_schema schema _ compiled is) rise
