-- A whole file is read again.
use Rattle.std.proofs.Common.{◌≡◌, ◌<◌, ℕ, ◌&&◌, true, false, Option, None, Some, List, [], ◌∷◌, ◌++◌, length, codes, Ok, refl, sym, ◌∙◌, ap, le_refl, arith, append_assoc, append-nil}
use Rattle.std.specs.List.{list_all}
use Rattle.text_forms.specs.Forms.{◌>>◌, pure}
use Rattle.p21_lexemes.specs.declared.token.TokenKind.{TokenKind}
use Rattle.p21_lexemes.specs.declared.token.TokenKind.TheVariants as k
use Rattle.p21_lexemes.specs.Tokens.{lexemes, sees, sees_word, finish, too_many_sections, same_kind}
use Rattle.p21_lexemes.proofs.Lexemes.{lexemes-end}
use Rattle.p21_grammar.specs.File.{section_names, section, data_section, mark, file_end, file, tree_of, file_of}
use Rattle.p21_tree.specs.declared.instance.Instance.{Instance}
use Rattle.p21_tree.specs.declared.raw.Raw.{Raw}
use Rattle.p21_tree.specs.declared.raw.Section.{Section}
use Rattle.p21_spelling.specs.Tokens as tokens
use Rattle.p21_spelling.specs.Tokens.{enclosed, is_string, is_cut}
use Rattle.p21_spelling.specs.Instances.{is_instance, lines}
use Rattle.p21_spelling.specs.Files as spec
use Rattle.p21_spelling.specs.Files.{is_header, section_text, is_section, header_text, data_text, file_text, is_file}
use Rattle.p21_spelling.specs.Again.{Again, ReadsAnywhere}
use Rattle.p21_spelling.proofs.Runs.{first_holds, second_holds}
use Rattle.p21_spelling.proofs.Fronts.{Stands, stands-start, stands-end}
use Rattle.p21_spelling.proofs.Steps.{token, Reads, done, weak, first_then, also, maps, other, respelled, with_feed, takes, takes-open, takes-comma, takes-semicolon, takes-string, closes, ends_line, semicolon_mark, an_open}
use Rattle.p21_spelling.proofs.Lines.{instances_again}
use Rattle.p21_spelling.proofs.Headers.{takes-called, line_again, line_front, one_schema_again, header_again}

-- ---- the data section

names_again : (s : Section) → is_section (Some s) ≡ true → ReadsAnywhere section_names (section_text (Some s)) s
unfolding section_names
names_again s good = λ at rest.
    let t = tokens.quoted s.name in
    let u = enclosed (tokens.quoted s.schema) in
    let joined : enclosed (t ++ 44 ∷ u) ≡ 40 ∷ (t ++ 44 ∷ (u ++ 41 ∷ [])) = ap (λ l. 40 ∷ l) (append_assoc t (44 ∷ u) (41 ∷ [])) in
    let one = takes-open at ((t ++ 44 ∷ (u ++ 41 ∷ [])) ++ rest) in
    let two = takes-string s.name (first_holds (is_string s.name) (is_string s.schema) good) one.to (44 ∷ ((u ++ 41 ∷ []) ++ rest)) refl in
    let three = takes-comma two.to ((u ++ 41 ∷ []) ++ rest) in
    let four = one_schema_again s.schema (second_holds (is_string s.name) (is_string s.schema) good) three.to (41 ∷ rest) in
    respelled joined
    (first_then (40 ∷ []) (t ++ 44 ∷ (u ++ 41 ∷ [])) rest _ s one
    (weak (first_then t (44 ∷ (u ++ 41 ∷ [])) rest _ s two
    (weak (first_then (44 ∷ []) (u ++ 41 ∷ []) rest _ s three
    (weak (first_then u (41 ∷ []) rest _ s four (closes s four.to rest))))))))

no_open : (at : ℕ) (rest : List ℕ) → sees k.Open (lexemes at (59 ∷ rest)) ≡ false
unfolding same_kind
no_open at rest = ap (sees k.Open) (semicolon_mark at rest)

section_again : (s : Option Section) → is_section s ≡ true → (at : ℕ) (rest : List ℕ) → Reads section (section_text s) s at (59 ∷ rest)
unfolding section
section_again None good at rest = record { to = at; reads = rw (no_open at rest) refl; no_more = le_refl _ }
section_again (Some s) good at rest =
    let found = weak (maps Some (names_again s good at (59 ∷ rest))) in
    record { to = found.to; reads = rw (an_open at _) found.reads; no_more = found.no_more }

-- what follows `DATA`
behind_data : (s : Option Section) (rest : List ℕ) → is_cut (section_text s ++ 59 ∷ rest) ≡ true
behind_data None rest = refl
behind_data (Some s) rest = refl

no_name : (rest : List ℕ) (at : ℕ) → sees k.Name (lexemes at (spec.line (codes "ENDSEC") ++ rest)) ≡ false
unfolding same_kind
no_name rest at = ap (sees k.Name) (line_front (codes "ENDSEC") (refl, refl) at rest)

data_again : (s : Option Section) (is : List Instance) → is_section s ≡ true → list_all is_instance is ≡ true → ReadsAnywhere data_section (data_text s is) (record { section = s; instances = is })
unfolding data_section
data_again s is good goods = λ at rest.
    let last = spec.line (codes "ENDSEC") in
    let u = lines is ++ last in
    let t = section_text s in
    let joined : data_text s is ≡ codes "DATA" ++ (t ++ 59 ∷ 10 ∷ u) = ap (λ l. codes "DATA" ++ l) (append_assoc t (59 ∷ 10 ∷ []) u) in
    let all : (t ++ 59 ∷ 10 ∷ u) ++ rest ≡ t ++ 59 ∷ 10 ∷ (u ++ rest) = append_assoc t (59 ∷ 10 ∷ u) rest in
    let cut : is_cut ((t ++ 59 ∷ 10 ∷ u) ++ rest) ≡ true = ap is_cut all ∙ behind_data s (10 ∷ (u ++ rest)) in
    let one = takes-called (codes "DATA") (refl, refl) at ((t ++ 59 ∷ 10 ∷ u) ++ rest) cut in
    let two = section_again s good one.to (10 ∷ (u ++ rest)) in
    let three = with_feed (59 ∷ []) (u ++ rest) (takes-semicolon two.to (10 ∷ (u ++ rest))) in
    let four = instances_again is three.to (last ++ rest) (no_name rest) goods in
    let five = line_again (codes "ENDSEC") (refl, refl) four.to rest in
    respelled joined
    (first_then (codes "DATA") (t ++ 59 ∷ 10 ∷ u) rest _ _ one
    (also t (59 ∷ 10 ∷ u) rest _ _ two
    (weak (first_then (59 ∷ 10 ∷ []) u rest _ _ three
    (also (lines is) last rest _ _ four
    (weak (first_then last [] rest (λ _. pure _) _ five (done _ five.to rest))))))))

-- ---- the marks

mark_again : (kind : TokenKind) (t : List ℕ) → Stands kind t → 0 < length t → ReadsAnywhere (mark kind) (spec.line t) tt
unfolding mark
mark_again kind t stands some = λ at rest.
    let one = takes kind t stands some at (59 ∷ 10 ∷ rest) refl in
    first_then t (59 ∷ 10 ∷ []) rest _ tt one (ends_line tt one.to rest)

pub nothing_left : (at : ℕ) → Reads finish [] tt at []
nothing_left at =
    let is = lexemes-end at [] refl in
    record { to = at; reads = ap finish is ∙ ap (λ s. Ok (tt, s)) (sym is); no_more = le_refl _ }

no_data : (at : ℕ) (rest : List ℕ) → sees_word (codes "DATA") (lexemes at (spec.line (codes "END-ISO-10303-21") ++ rest)) ≡ false
unfolding same_kind
no_data at rest = ap (sees_word (codes "DATA")) (token k.FileEnd (codes "END-ISO-10303-21") stands-end (omega arith) at (59 ∷ 10 ∷ rest) refl)

end_again : (at : ℕ) → Again file_end (spec.line (codes "END-ISO-10303-21")) tt at []
unfolding file_end
end_again at =
    let t = spec.line (codes "END-ISO-10303-21") in
    let one = mark_again k.FileEnd (codes "END-ISO-10303-21") stands-end (omega arith) at [] in
    other (sees_word (codes "DATA")) too_many_sections (mark k.FileEnd >> finish) (no_data at []) (first_then t [] [] _ tt one (nothing_left one.to))

-- ---- the file

whole : (raw : Raw) → is_file raw ≡ true → Again file (file_text raw) raw 0 []
unfolding file
whole raw good =
    let header = is_header raw.header in
    let schema = is_string raw.schema in
    let section = is_section raw.section in
    let instances = list_all is_instance raw.instances in
    let three = first_holds (header && schema && section) instances good in
    let two = first_holds (header && schema) section three in
    let h = header_text raw.header raw.schema in
    let d = data_text raw.section raw.instances in
    let last = spec.line (codes "END-ISO-10303-21") in
    let start = spec.line (codes "ISO-10303-21") in
    let joined : file_text raw ≡ start ++ (h ++ (d ++ last)) = ap (λ l. start ++ l) (append_assoc h d last) in
    let a = mark_again k.FileStart (codes "ISO-10303-21") stands-start (omega arith) 0 ((h ++ (d ++ last)) ++ []) in
    let b = header_again raw.header raw.schema (first_holds header schema two) (second_holds header schema two) a.to ((d ++ last) ++ []) in
    let c = data_again raw.section raw.instances (second_holds (header && schema) section three) (second_holds (header && schema && section) instances good) b.to (last ++ []) in
    let e = end_again c.to in
    respelled joined
    (first_then start (h ++ (d ++ last)) [] _ raw a
    (weak (first_then h (d ++ last) [] _ raw b
    (weak (first_then d last [] _ raw c
    (weak (first_then last [] [] (λ _. pure raw) raw e (done raw e.to []))))))))

-- what is spelled of a file is read again
pub file_again : (raw : Raw) → is_file raw ≡ true → file_of (file_text raw) ≡ Ok raw
file_again raw good =
    let found = whole raw good in
    ap (λ l. tree_of (file (lexemes 0 l))) (sym (append-nil (file_text raw))) ∙ ap tree_of found.reads
