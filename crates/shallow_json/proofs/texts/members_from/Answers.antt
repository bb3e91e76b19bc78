use Rattle.std.proofs.Common.{◌≡◌, ◌-◌, [], ◌∷◌, length, drop, string_bytes, Some, refl, sym, ap, ◌∙◌, arith}
use Rattle.json.specs.Token.{key, string, end_object}
use Rattle.json.specs.Json.{value, members}
use Rattle.json.specs.Lex.{fresh, after_comma, between, lex, token, colon, comma, punctuate}
use Rattle.serde_json.specs.Data as json_data
use Rattle.serde_json.specs.Data.{no_members, put}
use Rattle.serde_json.specs.Read.{of_members, converted}
use Rattle.serde_json.specs.View.{members_view}
use Rattle.serde_json.proofs.Views.{members_view-insert_entry}
use Rattle.shallow_json.specs.Shallow.{shallow}
use Rattle.shallow_json.proofs.Reading.{members_over}
use Rattle.shallow_json.proofs.Shallow.{shallow-put}
use Rattle.shallow_json.proofs.StringLemmas.{member_punctuated, last_punctuated, string_member, view-String}
use Rattle.shallow_json.proofs.texts.members_from.Goals as goal

pub members-init : goal.members-init
members-init c =
    let first = punctuate fresh (lex between (drop c.args.from c.args.text.now)) in
    let none : members_view c.new-found.result.entries ≡ no_members = ap members_view c.new-found.ensures.empty in (
      length first,
      fresh,
      refl,
      omega arith,
      ap shallow none ∙ sym none,
      ap (λ old. converted (λ ms. of_members ms old) (members (value 126) (length first) first)) (sym none),
      c.requires.within,
    )

pub members-preserved : goal.members-preserved
members-preserved c =
    let d = c.args.text.now in
    let l = c.members in
    let old = members_view l.found.entries in
    let k = string_bytes c.in-Some.key in
    let v = string_bytes c.in-Some.string in
    let same = c.as_bytes.ensures.value in
    let read : lex between (drop l.at d) ≡ token (string k) ∷ colon ∷ token (string v) ∷ lex between (drop c.in-Some.end d) = grind arith in
    let behind : lex between (drop c.in-Some.end d) ≡ comma ∷ lex between (drop c.in-Member.next d) = rw (← same) c.in-Member.ensures.0 in
    let ts = punctuate l.invariant.1 (lex between (drop l.at d)) in
    let r = punctuate after_comma (lex between (drop c.in-Member.next d)) in
    let is : ts ≡ key k ∷ string v ∷ r = ap (punctuate l.invariant.1) (read ∙ ap (λ ls. token (string k) ∷ colon ∷ token (string v) ∷ ls) behind) ∙ member_punctuated l.invariant.1 k v _ l.invariant.2 in
    let long = ap length is in
    let inserted : members_view c.insert.new.self.entries ≡ put k (json_data.string v) old =
    ap members_view c.in_ok-insert.ensures.entries ∙ members_view-insert_entry l.found.entries c.in-Some.key _ ∙ ap (λ s. put k s old) (view-String c.in-Some.string) in (
      l.invariant.0 - 1,
      after_comma,
      refl,
      omega (arith, l.invariant.3, long),
      ap shallow inserted ∙ shallow-put k (json_data.string v) old ∙ ap (put k (json_data.string v)) l.invariant.4 ∙ sym inserted,
      l.invariant.5 ∙ string_member old l.invariant.0 k v ts r (omega (arith, l.invariant.3, long)) is ∙ ap (λ now. converted (λ ms. of_members ms now) (members (value 126) (l.invariant.0 - 1) r)) (sym inserted),
      grind arith,
    )

pub returns-in-End-clause-read : goal.returns-in-End-clause-read
returns-in-End-clause-read c =
    let d = c.args.text.now in
    let l = c.members in
    let old = members_view l.found.entries in
    let k = string_bytes c.in-Some.key in
    let v = string_bytes c.in-Some.string in
    let same = c.as_bytes.ensures.value in
    let read : lex between (drop l.at d) ≡ token (string k) ∷ colon ∷ token (string v) ∷ lex between (drop c.in-Some.end d) = grind arith in
    let behind : lex between (drop c.in-Some.end d) ≡ token end_object ∷ [] = rw (← same) c.in-End.ensures in
    let ts = punctuate l.invariant.1 (lex between (drop l.at d)) in
    let is : ts ≡ key k ∷ string v ∷ end_object ∷ [] = ap (punctuate l.invariant.1) (read ∙ ap (λ ls. token (string k) ∷ colon ∷ token (string v) ∷ ls) behind) ∙ last_punctuated l.invariant.1 k v l.invariant.2 in
    let long = ap length is in
    let inserted : members_view c.insert.new.self.entries ≡ put k (json_data.string v) old =
    ap members_view c.in_ok-insert.ensures.entries ∙ members_view-insert_entry l.found.entries c.in-Some.key _ ∙ ap (λ s. put k s old) (view-String c.in-Some.string) in
    l.invariant.5 ∙ string_member old l.invariant.0 k v ts (end_object ∷ []) (omega (arith, l.invariant.3, long)) is
    ∙ members_over (value 126) (put k (json_data.string v) old) (l.invariant.0 - 1) (end_object ∷ []) [] (omega (arith, l.invariant.3, long)) refl ∙ ap (λ ms. Some (ms, [])) (sym inserted)

pub returns-in-End-clause-texts : goal.returns-in-End-clause-texts
returns-in-End-clause-texts c =
    let l = c.members in
    let old = members_view l.found.entries in
    let k = string_bytes c.in-Some.key in
    let v = string_bytes c.in-Some.string in
    let inserted : members_view c.insert.new.self.entries ≡ put k (json_data.string v) old =
    ap members_view c.in_ok-insert.ensures.entries ∙ members_view-insert_entry l.found.entries c.in-Some.key _ ∙ ap (λ s. put k s old) (view-String c.in-Some.string) in
    ap shallow inserted ∙ shallow-put k (json_data.string v) old ∙ ap (put k (json_data.string v)) l.invariant.4 ∙ sym inserted
