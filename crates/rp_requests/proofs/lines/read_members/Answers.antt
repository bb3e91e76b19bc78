use Rattle.std.proofs.Common.{◌≡◌, ◌-◌, length, Some, string_bytes, refl, sym, ap, ap₂, ◌∙◌, arith, rules}
use Rattle.json.specs.Json.{read_key, parse_map, value}
use Rattle.json.proofs.Grammar.{read_key-shorter}
use Rattle.serde_json.specs.Data.{no_members, put}
use Rattle.serde_json.specs.Read.{of_json, converted}
use Rattle.serde_json.specs.View.{view, members_view}
use Rattle.serde_json.proofs.Views.{members_view-insert_entry}
use Rattle.shallow_json.proofs.Reading.{member_read, member_refused, key_refused, members_over}
use Rattle.shallow_json.proofs.Shallow.{shallow-put, mapped_some}
use Rattle.rp_requests.specs.Kept.{lists_at, kept_at, kept}
use Rattle.rp_requests.proofs.KeptLemmas.{lists_in-put}
use Rattle.rp_requests.proofs.lines.read_members.Goals as goal

pub members-init : goal.members-init
members-init c = (length c.args.reader.now, no_members, omega arith, ap members_view (sym c.new-found.ensures.empty), search rules, refl)

pub returns-in_err-name-clause-bad : goal.returns-in_err-name-clause-bad
returns-in_err-name-clause-bad c never =
    let l = c.members in
    l.invariant.5 ∙ key_refused (value 126) l.invariant.1 l.invariant.0 l.reader c.in_err-name.ensures.value

pub returns-in_err-member-clause-bad : goal.returns-in_err-member-clause-bad
returns-in_err-member-clause-bad c refused =
    let l = c.members in
    let k = c.in-Some.name.now in
    let s = c.next_key.new.self in
    let named : read_key l.reader ≡ Some (Some k, s) = grind arith in
    l.invariant.5 ∙ member_refused (value 126) l.invariant.1 l.invariant.0 k l.reader s named (c.read_at.ensures.bad (grind arith))

pub members-preserved : goal.members-preserved
members-preserved c =
    let p = value 126 in
    let l = c.members in
    let n = l.invariant.0 in
    let old = l.invariant.1 in
    let k = c.in-Some.name.now in
    let s = c.next_key.new.self in
    let named : read_key l.reader ≡ Some (Some k, s) = grind arith in
    let done = c.in_ok-member.ensures in
    let v = c.in_ok-member.member in
    let r = c.read_at.new.reader in
    let less = read_key-shorter l.reader (Some k) s named in
    let lesser = done.shorter in
    let d = mapped_some (kept_at k l.lists) (converted of_json (p s)) (view v, c.read_at.new.lists) r done.ok in
    let copied : string_bytes c.in_ok-key.key ≡ k = search rules in
    let inserted : members_view c.insert.new.self.entries ≡ put k (view v) (members_view l.found.entries) =
    ap members_view c.in_ok-insert.ensures.entries ∙ members_view-insert_entry l.found.entries c.in_ok-key.key v ∙ ap (λ name. put name (view v) (members_view l.found.entries)) copied in
    let seen = ap (λ q. q.0) d.2 in
    let linked : lists_at k d.0 l.lists ≡ c.read_at.new.lists = ap (λ q. q.1) d.2 in (
      n - 1,
      put k d.0 old,
      omega (arith, l.invariant.2),
      shallow-put k d.0 old ∙ ap₂ (put k) seen l.invariant.3 ∙ sym inserted,
      lists_in-put k d.0 old ∙ ap (lists_at k d.0) l.invariant.4 ∙ linked,
      l.invariant.5 ∙ member_read p old n k l.reader s r d.0 (omega (arith, l.invariant.2)) named d.1,
    )

pub returns-clause-ok : goal.returns-clause-ok
returns-clause-ok c =
    let l = c.members in
    let r = c.next_key.new.self in
    ap (parse_map kept) (l.invariant.5 ∙ members_over (value 126) l.invariant.1 l.invariant.0 l.reader r l.invariant.2 (grind arith))
    ∙ ap₂ (λ ms lists. Some ((ms, lists), r)) l.invariant.3 l.invariant.4
