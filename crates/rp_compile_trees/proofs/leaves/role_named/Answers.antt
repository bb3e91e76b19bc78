use Rattle.std.proofs.Common.{◌≡◌, ℕ, suc, ◌<◌, ◌==◌, Bool, true, false, List, [], ◌∷◌, Option, Some, length, drop, get_or, drop-cons, arith, refl, sym, ◌∙◌, ap}
use Rattle.std.specs.List.{find}
use Rattle.std.specs.Option.{option_map}
use Rattle.std.specs.Str.{bytes_eq}
use Rattle.rp_meaning.specs.CompiledExpressions.{role_named}
use Rattle.rp_code.specs.declared.role.NamedRole.{NamedRole}
use Rattle.rp_compile_trees.proofs.leaves.role_named.Goals as goal

abbrev is : List ℕ → NamedRole → Bool
is name x = bytes_eq x.name name

named : (roles : List NamedRole) (name : List ℕ) → (length name == 0) ≡ false → role_named roles name ≡ option_map (λ x. x.role) (find (is name) roles)
named roles [] h = absurd (cc)
named roles (byte ∷ bytes) h = refl

first : (roles : List NamedRole) (name : List ℕ) (i : ℕ) (x : NamedRole) → i < length roles → x ≡ get_or roles i x → is name x ≡ true → find (is name) (drop i roles) ≡ Some x
first roles name i x h read same = rw (drop-cons roles i x h ∙ ap (λ y. y ∷ drop (suc i) roles) (sym read)) (rw same refl)

pub returns-then-eq : goal.returns-then-eq
returns-then-eq c =
    let some : (length c.args.name.now == 0) ≡ false = sym c.is_empty.ensures ∙ c.if-is_empty.false in
    let same : is c.args.name.now c.role-item.result ≡ true = cc in
    let found : find (is c.args.name.now) c.args.roles.now ≡ Some c.role-item.result =
    sym c.loop-role.invariant ∙ first c.args.roles.now c.args.name.now c.loop-role.role-index c.role-item.result (omega arith) c.role-item.is same in
    ap Some c.in_ok-copied_role.ensures ∙ sym (named c.args.roles.now c.args.name.now some ∙ ap (option_map (λ x. x.role)) found)
