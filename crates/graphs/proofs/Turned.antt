-- The graph turned round: what is above in the one is below in the other.
use Rattle.std.proofs.Common.{◌≡◌, ℕ, zero, suc, ◌<◌, ◌↔◌, Bool, true, false, ◌&&◌, nat_lt, List, length, refl, sym, ◌∙◌, arith}
use Rattle.std.proofs.lemmas.Bool.Decides.{nat_tests}
use Rattle.plain_data.specs.Numbers.{is_among}
use Rattle.graphs.specs.Graphs.{supertypes, Reaches, IsAncestor, is_ancestor}
use Rattle.graphs.proofs.Bounded.{is_member, answer_is}
use Rattle.graphs.proofs.Search.{ancestor_above, ancestor_direct}

module _ (graph below : List (List ℕ)) (turned : (d e : ℕ) → is_among (supertypes below d) e ≡ (nat_lt d (length graph) && is_among (supertypes graph e) d)) where
  second : (a b : Bool) → (a && b) ≡ true → b ≡ true
  second true b h = h
  second false b h = cc

  is_above : (n d e : ℕ) → Reaches below n d e → IsAncestor graph e d
  is_above zero d e reaches = ancestor_direct graph e d (second _ _ (sym (turned d e) ∙ reaches))
  is_above (suc n) d e reaches = ancestor_above graph e reaches.0 d (is_above n reaches.0 e reaches.1.1) (second _ _ (sym (turned d reaches.0) ∙ reaches.1.0))

  starts : (n m d : ℕ) → Reaches graph n m d → m < length graph
  starts zero m d reaches = is_member graph m d reaches
  starts (suc n) m d reaches = is_member graph m reaches.0 reaches.1.0

  listed : (m e : ℕ) → m < length graph → is_among (supertypes graph e) m ≡ true → is_among (supertypes below m) e ≡ true
  listed m e within there =
      let inside : nat_lt m (length graph) ≡ true = grind (arith, nat_tests) in
      turned m e ∙ rw (inside, there) refl

  is_below : (n d e : ℕ) → d < length graph → Reaches graph n e d → IsAncestor below d e
  is_below zero d e within reaches = ancestor_direct below d e (listed d e within reaches)
  is_below (suc n) d e within reaches =
      let m = reaches.0 in
      ancestor_above below d m e (is_below n d m within reaches.1.1) (listed m e (starts n m d reaches.1.1) reaches.1.0)

  -- the ancestors in the one are the members below in the other
  pub turned_exact : (d e : ℕ) → d < length graph → IsAncestor below d e ↔ IsAncestor graph e d
  turned_exact d e within = ((λ above. is_above above.0 d e above.1), (λ ancestor. is_below ancestor.0 d e within ancestor.1))

  -- an answer that is right in the one is right in the other
  pub under_is : (d e : ℕ) → d < length graph → (b : Bool) → (b ≡ true) ↔ IsAncestor below d e → b ≡ is_ancestor graph e d
  under_is d e within b right =
      let turn = turned_exact d e within in
      answer_is graph e d b ((λ h. turn.0 (right.0 h)), (λ ancestor. right.1 (turn.1 ancestor)))
