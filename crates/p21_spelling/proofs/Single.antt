-- One instance by itself is read again.
use Rattle.std.proofs.Common.{◌≡◌, ℕ, true, List, [], Ok, sym, ◌∙◌, ap, append-nil}
use Rattle.text_forms.specs.Forms.{pure}
use Rattle.p21_lexemes.specs.Tokens.{lexemes, finish}
use Rattle.p21_tree.specs.declared.instance.Mapping.{Mapping}
use Rattle.p21_grammar.specs.Grammar.{mapping_form}
use Rattle.p21_grammar.specs.File.{tree_of}
use Rattle.p21_read.specs.Single.{single, mapping_of}
use Rattle.p21_spelling.specs.Instances.{mapping_text, is_mapping}
use Rattle.p21_spelling.specs.Again.{Again}
use Rattle.p21_spelling.proofs.Steps.{done, first_then, also, respelled}
use Rattle.p21_spelling.proofs.Lines.{mapping_again}
use Rattle.p21_spelling.proofs.Files.{nothing_left}
use Rattle.p21_spelling.proofs.Found.{are_tokens}
use Rattle.p21_spelling.proofs.Gives.{Gives, gives_then, gives_after, gives_pure, gives_finish}
use Rattle.p21_spelling.proofs.WellSpelled.{IsMapping, mapping_gives, of_tree}

single_again : (m : Mapping) → is_mapping m ≡ true → Again single (mapping_text m) m 0 []
unfolding single
single_again m good =
    let t = mapping_text m in
    let one = mapping_again m good 0 [] in
    let two = nothing_left one.to in
    respelled (sym (append-nil t)) (first_then t [] [] _ m one (also [] [] [] (λ _. pure m) m two (done m two.to [])))

-- what is spelled of a mapping is read again
pub mapping_of_again : (m : Mapping) → is_mapping m ≡ true → mapping_of (mapping_text m) ≡ Ok m
mapping_of_again m good =
    ap (λ l. tree_of (single (lexemes 0 l))) (sym (append-nil (mapping_text m))) ∙ ap tree_of (single_again m good).reads

single_gives : Gives single IsMapping
unfolding single
single_gives =
    gives_then mapping_form _ IsMapping IsMapping mapping_gives (λ m good.
    gives_after finish (λ _. pure m) IsMapping gives_finish (λ _. gives_pure m IsMapping good))

-- what is read is well spelled
pub mapping_of_is : (m : Mapping) (text : List ℕ) → mapping_of text ≡ Ok m → is_mapping m ≡ true
mapping_of_is m text e = of_tree IsMapping (single (lexemes 0 text)) m (λ after is. (single_gives (lexemes 0 text) after m (are_tokens 0 text) is).0) e
