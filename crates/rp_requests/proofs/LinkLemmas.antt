-- Links as they are read, one after another.
use Rattle.std.proofs.Common.{◌≡◌, List, [], ◌∷◌, ◌++◌, Option, Some, None, option_map, option_and_then, refl, ap, sym, append_assoc, append-nil}
use Rattle.json.specs.Token as spec
use Rattle.json.specs.Json.{parse_map}
use Rattle.serde_json.specs.Data.{Data, Items, no_items, item}
use Rattle.rp_content.specs.declared.link.Link.{Link}
use Rattle.rp_requests.specs.Asks.{link_of, links_of}

-- ---- the items of a list

-- the links that were found, and what is made of the rest
abbrev pub behind : Option (List Link) → Option (List Link) → Option (List Link)
behind found rest = option_and_then (λ links. option_map (λ more. links ++ more) rest) found

-- one more, if it is a link
abbrev pub one_more : Option (List Link) → Option Link → Option (List Link)
one_more found link = option_and_then (λ links. option_map (λ l. links ++ l ∷ []) link) found

turn : (found : Option (List Link)) (link : Option Link) (rest : Option (List Link)) → behind found (option_and_then (λ l. option_map (λ links. l ∷ links) rest) link) ≡ behind (one_more found link) rest
turn None link rest = refl
turn (Some links) None rest = refl
turn (Some links) (Some l) None = refl
turn (Some links) (Some l) (Some more) = ap Some (sym (append_assoc links (l ∷ []) more))

pub item_linked : (found next : Option (List Link)) (d : Data) (read : Option (Items × List spec.Token)) → next ≡ one_more found (link_of d)
    → parse_map (λ ds. behind found (links_of ds)) (parse_map (item d) read) ≡ parse_map (λ ds. behind next (links_of ds)) read
item_linked found next d None is = refl
item_linked found next d (Some p) is = rw is (ap (λ o. Some (o, p.1)) (turn found (link_of d) (links_of p.0)))

behind_none : (rest : Option (List Link)) → rest ≡ behind (Some []) rest
behind_none None = refl
behind_none (Some links) = refl

pub first_linked : (links : List Link) (read : Option (Items × List spec.Token)) → links ≡ [] → parse_map links_of read ≡ parse_map (λ ds. behind (Some links) (links_of ds)) read
first_linked links None none = refl
first_linked links (Some p) none = rw none (ap (λ o. Some (o, p.1)) (behind_none (links_of p.0)))

pub behind_all : (found : Option (List Link)) → behind found (links_of no_items) ≡ found
behind_all None = refl
behind_all (Some links) = ap Some (append-nil links)
