-- Which request a path is.
use Rattle.std.specs.Prelude.{◌≡◌, ℕ, ◌&&◌, ◌==◌, nat_eq, nat_lt, List, [], ◌∷◌, Bool, length, take, drop, codes, if◌then◌else◌, Option, Some, None, option_and_then}
use Rattle.std.specs.Cmp.Lexicographic.{pointwise}
use Rattle.std.specs.Str.{bytes_eq, is_utf8}
use Rattle.http_routes.specs.declared.paths.Path.{Path}
use Rattle.http_routes.specs.declared.paths.Path.TheVariants as paths
use Rattle.http_routes.specs.declared.segments.Segments.{Segments}
use Rattle.http_routes.specs.declared.segments.Segments.TheVariants.{One, Three, Four, Other}

-- a byte before the first of these segments
abbrev pub onto_first : ℕ → List (List ℕ) → List (List ℕ)
onto_first b [] = (b ∷ []) ∷ []
onto_first b (s ∷ ss) = (b ∷ s) ∷ ss

-- what stands between the slashes, before the first and behind the last: one segment at least
abbrev pub segments : List ℕ → List (List ℕ)
segments [] = [] ∷ []
segments (b ∷ bs) = if b == 47 then [] ∷ segments bs else onto_first b (segments bs)

-- what stands behind this front, if the bytes have it
abbrev pub stripped : List ℕ → List ℕ → Option (List ℕ)
stripped front bytes = if pointwise nat_eq (take (length front) bytes) front then Some (drop (length front) bytes) else None

-- what a path stands for; those of a model and of a group name the owner and the item
pub data Place : Type 0 where
  ToRequest ToSchemas ToItems : Place
  ToModel ToFile ToGroup : List ℕ → List ℕ → Place

-- A segment that may be an owner or a name: not empty, and of UTF-8. What it names is asked of the repository.
abbrev pub is_named : List ℕ → Bool
is_named segment = nat_lt 0 (length segment) && is_utf8 segment

abbrev pub item_at : (List ℕ → List ℕ → Place) → List ℕ → List ℕ → Option Place
item_at make owner name = if is_named owner && is_named name then Some (make owner name) else None

-- /v1/requests, /v1/schemas, /v1/items
abbrev pub alone : List ℕ → Option Place
alone word =
    if bytes_eq word (codes "requests") then Some ToRequest else (
    if bytes_eq word (codes "schemas") then Some ToSchemas else (
    if bytes_eq word (codes "items") then Some ToItems else None))

-- /v1/models/{owner}/{name}, /v1/groups/{owner}/{name}
abbrev pub of_item : List ℕ → List ℕ → List ℕ → Option Place
of_item word owner name =
    if bytes_eq word (codes "models") then item_at ToModel owner name else (
    if bytes_eq word (codes "groups") then item_at ToGroup owner name else None)

-- /v1/models/{owner}/{name}/file
abbrev pub of_part : List ℕ → List ℕ → List ℕ → List ℕ → Option Place
of_part word owner name part = if bytes_eq word (codes "models") && bytes_eq part (codes "file") then item_at ToFile owner name else None

-- the table of paths, by what stands behind /v1/
abbrev pub place_of : List (List ℕ) → Option Place
place_of [] = None
place_of (word ∷ []) = alone word
place_of (word ∷ owner ∷ []) = None
place_of (word ∷ owner ∷ name ∷ []) = of_item word owner name
place_of (word ∷ owner ∷ name ∷ part ∷ []) = of_part word owner name part
place_of (word ∷ owner ∷ name ∷ part ∷ more ∷ segments) = None

-- what a target stands for: the whole of it is the path, as it is spelled
abbrev pub path_of : List ℕ → Option Place
path_of target = option_and_then (λ rest. place_of (segments rest)) (stripped (codes "/v1/") target)

-- the one method that a path has
abbrev pub method_of : Place → List ℕ
method_of ToRequest = codes "POST"
method_of ToSchemas = codes "GET"
method_of ToItems = codes "GET"
method_of (ToModel owner name) = codes "GET"
method_of (ToFile owner name) = codes "GET"
method_of (ToGroup owner name) = codes "GET"

-- a path that was lent, as the place that it is
abbrev pub place_in : Path → Place
place_in paths.Requests = ToRequest
place_in paths.Schemas = ToSchemas
place_in paths.Items = ToItems
place_in (paths.Model item) = ToModel item.owner.now item.name.now
place_in (paths.File item) = ToFile item.owner.now item.name.now
place_in (paths.Group item) = ToGroup item.owner.now item.name.now

-- the segments that were told apart are all of them
abbrev pub AreSegments : List (List ℕ) → Segments → Type 0
AreSegments all (One word) = all ≡ word.now ∷ []
AreSegments all (Three word owner name) = all ≡ word.now ∷ owner.now ∷ name.now ∷ []
AreSegments all (Four word owner name part) = all ≡ word.now ∷ owner.now ∷ name.now ∷ part.now ∷ []
AreSegments all Other = place_of all ≡ None
