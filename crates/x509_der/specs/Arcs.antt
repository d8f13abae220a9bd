-- An object identifier: its arcs, their content octets (X.690 8.19) and their dotted text.
use Rattle.std.specs.Prelude.{ℕ, ◌+◌, ◌*◌, ◌/◌, ◌%◌, ◌<◌, ◌≤◌, List, [], ◌∷◌, ◌++◌, map, length}
use Rattle.std.specs.Fmt.{decimal}
use Rattle.std.specs.Int.Digits.{digits_of}
use Rattle.std.specs.List.{flat_map, join_with_byte, AllByRecursion}

-- digits that others follow: an octet each, with its high bit set
abbrev pub high_octets : List ℕ → List ℕ
high_octets digits = map (λ digit. 128 + digit) digits

-- The octets of a subidentifier: its digits in base 128, most significant first and as few as there can be, with the
-- high bit set on all but the last (X.690 8.19.2).
unfoldable pub subidentifier : ℕ → List ℕ
subidentifier n = high_octets (digits_of 128 (n / 128)) ++ (n % 128) ∷ []

-- the first subidentifier stands for the first two arcs (X.690 8.19.4)
abbrev pub first_subidentifier : ℕ → ℕ → ℕ
first_subidentifier first second = 40 * first + second

-- each further arc is a subidentifier of its own (X.690 8.19.3)
abbrev pub subidentifiers : List ℕ → List ℕ
subidentifiers [] = []
subidentifiers (first ∷ []) = []
subidentifiers (first ∷ second ∷ arcs) = (first_subidentifier first second) ∷ arcs

-- the content octets: those of the subidentifiers, one after the other (X.690 8.19.2)
abbrev pub content_of : List ℕ → List ℕ
content_of arcs = flat_map subidentifier (subidentifiers arcs)

-- At least two arcs, of which the first is 0, 1 or 2, and the second at most 39 under 0 and 1 (X.690 8.19.4).
abbrev pub BeginAsArcs : List ℕ → Type 0
BeginAsArcs [] = ⊥
BeginAsArcs (first ∷ []) = ⊥
BeginAsArcs (first ∷ second ∷ arcs) = (first ≤ 2) × (first < 2 → second ≤ 39)

-- the largest subidentifier here, and the most content octets
abbrev pub subidentifier_limit : ℕ
subidentifier_limit = 4294967295

abbrev pub content_limit : ℕ
content_limit = 39

-- each is at most the largest subidentifier
abbrev pub AreSmall : List ℕ → Type 0
AreSmall ns = AllByRecursion (λ n. n ≤ subidentifier_limit) ns

-- the arcs of an object identifier within these limits
pub record AreArcs (arcs : List ℕ) : Type 0 where
  pub begin : BeginAsArcs arcs
  pub small : AreSmall (subidentifiers arcs)
  pub short : length (content_of arcs) ≤ content_limit

-- the decimal digits of each arc, joined by full stops
unfoldable pub dotted : List ℕ → List ℕ
dotted arcs = join_with_byte 46 (map decimal arcs)
