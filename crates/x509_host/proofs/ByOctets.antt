-- A host, octet by octet.
use Rattle.std.proofs.Common.{◌≡◌, ◌==◌, ◌&&◌, ℕ, Bool, true, false, List, [], ◌∷◌, length, refl, ap, ◌∙◌, if◌then◌else◌}
use Rattle.std.specs.List.{list_all, onto_first}
use Rattle.x509_host.specs.Host.{dot, is_host, is_label, is_label_octet, labels_of}

-- labels with dots between them, none of which is empty; begun says that octets of a label stand in front
abbrev pub are_labels : Bool → List ℕ → Bool
are_labels begun [] = begun
are_labels begun (c ∷ rest) = if c == dot then (begun && are_labels false rest) else (is_label_octet c && are_labels true rest)

-- the same of labels: where octets stand in front of the first, it may be empty
abbrev all_labels : Bool → List (List ℕ) → Bool
all_labels false labels = list_all is_label labels
all_labels true [] = true
all_labels true (label ∷ labels) = list_all is_label_octet label && list_all is_label labels

and_assoc : (a b c : Bool) → ((a && b) && c) ≡ (a && (b && c))
and_assoc true b c = refl
and_assoc false b c = refl

one_more : (begun : Bool) (c : ℕ) (labels : List (List ℕ)) → all_labels begun (onto_first c labels) ≡ (is_label_octet c && all_labels true labels)
one_more true c [] = and_assoc (is_label_octet c) true true
one_more false c [] = and_assoc (is_label_octet c) true true
one_more true c (label ∷ labels) = and_assoc (is_label_octet c) (list_all is_label_octet label) (list_all is_label labels)
one_more false c (label ∷ labels) = and_assoc (is_label_octet c) (list_all is_label_octet label) (list_all is_label labels)

step : (begun b : Bool) (c : ℕ) (rest : List ℕ) → (c == dot) ≡ b → ((some : Bool) → all_labels some (labels_of rest) ≡ are_labels some rest) →
    all_labels begun (labels_of (c ∷ rest)) ≡ are_labels begun (c ∷ rest)
step true true c rest is behind = rw is (behind false)
step false true c rest is behind = rw is refl
step begun false c rest is behind = rw is (one_more begun c (labels_of rest) ∙ ap (λ b. is_label_octet c && b) (behind true))

by_octets : (octets : List ℕ) (begun : Bool) → all_labels begun (labels_of octets) ≡ are_labels begun octets
by_octets [] true = refl
by_octets [] false = refl
by_octets (c ∷ rest) begun = step begun (c == dot) c rest refl (by_octets rest)

pub host_by_octets : (octets : List ℕ) → is_host octets ≡ are_labels false octets
host_by_octets octets = by_octets octets false

pub at_end : (begun : Bool) (left : List ℕ) → length left ≡ 0 → begun ≡ are_labels begun left
at_end begun [] none = refl
at_end begun (c ∷ left) none = absurd cc
