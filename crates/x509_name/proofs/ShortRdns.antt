-- RDNs of one attribute with a type of three octets, whose lengths have one octet each.
use Rattle.std.proofs.Common.{◌≡◌, ◌+◌, ◌-◌, ◌<◌, ◌≤◌, ℕ, List, [], ◌∷◌, ◌++◌, length, take, drop, get_or, Ok, refl, sym, ◌∙◌, arith, append-nil, length-drop}
use Rattle.std.proofs.lemmas.Bool.{lt-ltb}
use Rattle.std.proofs.lemmas.List.{take_all}
use Rattle.std.specs.List.Sorted.{IsStrictlySortedBy}
use Rattle.x509_der.specs.declared.any.Any.{Any}
use Rattle.x509_der.specs.Any.{any_lawful, any_reading}
use Rattle.x509_der.specs.Element.{element, length_octets}
use Rattle.x509_der.specs.Form.{spelling}
use Rattle.x509_der.specs.Frames.{fields_good, fields_octets}
use Rattle.x509_der.specs.List.{all_good, joined}
use Rattle.x509_der.specs.ObjectIdentifierForm.{IsContentOfArcs}
use Rattle.x509_der.specs.Set.{set_good}
use Rattle.x509_der.specs.Tag.{octet_of}
use Rattle.x509_name.specs.Names.{attribute_set, attribute_set_lawful, relative_distinguished_name}
use Rattle.x509_name.specs.TypeAndValue.{attribute_type_and_value, type_and_value_cmp, type_and_value_fields}
use Rattle.x509_name.specs.declared.attr.type_and_value.AttributeTypeAndValue.{AttributeTypeAndValue}

-- ---- elements

short : (t n : ℕ) (content : List ℕ) → n ≡ length content → n < 128 → element t content ≡ t ∷ n ∷ content
unfolding element length_octets
short t n content e lt = rw (← e, lt-ltb n 128 lt) refl

short_attribute : (a b c t n len : ℕ) (content : List ℕ) → n ≡ length content → len ≡ length content + 7 → len < 128
    → element 48 (element 6 (a ∷ b ∷ c ∷ []) ++ element t content) ≡ 48 ∷ len ∷ 6 ∷ 3 ∷ a ∷ b ∷ c ∷ t ∷ n ∷ content
short_attribute a b c t n len content e f lt =
    let value : element t content ≡ t ∷ n ∷ content = short t n content e (omega (arith, e, f, lt)) in
    let oid : element 6 (a ∷ b ∷ c ∷ []) ≡ 6 ∷ 3 ∷ a ∷ b ∷ c ∷ [] = short 6 3 (a ∷ b ∷ c ∷ []) refl (omega arith) in
    rw (value, oid) (short 48 len (6 ∷ 3 ∷ a ∷ b ∷ c ∷ t ∷ n ∷ content) (omega (arith, f)) lt)

-- what stands in front of the content of the value
abbrev pub headers : ℕ → ℕ → ℕ → ℕ → ℕ → List ℕ
headers a b c t n = 49 ∷ (n + 9) ∷ 48 ∷ (n + 7) ∷ 6 ∷ 3 ∷ a ∷ b ∷ c ∷ t ∷ n ∷ []

pub short_rdn : (a b c t n : ℕ) (content : List ℕ) → n ≡ length content → n < 119
    → element 49 (element 48 (element 6 (a ∷ b ∷ c ∷ []) ++ element t content)) ≡ headers a b c t n ++ content
short_rdn a b c t n content e lt =
    rw (short_attribute a b c t n (n + 7) content e (omega (arith, e)) (omega (arith, lt))) (short 49 (n + 9) (48 ∷ (n + 7) ∷ 6 ∷ 3 ∷ a ∷ b ∷ c ∷ t ∷ n ∷ content) (omega (arith, e)) (omega (arith, lt)))

-- ---- the one attribute

one_text : (attribute : AttributeTypeAndValue) → joined (spelling attribute_type_and_value) (attribute ∷ []) ≡ element 48 (element 6 attribute.oid ++ element (octet_of attribute.value.tag) attribute.value.value)
unfolding joined fields_octets type_and_value_fields
one_text attribute = append-nil (element 48 (element 6 attribute.oid ++ element (octet_of attribute.value.tag) attribute.value.value))

one_good : (attribute : AttributeTypeAndValue) → IsContentOfArcs attribute.oid → set_good type_and_value_cmp attribute_type_and_value.good (attribute ∷ [])
unfolding set_good all_good fields_good type_and_value_fields IsStrictlySortedBy
one_good attribute arcs = (((arcs, tt), tt), (tt, tt))

pub short_read : (a b c t n len : ℕ) (oid content : List ℕ) (value : Any) → n ≡ length content → len ≡ length content + 7 → len < 128 → oid ≡ a ∷ b ∷ c ∷ [] → IsContentOfArcs (a ∷ b ∷ c ∷ []) → any_reading t content ≡ Ok value
    → attribute_set.reading (48 ∷ len ∷ 6 ∷ 3 ∷ a ∷ b ∷ c ∷ t ∷ n ∷ content) ≡ Ok (record { oid = oid; value = value } ∷ [])
short_read a b c t n len oid content value e f lt is arcs r =
    let attribute : AttributeTypeAndValue = record { oid = a ∷ b ∷ c ∷ []; value = value } in
    let same = (any_lawful {R = λ e. ⊥}).sound t content value r in
    let text : joined (spelling attribute_type_and_value) (attribute ∷ []) ≡ 48 ∷ len ∷ 6 ∷ 3 ∷ a ∷ b ∷ c ∷ t ∷ n ∷ content = rw (one_text attribute, ← same.1, ← same.2) (short_attribute a b c t n len content e f lt) in
    rw (is, ← text) ((attribute_set_lawful {R = λ e. ⊥}).complete (attribute ∷ []) (one_good attribute arcs))

-- ---- octets, as they are read

front : (xs : List ℕ) → 9 ≤ length xs → xs ≡ get_or xs 0 0 ∷ get_or xs 1 0 ∷ get_or xs 2 0 ∷ get_or xs 3 0 ∷ get_or xs 4 0 ∷ get_or xs 5 0 ∷ get_or xs 6 0 ∷ get_or xs 7 0 ∷ get_or xs 8 0 ∷ drop 9 xs
front [] p = absurd (omega arith)
front (a ∷ []) p = absurd (omega arith)
front (a ∷ b ∷ []) p = absurd (omega arith)
front (a ∷ b ∷ c ∷ []) p = absurd (omega arith)
front (a ∷ b ∷ c ∷ d ∷ []) p = absurd (omega arith)
front (a ∷ b ∷ c ∷ d ∷ e ∷ []) p = absurd (omega arith)
front (a ∷ b ∷ c ∷ d ∷ e ∷ f ∷ []) p = absurd (omega arith)
front (a ∷ b ∷ c ∷ d ∷ e ∷ f ∷ g ∷ []) p = absurd (omega arith)
front (a ∷ b ∷ c ∷ d ∷ e ∷ f ∷ g ∷ h ∷ []) p = absurd (omega arith)
front (a ∷ b ∷ c ∷ d ∷ e ∷ f ∷ g ∷ h ∷ i ∷ xs) p = refl

pub short_octets : (xs : List ℕ) → 9 ≤ length xs → get_or xs 0 0 ≡ 48 → get_or xs 2 0 ≡ 6 → get_or xs 3 0 ≡ 3
    → xs ≡ 48 ∷ get_or xs 1 0 ∷ 6 ∷ 3 ∷ get_or xs 4 0 ∷ get_or xs 5 0 ∷ get_or xs 6 0 ∷ get_or xs 7 0 ∷ get_or xs 8 0 ∷ take (length xs - 9) (drop 9 xs)
short_octets xs p s t u =
    let all : take (length xs - 9) (drop 9 xs) ≡ drop 9 xs = take_all (length xs - 9) (drop 9 xs) (omega (arith, length-drop 9 xs)) in
    front xs p ∙ (λ i. s i ∷ get_or xs 1 0 ∷ t i ∷ u i ∷ get_or xs 4 0 ∷ get_or xs 5 0 ∷ get_or xs 6 0 ∷ get_or xs 7 0 ∷ get_or xs 8 0 ∷ sym all i)

-- ---- one attribute, as it is written

one_of : (xs : List AttributeTypeAndValue) (x : AttributeTypeAndValue) → 1 ≤ length xs → length xs < 2 → x ≡ get_or xs 0 x → xs ≡ x ∷ []
one_of [] x p q e = absurd (omega arith)
one_of (y ∷ []) x p q e = rw e refl
one_of (y ∷ z ∷ xs) x p q e = absurd (omega arith)

three_of : (xs : List ℕ) → 3 ≤ length xs → length xs < 4 → xs ≡ get_or xs 0 0 ∷ get_or xs 1 0 ∷ get_or xs 2 0 ∷ []
three_of [] p q = absurd (omega arith)
three_of (a ∷ []) p q = absurd (omega arith)
three_of (a ∷ b ∷ []) p q = absurd (omega arith)
three_of (a ∷ b ∷ c ∷ []) p q = refl
three_of (a ∷ b ∷ c ∷ d ∷ xs) p q = absurd (omega arith)

pub short_spelling : (rdn xs : List AttributeTypeAndValue) (attribute : AttributeTypeAndValue) (oid content : List ℕ) (t : ℕ) → xs ≡ rdn → 1 ≤ length xs → length xs < 2 → attribute ≡ get_or xs 0 attribute
    → oid ≡ attribute.oid → 3 ≤ length oid → length oid < 4 → t ≡ octet_of attribute.value.tag → content ≡ attribute.value.value
    → spelling relative_distinguished_name rdn ≡ element 49 (element 48 (element 6 (get_or oid 0 0 ∷ get_or oid 1 0 ∷ get_or oid 2 0 ∷ []) ++ element t content))
short_spelling rdn xs attribute oid content t same p q e type r s tag value = rw (← same, one_of xs attribute p q e, one_text attribute, ← type, ← three_of oid r s, tag, value) refl
