-- Texts that come out of an element.
use Rattle.std.specs.Prelude.{◌≡◌, ◌≢◌, ◌<◌, ◌⊎◌, ℕ, Bool, true, false, List, length, Result, MatchResult}
use Rattle.x509_der.specs.declared.error.Error.{Error}
use Rattle.x509_der.specs.declared.error.ErrorKind.TheVariants.{Malformed, Memory}
use Rattle.x509_der.specs.Tag.{octet_of}
use Rattle.x509_der.specs.declared.tag.Tag.{Tag}
use Rattle.x509_der.specs.declared.any.Any.{Any}

-- The answer on an element, by its identifier and its content: the content as a text, exactly where the identifier is the
-- type's and the content is a text of the type; else Malformed.
abbrev pub BorrowsText : {X : Type 0} → (X → List ℕ) → Tag → (List ℕ → Bool) → Tag → List ℕ → Result X Error → Type 0
BorrowsText text_of wanted is_text tag content answer = MatchResult answer
    (λ string. (octet_of tag ≡ octet_of wanted) × (is_text content ≡ true) × (text_of string ≡ content))
    (λ e. (e.kind ≡ Malformed) × ((octet_of tag ≢ octet_of wanted) ⊎ (is_text content ≡ false)))

-- the same on an element that is not looked into
abbrev pub BorrowsTextFrom : {X : Type 0} → (X → List ℕ) → Tag → (List ℕ → Bool) → Any → Result X Error → Type 0
BorrowsTextFrom text_of wanted is_text any answer = BorrowsText text_of wanted is_text any.tag any.value answer

-- The element is copied as a text; more than 24 octets take memory, which may be refused.
abbrev pub CopiesTextFrom : Tag → (List ℕ → Bool) → Any → Result (List ℕ) Error → Type 0
CopiesTextFrom wanted is_text any answer = MatchResult answer
    (λ string. (octet_of any.tag ≡ octet_of wanted) × (is_text any.value ≡ true) × (string ≡ any.value))
    (λ e. ((e.kind ≡ Memory) × (octet_of any.tag ≡ octet_of wanted) × (is_text any.value ≡ true) × (24 < length any.value)) ⊎ ((e.kind ≡ Malformed) × ((octet_of any.tag ≢ octet_of wanted) ⊎ (is_text any.value ≡ false))))
