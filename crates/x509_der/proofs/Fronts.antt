-- The header in front of the content of an element that is all there is.
use Rattle.std.proofs.Common.{◌≡◌, ◌≢◌, ◌-◌, ◌<◌, ◌≤◌, ℕ, List, [], ◌∷◌, ◌++◌, length, drop, refl, sym, ap, ◌∙◌, arith, append-nil, length-append}
use Rattle.std.proofs.lemmas.List.{drop_at}
use Rattle.x509_der.specs.Element.{element, length_octets, limit}
use Rattle.x509_der.specs.FrontLaws.{elements}
use Rattle.x509_der.specs.Tag.{octet_of}
use Rattle.x509_der.specs.declared.tag.Tag.{Tag}
use Rattle.x509_der.specs.declared.any.Any.{Any}

pub content_within : (bytes : List ℕ) (tag : ℕ) (content rest : List ℕ) → bytes ≡ element tag content ++ rest → length content ≤ length bytes
unfolding element
content_within bytes tag content rest e = omega (arith, ap length e, length-append (element tag content) rest, length-append (length_octets (length content)) content)

pub nothing_behind : (bytes : List ℕ) (tag : ℕ) (content rest : List ℕ) → bytes ≡ element tag content ++ rest → length rest ≡ 0 → bytes ≡ element tag content
nothing_behind bytes tag content [] e none = e ∙ append-nil (element tag content)
nothing_behind bytes tag content (byte ∷ rest) e none = absurd (omega arith)

-- without its header
pub without_header : (bytes : List ℕ) (tag : ℕ) (content : List ℕ) → bytes ≡ element tag content → drop (length bytes - length content) bytes ≡ content
unfolding element
without_header bytes tag content e =
    let front : List ℕ = tag ∷ length_octets (length content) in
    let count : length bytes - length content ≡ length front = omega (arith, ap length e, length-append (length_octets (length content)) content) in
    (λ i. drop (count i) (e i)) ∙ drop_at front content (length front) refl

pub something_behind : (bytes : List ℕ) (tag : ℕ) (content rest : List ℕ) → bytes ≡ element tag content ++ rest → length rest ≢ 0 → (any : Any) → bytes ≢ element (octet_of any.tag) any.value
something_behind bytes tag content rest e some any is =
    let same = elements tag (octet_of any.tag) content any.value rest [] (sym e ∙ is ∙ sym (append-nil (element (octet_of any.tag) any.value))) in
    some (ap length same.2)

pub no_front : (bytes : List ℕ) → ((tag : Tag) (content rest : List ℕ) → bytes ≡ element (octet_of tag) content ++ rest → limit < length (element (octet_of tag) content)) → length bytes ≤ limit → (any : Any) → bytes ≢ element (octet_of any.tag) any.value
no_front bytes none within any is =
    let long = none any.tag any.value [] (is ∙ sym (append-nil (element (octet_of any.tag) any.value))) in
    absurd (omega (arith, ap length is))
