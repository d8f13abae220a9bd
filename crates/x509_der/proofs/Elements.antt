-- The element at the front of bytes is the only one.
use Rattle.std.proofs.Common.{◌≡◌, ◌≢◌, ℕ, ◌<◌, List, ◌++◌, length, Ok, Err, sym, ap, ◌∙◌}
use Rattle.x509_der.specs.declared.error.ErrorKind.TheVariants.{Malformed}
use Rattle.x509_der.specs.declared.tag.Tag.{Tag}
use Rattle.x509_der.specs.Element.{element, limit}
use Rattle.x509_der.specs.ElementReading.{Piece, piece_at}
use Rattle.x509_der.specs.ElementLaws.{piece_at-element}
use Rattle.x509_der.specs.OutcomeLaws.{ok_is}
use Rattle.x509_der.specs.ContentLaws.{content_overlong}
use Rattle.x509_der.specs.Tag.{octet_of}
use Rattle.x509_der.specs.TagLaws.{tag_is_identifier}

at_front : (bytes : List ℕ) (tag : Tag) (content rest : List ℕ) → bytes ≡ element (octet_of tag) content ++ rest → piece_at bytes ≡ Ok (record { tag = octet_of tag; content = content; rest = rest })
at_front bytes tag content rest e = ap piece_at e ∙ piece_at-element (octet_of tag) content rest (tag_is_identifier tag)

pub no_element : (bytes : List ℕ) → piece_at bytes ≡ Err Malformed → (tag : Tag) (content rest : List ℕ) → bytes ≡ element (octet_of tag) content ++ rest → limit < length (element (octet_of tag) content)
no_element bytes h tag content rest e = absurd (let k = sym h ∙ at_front bytes tag content rest e in cc)

pub long_element : (bytes : List ℕ) (p : Piece) → piece_at bytes ≡ Ok p → 268435449 < length p.content → (tag : Tag) (content rest : List ℕ) → bytes ≡ element (octet_of tag) content ++ rest → limit < length (element (octet_of tag) content)
long_element bytes p h long tag content rest e =
    let front : Piece = record { tag = octet_of tag; content = content; rest = rest } in
    let same : p ≡ front = ok_is p front (sym h ∙ at_front bytes tag content rest e) in
    let is : p.content ≡ content = ap (λ (q : Piece). q.content) same in
    content_overlong content (rw (← is) long) (octet_of tag)

pub foreign_element : (bytes : List ℕ) (p : Piece) → piece_at bytes ≡ Ok p → ((tag : Tag) → octet_of tag ≢ p.tag) → (tag : Tag) (content rest : List ℕ) → bytes ≡ element (octet_of tag) content ++ rest → limit < length (element (octet_of tag) content)
foreign_element bytes p h foreign tag content rest e =
    let front : Piece = record { tag = octet_of tag; content = content; rest = rest } in
    let same : p ≡ front = ok_is p front (sym h ∙ at_front bytes tag content rest e) in
    let is : octet_of tag ≡ p.tag = sym (ap (λ (q : Piece). q.tag) same) in
    absurd (foreign tag is)
