-- OBJECT IDENTIFIER, as its content octets (X.690 8.19).
use Rattle.std.specs.Prelude.{◌≡◌, ℕ, true, List, Result, Ok, Err, if◌then◌else◌, refl}
use Rattle.std.proofs.Common.{inl, inr, sym}
use Rattle.x509_der.specs.declared.error.ErrorKind.{ErrorKind}
use Rattle.x509_der.specs.declared.error.ErrorKind.TheVariants.{Malformed}
use Rattle.x509_der.specs.declared.tag.Tag.TheVariants.{ObjectIdentifier}
use Rattle.x509_der.specs.Form.{Form, IsForm, Contents, IsContents, universal}
use Rattle.x509_der.specs.FormLaws.{universal_lawful}
use Rattle.x509_der.specs.OutcomeLaws.{ok_is, test_ok, test_err}
use Rattle.x509_der.specs.Writing.{Written}
use Rattle.x509_der.specs.Order.{IsOrder}
use Rattle.x509_der.specs.Ordered.{by_bytes, by_bytes_lawful}
use Rattle.x509_der.specs.Arcs.{AreArcs, content_of}
use Rattle.x509_der.specs.ArcLaws.{content_of-arcs_of, content_of-passes}
use Rattle.x509_der.specs.ObjectIdentifier.{is_object_identifier, arcs_of}

-- the octets are the content of arcs
abbrev pub IsContentOfArcs : List ℕ → Type 0
IsContentOfArcs content = (arcs : List ℕ) × AreArcs arcs × (content ≡ content_of arcs)

unfoldable pub object_identifier_reading : List ℕ → Result (List ℕ) ErrorKind
object_identifier_reading bytes = if is_object_identifier bytes then Ok bytes else Err Malformed

abbrev pub object_identifier_contents : Contents (List ℕ)
object_identifier_contents = record { octets = λ content. content; good = IsContentOfArcs; reading = object_identifier_reading }

abbrev pub object_identifier : Form (List ℕ)
object_identifier = universal ObjectIdentifier object_identifier_contents

pub arcs_pass : (content : List ℕ) → IsContentOfArcs content → is_object_identifier content ≡ true
arcs_pass content h = rw h.2 (content_of-passes h.0 h.1)

pub pass_arcs : (content : List ℕ) → is_object_identifier content ≡ true → IsContentOfArcs content
pass_arcs content h = let k = content_of-arcs_of content h in (arcs_of content, k.0, sym k.1)

object_identifier_sound : (bytes v : List ℕ) → object_identifier_reading bytes ≡ Ok v → IsContentOfArcs v × (bytes ≡ v)
unfolding object_identifier_reading
object_identifier_sound bytes v e =
    let g = test_ok (is_object_identifier bytes) Malformed (Ok bytes) v e in
    let same : bytes ≡ v = ok_is bytes v g.1 in
    (pass_arcs v (rw (← same) g.0), same)

object_identifier_complete : (v : List ℕ) → IsContentOfArcs v → object_identifier_reading v ≡ Ok v
unfolding object_identifier_reading
object_identifier_complete v g = rw (arcs_pass v g) refl

object_identifier_refused : (bytes : List ℕ) (e : ErrorKind) → object_identifier_reading bytes ≡ Err e → e ≡ Malformed
unfolding object_identifier_reading
object_identifier_refused bytes e h = elim (test_err (is_object_identifier bytes) Malformed (Ok bytes) e h) [ inl j ↦ absurd (let x = j in cc) | inr j ↦ sym j ]

pub object_identifier_contents_lawful : {R : ErrorKind → Type 0} → IsContents R object_identifier_contents
object_identifier_contents_lawful = record { sound = object_identifier_sound; complete = object_identifier_complete; refused = λ bytes e r. inl (object_identifier_refused bytes e r) }

pub object_identifier_lawful : {R : ErrorKind → Type 0} → IsForm R object_identifier
object_identifier_lawful = universal_lawful ObjectIdentifier object_identifier_contents object_identifier_contents_lawful

pub object_identifier_ordered : (write : List ℕ → Written (List ℕ)) → IsOrder object_identifier write (by_bytes object_identifier)
object_identifier_ordered write = by_bytes_lawful object_identifier write (λ x y p q. q)
