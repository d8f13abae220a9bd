-- The extension of an entry that names its issuer, where those in front of it were passed.
use Rattle.std.proofs.Common.{◌≡◌, ◌∙◌, ℕ, Bool, true, false, List, [], ◌∷◌, ◌++◌, drop, Option, Some, None, Ok, MatchOption, unwrap_or, bytes_eq, refl}
use Rattle.x509_c_calls.proofs.Octets.{is_sequence}
use Rattle.x509_c_calls.specs.Issued.{IsCarried}
use Rattle.x509_c_calls.specs.Optional.{IsPerhapsAt}
use Rattle.x509_c_calls.specs.Place.{IsAt}
use Rattle.x509_c_calls.specs.declared.place.span.Span.{Span}
use Rattle.x509_cert.specs.Issuers.{FindsIssuer}
use Rattle.x509_der.specs.Element.{element, is_identifier}
use Rattle.x509_der.specs.Form.{spelling}
use Rattle.x509_der.specs.List.{joined}
use Rattle.x509_ext.specs.Extension as grammar
use Rattle.x509_ext.specs.LookUp.{members, with_oid}
use Rattle.x509_ext.specs.declared.extension.Extension.{Extension}
use Rattle.x509_ext.specs.declared.pkix.certificate_issuer.CertificateIssuer.{CertificateIssuer}

pub with_this : (oid : List ℕ) (first : Extension) (others : List Extension) → bytes_eq first.extn_id oid ≡ true → with_oid oid (first ∷ others) ≡ first ∷ with_oid oid others
with_this oid first others same = rw same refl

pub without_this : (oid : List ℕ) (first : Extension) (others : List Extension) → bytes_eq first.extn_id oid ≡ false → with_oid oid (first ∷ others) ≡ with_oid oid others
without_this oid first others other = rw other refl

-- where one is found there are no others
pub carried : (bytes : List ℕ) (all before after named others : List Extension) (behind : List ℕ) (first : Extension) (was is : Span) (found : Bool × CertificateIssuer) → named ≡ first ∷ others → FindsIssuer named (Ok (Some found)) → all ≡ before ++ first ∷ after
    → IsAt first.extn_value (joined (spelling grammar.extension) after ++ behind) bytes is → IsCarried bytes all behind named was is
carried bytes all before after [] others behind first was is found cons finds split at = absurd cc
carried bytes all before after (one ∷ []) others behind first was is found cons finds split at =
    let same : one ≡ first = cc in
    (before, after, rw same split, rw same at)
carried bytes all before after (one ∷ two ∷ more) others behind first was is found cons finds split at = absurd finds

-- ---- what is in force behind an entry

-- what is said of a place where the bytes of the extensions begin
abbrev pub Tells : List ℕ → List Extension → List Extension → ℕ → Option Span → Type 0
Tells bytes all named place own =
    MatchOption own (named ≡ []) (λ span. (behind : List ℕ) (was : Span) → drop place bytes ≡ joined (spelling grammar.extension) all ++ behind → IsCarried bytes all behind named was span)

pub in_force : (bytes : List ℕ) (extensions : Option (List Extension)) (oid more : List ℕ) (at : ℕ) (stands : Span) (own : Option Span) (was is : Span)
    → Tells bytes (members extensions) (with_oid oid (members extensions)) at own → is ≡ unwrap_or own was
    → IsPerhapsAt (spelling grammar.extensions) extensions more bytes stands
    → ((tag : ℕ) (content behind : List ℕ) → is_identifier tag ≡ true → drop stands.place bytes ≡ element tag content ++ behind → drop at bytes ≡ content ++ behind)
    → IsCarried bytes (members extensions) more (with_oid oid (members extensions)) was is
unfolding joined
in_force bytes None oid more at stands None was is tells same place enters = same
in_force bytes None oid more at stands (Some span) was is tells same place enters = same ∙ tells (drop at bytes) was refl
in_force bytes (Some all) oid more at stands None was is tells same place enters = rw tells same
in_force bytes (Some all) oid more at stands (Some span) was is tells same place enters =
    rw same (tells more was (enters 48 (grammar.extensions.content all) more is_sequence place.0))
