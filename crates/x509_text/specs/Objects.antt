-- What is printed of bytes.
use Rattle.std.specs.Prelude.{ℕ, List, Option, Some, None, Result, Ok, codes}
use Rattle.std.specs.Option.{option_map}
use Rattle.x509_base.specs.declared.profile.Raw.{Raw}
use Rattle.x509_cert.specs.CertReq.{cert_req}
use Rattle.x509_cert.specs.Certificate.{certificate}
use Rattle.x509_cert.specs.CertificateList.{certificate_list}
use Rattle.x509_cert.specs.TrustAnchorChoice.{trust_anchor_choice}
use Rattle.x509_der.specs.Form.{Form}
use Rattle.x509_der.specs.declared.error.ErrorKind.{ErrorKind}
use Rattle.x509_text.specs.declared.line.Place.{Place}
use Rattle.x509_text.specs.declared.line.Style.{Style}
use Rattle.x509_text.specs.declared.objects.Kind.{Kind}
use Rattle.x509_text.specs.declared.objects.Kind.TheVariants as kinds
use Rattle.x509_text.specs.Anchors.{anchor_lines}
use Rattle.x509_text.specs.Certificates.{certificate_lines}
use Rattle.x509_text.specs.Crls.{crl_lines}
use Rattle.x509_text.specs.Lines.{document}
use Rattle.x509_text.specs.Payloads.{value_of}
use Rattle.x509_text.specs.Requests.{request_lines}

-- any serial number is taken
abbrev pub any_serial : List ℕ → Result Unit ErrorKind
any_serial content = Ok tt

-- the document of the value that the bytes are the encoding of, where they are that of one
abbrev pub value_shown : {X : Type 0} → Form X → (Place → X → List ℕ) → List ℕ → Style → List ℕ → Option (List ℕ)
value_shown form lines kind style bytes = option_map (λ value. document kind (λ at. lines at value) style) (value_of form bytes)

-- the document of the object of this kind that the bytes are the encoding of
unfoldable pub shown_as : Kind → Style → List ℕ → Option (List ℕ)
shown_as kinds.Certificate style bytes = value_shown (certificate {P = Raw} any_serial) certificate_lines (codes "certificate") style bytes
shown_as kinds.Crl style bytes = value_shown (certificate_list {P = Raw} any_serial) crl_lines (codes "CRL") style bytes
shown_as kinds.Csr style bytes = value_shown cert_req request_lines (codes "CSR") style bytes
shown_as kinds.Anchor style bytes = value_shown (trust_anchor_choice {P = Raw} any_serial) anchor_lines (codes "trust anchor") style bytes

-- a document, or else another
abbrev pub or_else : Option (List ℕ) → Option (List ℕ) → Option (List ℕ)
or_else (Some document) other = Some document
or_else None other = other

-- the document of the first kind of object that the bytes are the encoding of: a certificate, a CRL, a CSR, a trust anchor
unfoldable pub shown : Style → List ℕ → Option (List ℕ)
shown style bytes =
    or_else (shown_as kinds.Certificate style bytes)
    (or_else (shown_as kinds.Crl style bytes)
    (or_else (shown_as kinds.Csr style bytes)
    (shown_as kinds.Anchor style bytes)))
