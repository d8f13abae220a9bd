-- The certificates and CRLs in a SignedData, of which files of PKCS #7 and CMS are (RFC 5652).
use Rattle.std.specs.Prelude.{◌≡◌, ℕ, ◌+◌, ◌==◌, Bool, false, List, [], ◌∷◌, ◌++◌, map, bytes_eq, Option, Some, None, Result, Ok, Err, if◌then◌else◌}
use Rattle.x509_der.specs.declared.error.ErrorKind.{ErrorKind}
use Rattle.x509_der.specs.declared.error.ErrorKind.TheVariants.{Malformed}
use Rattle.x509_der.specs.declared.tag.Tag.TheVariants.{Integer, ObjectIdentifier, Sequence, Set}
use Rattle.x509_der.specs.declared.any.Any.{Any}
use Rattle.x509_der.specs.Any.{any}
use Rattle.x509_der.specs.Arcs.{content_of}
use Rattle.x509_der.specs.Form.{Contents, Form, spelling, under, universal, whole_reading}
use Rattle.x509_der.specs.Frames.{Part, explicit, fields, optional, required, ◌⊗◌}
use Rattle.x509_der.specs.List.{joined, list_of}

-- content octets that aren't read further
abbrev pub unread : Contents (List ℕ)
unread = record { octets = λ octets. octets; good = λ octets. Unit {0}; reading = λ octets. Ok octets }

-- these content octets and no others
abbrev pub only : List ℕ → Contents (Unit {0})
only wanted = record { octets = λ u. wanted; good = λ u. Unit {0}; reading = λ octets. if bytes_eq octets wanted then Ok tt else Err Malformed }

-- elements under [n], which stands in place of SET OF (X.690 8.12, 8.14.3), in the order in which they stand
abbrev pub elements_under : ℕ → Form (List Any)
elements_under n = under (160 + n) (list_of any)

-- octets begin with this identifier octet
abbrev pub begins : ℕ → List ℕ → Bool
begins identifier [] = false
begins identifier (octet ∷ octets) = octet == identifier

-- SignedData (RFC 5652 5.1). Its certificates and its CRLs are elements of any identifiers; no other field is read further than to its content.
pub record SignedData : Type 0 where
  pub version : List ℕ
  pub digest_algorithms : List ℕ
  pub encap_content_info : List ℕ
  pub certificates : Option (List Any)
  pub crls : Option (List Any)
  pub signer_infos : List ℕ

unfoldable pub signed_data_fields : Part (List ℕ × (List ℕ × (List ℕ × (Option (List Any) × (Option (List Any) × List ℕ)))))
signed_data_fields =
    required (universal Integer unread)
    ⊗ (required (universal Set unread)
    ⊗ (required (universal Sequence unread)
    ⊗ (optional (elements_under 0)
    ⊗ (optional (elements_under 1)
    ⊗ required (universal Set unread)))))

abbrev pub signed_data_contents : Contents SignedData
signed_data_contents = fields
    (λ s. (s.version, (s.digest_algorithms, (s.encap_content_info, (s.certificates, (s.crls, s.signer_infos))))))
    (λ (version, (digest_algorithms, (encap_content_info, (certificates, (crls, signer_infos))))). record {
      version = version;
      digest_algorithms = digest_algorithms;
      encap_content_info = encap_content_info;
      certificates = certificates;
      crls = crls;
      signer_infos = signer_infos;
    })
    signed_data_fields

abbrev pub signed_data : Form SignedData
signed_data = universal Sequence signed_data_contents

-- id-signedData (RFC 5652 5.1)
abbrev pub id_signed_data : List ℕ
id_signed_data = content_of (1 ∷ 2 ∷ 840 ∷ 113549 ∷ 1 ∷ 7 ∷ 2 ∷ [])

-- ContentInfo (RFC 5652 3) of that content type
unfoldable pub content_info_fields : Part (Unit {0} × SignedData)
content_info_fields = required (universal ObjectIdentifier (only id_signed_data)) ⊗ required (explicit 0 signed_data)

abbrev pub content_info_contents : Contents SignedData
content_info_contents = fields (λ s. (tt, s)) (λ (type, s). s) content_info_fields

abbrev pub content_info : Form SignedData
content_info = universal Sequence content_info_contents

-- the elements of a field that may be absent
abbrev pub elements_of : Option (List Any) → List Any
elements_of None = []
elements_of (Some elements) = elements

-- octets are the elements of its certificates, and others those of its CRLs, one after the other
abbrev pub HasElements : SignedData → List ℕ → List ℕ → Type 0
HasElements signed certificates crls =
    (certificates ≡ joined (spelling any) (elements_of signed.certificates)) × (crls ≡ joined (spelling any) (elements_of signed.crls))

-- its certificates, and behind them its CRLs: of each its element
abbrev pub objects_in : SignedData → List (List ℕ)
objects_in signed = map (spelling any) (elements_of signed.certificates ++ elements_of signed.crls)

-- those that are found
abbrev pub found_in : Result SignedData ErrorKind → List (List ℕ)
found_in (Ok signed) = objects_in signed
found_in (Err e) = []

abbrev pub else_whole : List ℕ → List (List ℕ) → List (List ℕ)
else_whole bytes [] = bytes ∷ []
else_whole bytes (object ∷ objects) = object ∷ objects

-- The objects that bytes stand for: a SignedData stands for the certificates and the CRLs in it, where it has any. All else stands for itself.
abbrev pub objects_of : List ℕ → List (List ℕ)
objects_of bytes = else_whole bytes (found_in (whole_reading content_info.reading bytes))
