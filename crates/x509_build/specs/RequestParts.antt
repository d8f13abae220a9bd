-- The signed parts that a builder of CSRs makes (RFC 2986 4.1).
use Rattle.std.specs.BTreeSet.{insert_key}
use Rattle.std.specs.Prelude.{◌≡◌, ◌⊎◌, List, [], ◌∷◌, Contains}
use Rattle.x509_base.specs.declared.subject_public_key_info.SubjectPublicKeyInfo.{SubjectPublicKeyInfo}
use Rattle.x509_build.specs.declared.error.Error.{Error}
use Rattle.x509_build.specs.declared.error.Error.TheVariants.{Asn1}
use Rattle.x509_build.specs.Answer.{Answer}
use Rattle.x509_build.specs.Parts.{no_algorithm}
use Rattle.x509_cert.specs.Identifiers.{pkcs_9}
use Rattle.x509_cert.specs.declared.request.cert_req.CertReqInfo.{CertReqInfo}
use Rattle.x509_cert.specs.declared.request.version.Version.TheVariants.{V1}
use Rattle.x509_der.specs.Element.{limit}
use Rattle.x509_der.specs.declared.error.ErrorKind.TheVariants.{SetDuplicate}
use Rattle.x509_der.specs.declared.tag.Tag.TheVariants.{Sequence}
use Rattle.x509_der.specs.Writing.{plain, writes, IsUnwritable}
use Rattle.x509_ext.specs.Extension.{extensions}
use Rattle.x509_ext.specs.declared.extension.Extension.{Extension}
use Rattle.x509_name.specs.Attribute.{attribute_cmp}
use Rattle.x509_name.specs.declared.attr.attribute.Attribute.{Attribute}
use Rattle.x509_name.specs.declared.attr.type_and_value.AttributeTypeAndValue.{AttributeTypeAndValue}
use Rattle.x509_prim.specs.BitString.{parts_of}

abbrev pub NameList : Type 0
NameList = List (List AttributeTypeAndValue)

-- a part of version 1
abbrev pub part_of : NameList → SubjectPublicKeyInfo → List Attribute → CertReqInfo
part_of subject key attributes = record { version = V1; subject = subject; public_key = key; attributes = attributes }

-- ---- the part as a builder is made with it

-- no signer was asked for its key
abbrev pub no_key : SubjectPublicKeyInfo
no_key = record { algorithm = no_algorithm; subject_public_key = parts_of 0 [] }

abbrev pub first_part : NameList → CertReqInfo
first_part subject = part_of subject no_key []

-- ---- the part that a signer makes of it

-- the attribute whose one value is these extensions (RFC 2985 5.4.2)
abbrev pub extension_request : List Extension → Attribute
extension_request asked = record { oid = pkcs_9 14; values = record { tag = Sequence; value = extensions.content asked } ∷ [] }

-- its value is too long, or an equal attribute was added
abbrev pub RefusesRequest : List Attribute → List Extension → Error → Type 0
RefusesRequest added asked (Asn1 e) = IsUnwritable extensions (writes plain asked) limit e.kind ⊎ ((e.kind ≡ SetDuplicate) × Contains added (extension_request asked))
RefusesRequest added asked _ = ⊥

-- The part with the added attributes and the one that asks for the added extensions, all in the order of a set.
abbrev pub next_part : NameList → List Attribute → List Extension → SubjectPublicKeyInfo → Answer CertReqInfo
next_part subject added asked key = record {
  value = part_of subject key (insert_key attribute_cmp added (extension_request asked));
  refuses = RefusesRequest added asked;
}
