-- Types of extensions that other standards than RFC 5280 have.
-- id-pkix-ocsp-nocheck: NULL (RFC 6960 4.2.2.2.1); the poison of a precertificate: NULL (RFC 6962 3.1)
-- Features: list INTEGER (RFC 7633 4); QCStatements: list QCStatement; QCStatement: statementId: OBJECT IDENTIFIER, statementInfo: ANY? (RFC 3739 3.2.6)
use Rattle.std.specs.Prelude.{◌||◌, ℕ, Bool, not, List, [], ◌∷◌, bytes_eq, refl}
use Rattle.std.specs.List.{list_all}
use Rattle.x509_der.specs.Form.{Form, universal}
use Rattle.x509_der.specs.List.{list_of}
use Rattle.x509_der.specs.Round.{Round, rounded}
use Rattle.x509_der.specs.declared.tag.Tag.TheVariants.{Sequence}
use Rattle.x509_ext.specs.PolicyQualifierInfo.{policy_qualifier_info}
use Rattle.x509_ext.specs.declared.extension.Extension.{Extension}
use Rattle.x509_ext.specs.declared.pkix.policy_information.PolicyQualifierInfo.{PolicyQualifierInfo}
use Rattle.x509_prim.specs.Integer.{integer}
use Rattle.x509_lint.specs.Words.{is_of}
use Rattle.x509_lint.specs.declared.other_types.QcStatements.{QcStatements}
use Rattle.x509_lint.specs.declared.other_types.TlsFeatures.{TlsFeatures}

-- ---- OIDs, by their content octets

-- 1.3.6.1.5.5.7.48.1.5
abbrev pub ocsp_no_check : List ℕ
ocsp_no_check = 0x2B ∷ 0x06 ∷ 0x01 ∷ 0x05 ∷ 0x05 ∷ 0x07 ∷ 0x30 ∷ 0x01 ∷ 0x05 ∷ []

-- 1.3.6.1.4.1.11129.2.4.3
abbrev pub precertificate_poison : List ℕ
precertificate_poison = 0x2B ∷ 0x06 ∷ 0x01 ∷ 0x04 ∷ 0x01 ∷ 0xD6 ∷ 0x79 ∷ 0x02 ∷ 0x04 ∷ 0x03 ∷ []

-- ---- NULL (X.690 8.8)

abbrev pub null : List ℕ
null = 0x05 ∷ 0x00 ∷ []

-- the octets of each extension with the OID are NULL
abbrev pub are_null : List ℕ → List Extension → Bool
are_null oid extensions = list_all (λ e. not (is_of oid e) || bytes_eq e.extn_value null) extensions

-- ---- lists

abbrev pub tls_features_round : Round TlsFeatures (List (List ℕ))
tls_features_round = record { to = λ features. features.0; from = λ numbers. record { 0 = numbers }; back = λ features. refl; there = λ numbers. refl }

abbrev pub tls_features : Form TlsFeatures
tls_features = rounded tls_features_round Sequence (universal Sequence (list_of integer))

-- a QCStatement has the fields of a PolicyQualifierInfo, an OID and perhaps a value
abbrev pub qc_statements_round : Round QcStatements (List PolicyQualifierInfo)
qc_statements_round = record { to = λ statements. statements.0; from = λ members. record { 0 = members }; back = λ statements. refl; there = λ members. refl }

abbrev pub qc_statements : Form QcStatements
qc_statements = rounded qc_statements_round Sequence (universal Sequence (list_of policy_qualifier_info))
