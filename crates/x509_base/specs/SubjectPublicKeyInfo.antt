-- SubjectPublicKeyInfo: algorithm: AlgorithmIdentifier, subject_public_key: BIT STRING (RFC 5280 4.1.2.7)
use Rattle.std.specs.Prelude.{refl}
use Rattle.x509_der.specs.declared.error.ErrorKind.{ErrorKind}
use Rattle.x509_der.specs.declared.tag.Tag.TheVariants.{Sequence}
use Rattle.x509_der.specs.Form.{Form, IsForm, Contents, IsContents, universal}
use Rattle.x509_der.specs.FormLaws.{universal_lawful}
use Rattle.x509_der.specs.Writing.{plain, writes}
use Rattle.x509_der.specs.Order.{Order, IsOrder}
use Rattle.x509_der.specs.Ordered.{by_bytes, by_bytes_lawful}
use Rattle.x509_der.specs.Frames.{Part, required, ◌⊗◌, fields}
use Rattle.x509_der.specs.PartRules.{part_rules}
use Rattle.x509_der.specs.FieldsOrder.{by_two, two_ordered}
use Rattle.x509_prim.specs.BitString.{BitParts, bit_string}
use Rattle.x509_prim.specs.BitStringLaws.{bit_string_lawful, one_bit_string}
use Rattle.x509_base.specs.AlgorithmIdentifier.{algorithm_identifier, algorithm_identifier_lawful, algorithm_identifier_order, algorithm_identifier_ordered}
use Rattle.x509_base.specs.declared.algorithm_identifier.AlgorithmIdentifier.{AlgorithmIdentifier}
use Rattle.x509_base.specs.declared.subject_public_key_info.SubjectPublicKeyInfo.{SubjectPublicKeyInfo}

unfoldable pub subject_public_key_info_fields : Part (AlgorithmIdentifier × BitParts)
subject_public_key_info_fields = required algorithm_identifier ⊗ required bit_string

abbrev pub subject_public_key_info_contents : Contents SubjectPublicKeyInfo
subject_public_key_info_contents =
    fields (λ s. (s.algorithm, s.subject_public_key)) (λ (algorithm, subject_public_key). record { algorithm = algorithm; subject_public_key = subject_public_key }) subject_public_key_info_fields

abbrev pub subject_public_key_info : Form SubjectPublicKeyInfo
subject_public_key_info = universal Sequence subject_public_key_info_contents

pub subject_public_key_info_contents_lawful : {R : ErrorKind → Type 0} → IsContents R subject_public_key_info_contents
unfolding subject_public_key_info_fields
subject_public_key_info_contents_lawful = search (part_rules, algorithm_identifier_lawful, bit_string_lawful) depth 20

pub subject_public_key_info_lawful : {R : ErrorKind → Type 0} → IsForm R subject_public_key_info
subject_public_key_info_lawful = universal_lawful Sequence subject_public_key_info_contents subject_public_key_info_contents_lawful

-- ---- the byte order

-- by the algorithm, then by the bits
abbrev pub subject_public_key_info_order : Order SubjectPublicKeyInfo
subject_public_key_info_order = by_two (λ s. (s.algorithm, s.subject_public_key)) algorithm_identifier algorithm_identifier_order bit_string (by_bytes bit_string)

pub subject_public_key_info_ordered : IsOrder subject_public_key_info (writes plain) subject_public_key_info_order
unfolding subject_public_key_info_fields
subject_public_key_info_ordered =
    two_ordered (λ s. (s.algorithm, s.subject_public_key)) (λ (algorithm, subject_public_key). record { algorithm = algorithm; subject_public_key = subject_public_key }) algorithm_identifier algorithm_identifier_order bit_string (by_bytes bit_string) (λ s. refl)
    algorithm_identifier_ordered (by_bytes_lawful bit_string (writes plain) (λ x y p q. one_bit_string x y q))
