-- Signed: part: ANY, algorithm: AlgorithmIdentifier, signature: BIT STRING (RFC 5280 4.1, 5.1, RFC 2986 4.2)
use Rattle.x509_base.specs.AlgorithmIdentifier.{algorithm_identifier, algorithm_identifier_lawful}
use Rattle.x509_base.specs.declared.algorithm_identifier.AlgorithmIdentifier.{AlgorithmIdentifier}
use Rattle.x509_c_calls.specs.declared.build.signed.Signed.{Signed}
use Rattle.x509_der.specs.declared.error.ErrorKind.{ErrorKind}
use Rattle.x509_der.specs.declared.tag.Tag.TheVariants.{Sequence}
use Rattle.x509_der.specs.Any.{any, any_lawful}
use Rattle.x509_der.specs.Frames.{Part, required, ◌⊗◌, fields}
use Rattle.x509_der.specs.PartRules.{part_rules}
use Rattle.x509_der.specs.declared.any.Any.{Any}
use Rattle.x509_der.specs.Form.{Form, Contents, IsContents, universal}
use Rattle.x509_prim.specs.BitString.{BitParts, bit_string}
use Rattle.x509_prim.specs.BitStringLaws.{bit_string_lawful}

unfoldable pub signed_fields : Part (Any × (AlgorithmIdentifier × BitParts))
signed_fields = required any ⊗ (required algorithm_identifier ⊗ required bit_string)

abbrev pub signed_contents : Contents Signed
signed_contents = fields (λ s. (s.part, (s.algorithm, s.signature))) (λ (part, (algorithm, signature)). record { part = part; algorithm = algorithm; signature = signature }) signed_fields

abbrev pub signed : Form Signed
signed = universal Sequence signed_contents

pub signed_contents_lawful : {R : ErrorKind → Type 0} → IsContents R signed_contents
unfolding signed_fields
signed_contents_lawful = search (part_rules, any_lawful, algorithm_identifier_lawful, bit_string_lawful) depth 20
