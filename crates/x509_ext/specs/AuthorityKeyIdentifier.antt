-- AuthorityKeyIdentifier: key_identifier: [0]OCTET STRING?, authority_cert_issuer: [1]list GeneralName?,
-- authority_cert_serial_number: [2]SerialNumber? under Rfc5280 (RFC 5280 4.2.1.1)
use Rattle.std.specs.Prelude.{◌≡◌, ℕ, nat_lt, List, length, Option, Err}
use Rattle.std.proofs.Common.{inl, inr}
use Rattle.std.proofs.lemmas.Bool.{cases_Bool}
use Rattle.x509_base.specs.Serial.{serial_number, serial_number_contents, serial_number_contents_lawful}
use Rattle.x509_base.specs.Profiles.{rfc5280_serial_number}
use Rattle.x509_der.specs.declared.error.ErrorKind.{ErrorKind}
use Rattle.x509_der.specs.declared.error.ErrorKind.TheVariants.{Malformed}
use Rattle.x509_der.specs.declared.tag.Tag.TheVariants.{Integer, Sequence}
use Rattle.x509_der.specs.Form.{Form, IsForm, Contents, IsContents, universal}
use Rattle.x509_der.specs.FormLaws.{universal_lawful}
use Rattle.x509_der.specs.Frames.{Part, implicit, optional, ◌⊗◌, fields}
use Rattle.x509_der.specs.PartRules.{part_rules}
use Rattle.x509_ext.specs.GeneralName.{general_names, general_names_lawful}
use Rattle.x509_ext.specs.declared.pkix.name.general_name.GeneralName.{GeneralName}
use Rattle.x509_prim.specs.OctetString.{octet_string, octet_string_lawful}
use Rattle.x509_ext.specs.declared.pkix.authority_key_identifier.AuthorityKeyIdentifier.{AuthorityKeyIdentifier}

-- ---- serial numbers under Rfc5280

too_long : (content : List ℕ) (e : ErrorKind) → rfc5280_serial_number content ≡ Err e → e ≡ Malformed
too_long content e h = elim (cases_Bool (nat_lt 21 (length content))) [
  | inl long ↦ (let k = rw long at h in cc)
  | inr fits ↦ absurd (let k = rw fits at h in cc)
]

-- its check refuses by Malformed alone
rfc5280_contents_lawful : {R : ErrorKind → Type 0} → IsContents R (serial_number_contents rfc5280_serial_number)
rfc5280_contents_lawful =
    let h = serial_number_contents_lawful rfc5280_serial_number in
    record {
      sound = h.sound;
      complete = h.complete;
      refused = λ bytes e r. elim (h.refused bytes e r) [ inl k ↦ inl k | inr k ↦ inl (too_long k.0 e k.1) ];
    }

serial_number_lawful : {R : ErrorKind → Type 0} → IsForm R (serial_number rfc5280_serial_number)
serial_number_lawful = universal_lawful Integer (serial_number_contents rfc5280_serial_number) rfc5280_contents_lawful

-- ---- the grammar

unfoldable pub authority_key_identifier_fields : Part (Option (List ℕ) × (Option (List GeneralName) × Option (List ℕ)))
authority_key_identifier_fields = optional (implicit 0 octet_string) ⊗ (optional (implicit 1 general_names) ⊗ optional (implicit 2 (serial_number rfc5280_serial_number)))

abbrev pub authority_key_identifier_contents : Contents AuthorityKeyIdentifier
authority_key_identifier_contents = fields (λ a. (a.key_identifier, (a.authority_cert_issuer, a.authority_cert_serial_number))) (λ (key_identifier, (authority_cert_issuer, authority_cert_serial_number)). record { key_identifier = key_identifier; authority_cert_issuer = authority_cert_issuer; authority_cert_serial_number = authority_cert_serial_number }) authority_key_identifier_fields

abbrev pub authority_key_identifier : Form AuthorityKeyIdentifier
authority_key_identifier = universal Sequence authority_key_identifier_contents

pub authority_key_identifier_contents_lawful : {R : ErrorKind → Type 0} → IsContents R authority_key_identifier_contents
unfolding authority_key_identifier_fields
authority_key_identifier_contents_lawful = search (part_rules, octet_string_lawful, general_names_lawful, serial_number_lawful) depth 20
