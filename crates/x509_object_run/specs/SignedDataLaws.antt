-- Reading a SignedData answers exactly what its grammar relates to the octets.
use Rattle.std.specs.Prelude.{◌≡◌, ℕ, List, Ok, Err, refl}
use Rattle.std.proofs.Common.{arith, inl}
use Rattle.std.proofs.lemmas.Slice.Eq.{bytes_eq-Decides}
use Rattle.x509_der.specs.declared.error.ErrorKind.{ErrorKind}
use Rattle.x509_der.specs.declared.error.ErrorKind.TheVariants.{Malformed}
use Rattle.x509_der.specs.declared.tag.Tag.TheVariants.{Sequence}
use Rattle.x509_der.specs.declared.any.Any.{Any}
use Rattle.x509_der.specs.Any.{any, any_lawful}
use Rattle.x509_der.specs.Element.{is_identifier, is_universal}
use Rattle.x509_der.specs.Form.{IsForm, IsContents}
use Rattle.x509_der.specs.FormLaws.{under_lawful, universal_lawful}
use Rattle.x509_der.specs.ListLaws.{list_lawful}
use Rattle.x509_der.specs.List.{list_of}
use Rattle.x509_der.specs.PartRules.{part_rules}
use Rattle.x509_object_run.specs.SignedData.{content_info, content_info_contents, content_info_fields, elements_under, id_signed_data, only, signed_data, signed_data_contents, signed_data_fields, unread}

unread_lawful : {R : ErrorKind → Type 0} → IsContents R unread
unread_lawful = record { sound = λ octets value read. (tt, grind arith); complete = λ value good. refl; refused = λ octets e read. absurd cc }

only_sound : (wanted octets : List ℕ) (u : Unit {0}) → (only wanted).reading octets ≡ Ok u → Unit {0} × (octets ≡ wanted)
only_sound wanted octets u read = (tt, grind (arith, bytes_eq-Decides octets wanted, read))

only_complete : (wanted : List ℕ) (u : Unit {0}) → Unit {0} → (only wanted).reading wanted ≡ Ok u
only_complete wanted u good = grind (arith, bytes_eq-Decides wanted wanted)

only_refused : (wanted octets : List ℕ) (e : ErrorKind) → (only wanted).reading octets ≡ Err e → e ≡ Malformed
only_refused wanted octets e read = grind (arith, bytes_eq-Decides octets wanted, read)

only_lawful : {R : ErrorKind → Type 0} (wanted : List ℕ) → IsContents R (only wanted)
only_lawful wanted =
    record { sound = only_sound wanted; complete = only_complete wanted; refused = λ octets e read. inl (only_refused wanted octets e read) }

elements_0_lawful : {R : ErrorKind → Type 0} → IsForm R (elements_under 0)
unfolding is_identifier is_universal
elements_0_lawful = under_lawful 160 (list_of any) refl (list_lawful any any_lawful)

elements_1_lawful : {R : ErrorKind → Type 0} → IsForm R (elements_under 1)
unfolding is_identifier is_universal
elements_1_lawful = under_lawful 161 (list_of any) refl (list_lawful any any_lawful)

signed_data_contents_lawful : {R : ErrorKind → Type 0} → IsContents R signed_data_contents
unfolding signed_data_fields
signed_data_contents_lawful = search (part_rules, unread_lawful, elements_0_lawful, elements_1_lawful) depth 30

signed_data_lawful : {R : ErrorKind → Type 0} → IsForm R signed_data
signed_data_lawful = universal_lawful Sequence signed_data_contents signed_data_contents_lawful

type_lawful : {R : ErrorKind → Type 0} → IsContents R (only id_signed_data)
type_lawful = only_lawful id_signed_data

content_info_contents_lawful : {R : ErrorKind → Type 0} → IsContents R content_info_contents
unfolding content_info_fields
content_info_contents_lawful = search (part_rules, type_lawful, signed_data_lawful) depth 30

pub content_info_lawful : {R : ErrorKind → Type 0} → IsForm R content_info
content_info_lawful = universal_lawful Sequence content_info_contents content_info_contents_lawful
