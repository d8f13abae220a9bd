-- What stands in the element of a general name.
use Rattle.std.proofs.Common.{◌≡◌, ℕ, true, List, ◌++◌, refl, ap, ◌∙◌, append_assoc}
use Rattle.x509_c_calls.specs.GeneralNames.{held}
use Rattle.x509_der.specs.ObjectIdentifierForm.{object_identifier}
use Rattle.x509_der.specs.Element.{is_identifier, is_universal}
use Rattle.x509_der.specs.Any.{any}
use Rattle.x509_der.specs.Cases.{choice_tag, choice_content}
use Rattle.x509_der.specs.Frames.{explicit, fields_octets, optional_octets}
use Rattle.x509_der.specs.Form.{spelling}
use Rattle.x509_ext.specs.EdiPartyName.{edi_party_name, edi_party_name_fields}
use Rattle.x509_ext.specs.GeneralName.{general_name}
use Rattle.x509_ext.specs.OtherName.{other_name, other_name_fields}
use Rattle.x509_ext.specs.declared.pkix.name.edi_party_name.EdiPartyName as parties
use Rattle.x509_ext.specs.declared.pkix.name.general_name.GeneralName.{GeneralName}
use Rattle.x509_ext.specs.declared.pkix.name.general_name.GeneralName.TheVariants.{OtherName, EdiPartyName}
use Rattle.x509_ext.specs.declared.pkix.name.other_name.OtherName as others
use Rattle.x509_name.specs.DirectoryString.{directory_string}

pub content_is : (v : GeneralName) → general_name.content v ≡ held v
unfolding choice_content
content_is (OtherName other) = refl
content_is _ = refl

pub is_name : (v : GeneralName) → is_identifier (general_name.tag v) ≡ true
unfolding choice_tag is_identifier is_universal
is_name (OtherName other) = refl
is_name _ = refl

other_content : (o : others.OtherName) → other_name.content o ≡ spelling object_identifier o.type_id ++ spelling (explicit 0 any) o.value
unfolding fields_octets other_name_fields
other_content o = refl

pub other_laid_out : (o : others.OtherName) (behind : List ℕ) → other_name.content o ++ behind ≡ spelling object_identifier o.type_id ++ (spelling (explicit 0 any) o.value ++ behind)
other_laid_out o behind = ap (λ x. x ++ behind) (other_content o) ∙ append_assoc (spelling object_identifier o.type_id) (spelling (explicit 0 any) o.value) behind

party_content : (p : parties.EdiPartyName) → edi_party_name.content p ≡ optional_octets (spelling (explicit 0 directory_string)) p.name_assigner ++ spelling (explicit 1 directory_string) p.party_name
unfolding fields_octets edi_party_name_fields
party_content p = refl

pub party_laid_out : (p : parties.EdiPartyName) (behind : List ℕ) → edi_party_name.content p ++ behind ≡ optional_octets (spelling (explicit 0 directory_string)) p.name_assigner ++ (spelling (explicit 1 directory_string) p.party_name ++ behind)
party_laid_out p behind = ap (λ x. x ++ behind) (party_content p) ∙ append_assoc (optional_octets (spelling (explicit 0 directory_string)) p.name_assigner) (spelling (explicit 1 directory_string) p.party_name) behind
