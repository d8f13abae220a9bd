-- GeneralName: [0]OtherName / [1]IA5String / [2]IA5String / {4}Name / [5]EdiPartyName / [6]IA5String / [7]OCTET STRING /
-- [8]OBJECT IDENTIFIER (RFC 5280 4.2.1.6)
-- GeneralNames: list GeneralName
use Rattle.std.specs.Prelude.{ℕ, List, length, Option, Some, None, ◌==◌, if◌then◌else◌, refl}
use Rattle.x509_der.specs.declared.error.ErrorKind.{ErrorKind}
use Rattle.x509_der.specs.declared.tag.Tag.TheVariants.{Sequence}
use Rattle.x509_der.specs.Form.{Form, IsForm, universal}
use Rattle.x509_der.specs.FormLaws.{universal_lawful}
use Rattle.x509_der.specs.Cases.{Cases, ◌∥◌, ◌holds◌, none, CaseOf, choice, choice_lawful}
use Rattle.x509_der.specs.Frames.{implicit, explicit}
use Rattle.x509_der.specs.FrameLaws.{implicit_lawful, explicit_lawful}
use Rattle.x509_der.specs.List.{list_of}
use Rattle.x509_der.specs.ListLaws.{list_lawful}
use Rattle.x509_der.specs.ObjectIdentifierForm.{object_identifier, object_identifier_lawful}
use Rattle.x509_name.specs.Names.{name, rdn_sequence_lawful}
use Rattle.x509_prim.specs.OctetString.{octet_string, octet_string_lawful}
use Rattle.x509_prim.specs.Texts.{ia5_string, ia5_string_lawful}
use Rattle.x509_ext.specs.EdiPartyName.{edi_party_name, edi_party_name_lawful}
use Rattle.x509_ext.specs.OtherName.{other_name, other_name_lawful}
use Rattle.x509_ext.specs.declared.pkix.name.general_name.GeneralName.{GeneralName}
use Rattle.x509_ext.specs.declared.pkix.name.general_name.GeneralName.TheVariants.{OtherName, Rfc822Name, DnsName, DirectoryName, EdiPartyName, UniformResourceIdentifier, IpAddress, RegisteredId}
use Rattle.x509_ext.specs.declared.pkix.name.general_name.IpAddress as addresses
use Rattle.x509_ext.specs.declared.pkix.name.general_name.IpAddress.TheVariants as versions

abbrev pub general_name_cases : Cases GeneralName
general_name_cases =
    OtherName holds implicit 0 other_name
    ∥ Rfc822Name holds implicit 1 ia5_string
    ∥ DnsName holds implicit 2 ia5_string
    ∥ DirectoryName holds explicit 4 name
    ∥ EdiPartyName holds implicit 5 edi_party_name
    ∥ UniformResourceIdentifier holds implicit 6 ia5_string
    ∥ IpAddress holds implicit 7 octet_string
    ∥ RegisteredId holds implicit 8 object_identifier
    ∥ none

abbrev pub general_name_case : (v : GeneralName) → CaseOf general_name_cases v
general_name_case (OtherName other) = (0, (other, refl))
general_name_case (Rfc822Name text) = (1, (text, refl))
general_name_case (DnsName text) = (2, (text, refl))
general_name_case (DirectoryName rdns) = (3, (rdns, refl))
general_name_case (EdiPartyName party) = (4, (party, refl))
general_name_case (UniformResourceIdentifier text) = (5, (text, refl))
general_name_case (IpAddress octets) = (6, (octets, refl))
general_name_case (RegisteredId oid) = (7, (oid, refl))

abbrev pub general_name : Form GeneralName
general_name = choice general_name_cases general_name_case

pub general_name_lawful : {R : ErrorKind → Type 0} → IsForm R general_name
general_name_lawful = choice_lawful general_name_cases general_name_case refl (
  (implicit_lawful 0 _ refl (λ v. refl) other_name_lawful, λ x. refl),
  (
    (implicit_lawful 1 _ refl (λ v. refl) ia5_string_lawful, λ x. refl),
    (
      (implicit_lawful 2 _ refl (λ v. refl) ia5_string_lawful, λ x. refl),
      (
        (explicit_lawful 4 _ refl rdn_sequence_lawful, λ x. refl),
        (
          (implicit_lawful 5 _ refl (λ v. refl) edi_party_name_lawful, λ x. refl),
          (
            (implicit_lawful 6 _ refl (λ v. refl) ia5_string_lawful, λ x. refl),
            (
              (implicit_lawful 7 _ refl (λ v. refl) octet_string_lawful, λ x. refl),
              (
                (implicit_lawful 8 _ refl (λ v. refl) object_identifier_lawful, λ x. refl),
                tt,
              ),
            ),
          ),
        ),
      ),
    ),
  ),
)

abbrev pub general_names : Form (List GeneralName)
general_names = universal Sequence (list_of general_name)

pub general_names_lawful : {R : ErrorKind → Type 0} → IsForm R general_names
general_names_lawful = universal_lawful Sequence _ (list_lawful general_name general_name_lawful)

-- ---- addresses

-- the octets of an address, in the order of the network (RFC 5280 4.2.1.6)
abbrev pub address_octets : addresses.IpAddress → List ℕ
address_octets (versions.V4 octets) = octets
address_octets (versions.V6 octets) = octets

-- the address that octets are: those of version 4 are four, those of version 6 sixteen (RFC 5280 4.2.1.6)
abbrev pub address_of : List ℕ → Option addresses.IpAddress
address_of octets = if length octets == 4 then Some (versions.V4 octets) else if length octets == 16 then Some (versions.V6 octets) else None

-- that of a name, which only an iPAddress has
abbrev pub ip_of : GeneralName → Option addresses.IpAddress
ip_of (IpAddress octets) = address_of octets
ip_of _ = None
