-- Lines of general names (RFC 5280 4.2.1.6), and of what holds them.
use Rattle.std.specs.Prelude.{ℕ, List, [], ◌++◌, Option, codes}
use Rattle.std.specs.List.{flat_map}
use Rattle.x509_ext.specs.declared.pkix.access.AccessDescription.{AccessDescription}
use Rattle.x509_ext.specs.declared.pkix.name.distribution_point_name.DistributionPointName.{DistributionPointName}
use Rattle.x509_ext.specs.declared.pkix.name.distribution_point_name.DistributionPointName.TheVariants.{FullName, NameRelativeToCRLIssuer}
use Rattle.x509_ext.specs.declared.pkix.name.edi_party_name.EdiPartyName as parties
use Rattle.x509_ext.specs.declared.pkix.name.general_name.GeneralName.{GeneralName}
use Rattle.x509_ext.specs.declared.pkix.name.general_name.GeneralName.TheVariants.{OtherName, Rfc822Name, DnsName, DirectoryName, EdiPartyName, UniformResourceIdentifier, IpAddress, RegisteredId}
use Rattle.x509_ext.specs.declared.pkix.name.other_name.OtherName as others
use Rattle.x509_name.specs.NameText.{rdn_text}
use Rattle.x509_name.specs.DirectoryString.{text_of}
use Rattle.x509_name.specs.declared.name.directory_string.DirectoryString.{DirectoryString}
use Rattle.x509_text.specs.declared.line.Place.{Place}
use Rattle.x509_text.specs.Lines.{line, below}
use Rattle.x509_text.specs.Payloads.{optional}
use Rattle.x509_text.specs.Values.{address_text, any_line, name_line, oid_line}

abbrev pub string_line : Place → List ℕ → DirectoryString → List ℕ
string_line at label string = line at label (text_of string)

abbrev pub optional_string : Place → List ℕ → Option DirectoryString → List ℕ
optional_string at label string = optional (string_line at label) string

unfoldable pub party_lines : Place → parties.EdiPartyName → List ℕ
party_lines at party =
    string_line at (codes "EDI party name") party.party_name
    ++ optional_string (below at) (codes "name assigner") party.name_assigner

unfoldable pub other_lines : Place → others.OtherName → List ℕ
other_lines at other = oid_line at (codes "other name") other.type_id ++ any_line (below at) (codes "value") other.value

unfoldable pub address_line : Place → List ℕ → List ℕ
address_line at octets = line at (codes "IP address") (address_text octets)

unfoldable pub general_name_lines : Place → GeneralName → List ℕ
general_name_lines at (OtherName other) = other_lines at other
general_name_lines at (Rfc822Name text) = line at (codes "email") text
general_name_lines at (DnsName text) = line at (codes "DNS name") text
general_name_lines at (DirectoryName name) = name_line at (codes "directory name") name
general_name_lines at (EdiPartyName party) = party_lines at party
general_name_lines at (UniformResourceIdentifier text) = line at (codes "URI") text
general_name_lines at (IpAddress octets) = address_line at octets
general_name_lines at (RegisteredId oid) = oid_line at (codes "registered ID") oid

abbrev pub names_lines : Place → List GeneralName → List ℕ
names_lines at names = flat_map (general_name_lines at) names

-- names under a label
unfoldable pub labelled_names : Place → List ℕ → List GeneralName → List ℕ
labelled_names at label names = line at label [] ++ names_lines (below at) names

abbrev pub optional_names : Place → List ℕ → Option (List GeneralName) → List ℕ
optional_names at label names = optional (labelled_names at label) names

-- the name of a distribution point (RFC 5280 4.2.1.13)
unfoldable pub point_name_lines : Place → DistributionPointName → List ℕ
point_name_lines at (FullName names) = names_lines at names
point_name_lines at (NameRelativeToCRLIssuer rdn) = line at (codes "name relative to the CRL issuer") (rdn_text rdn)

-- where more is found out about the issuer or the subject (RFC 5280 4.2.2)
unfoldable pub access_lines : Place → AccessDescription → List ℕ
access_lines at access =
    oid_line at (codes "access method") access.access_method ++ general_name_lines (below at) access.access_location

abbrev pub accesses_lines : Place → List AccessDescription → List ℕ
accesses_lines at accesses = flat_map (access_lines at) accesses
