-- A general name in a list of them, by its place (RFC 5280 4.2.1.6).
use Rattle.std.specs.Prelude.{◌≡◌, ℕ, List, ◌++◌}
use Rattle.x509_c_calls.specs.Optional.{IsNowhere, IsPerhapsAt}
use Rattle.x509_c_calls.specs.declared.payloads.general_name.GeneralNameView.{GeneralNameView}
use Rattle.x509_c_calls.specs.Place.{IsAt}
use Rattle.x509_c_calls.specs.declared.place.span.Span.{Span}
use Rattle.x509_der.specs.Any.{any}
use Rattle.x509_der.specs.Frames.{explicit}
use Rattle.x509_der.specs.Form.{spelling}
use Rattle.x509_name.specs.DirectoryString.{directory_string}
use Rattle.x509_name.specs.Names.{name}
use Rattle.x509_ext.specs.EdiPartyName.{edi_party_name}
use Rattle.x509_ext.specs.GeneralName.{general_name}
use Rattle.x509_ext.specs.OtherName.{other_name}
use Rattle.x509_ext.specs.declared.pkix.name.general_name.GeneralName.{GeneralName}
use Rattle.x509_ext.specs.declared.pkix.name.general_name.GeneralName.TheVariants.{OtherName, Rfc822Name, DnsName, DirectoryName, EdiPartyName, UniformResourceIdentifier, IpAddress, RegisteredId}

-- the number of its tag
abbrev pub kind_of : GeneralName → ℕ
kind_of (OtherName other) = 0
kind_of (Rfc822Name text) = 1
kind_of (DnsName text) = 2
kind_of (DirectoryName rdns) = 4
kind_of (EdiPartyName party) = 5
kind_of (UniformResourceIdentifier text) = 6
kind_of (IpAddress octets) = 7
kind_of (RegisteredId oid) = 8

-- what stands in its element: the octets of a text, of an address or of an object identifier, the element of a Name, or fields
abbrev pub held : GeneralName → List ℕ
held (OtherName other) = other_name.content other
held (Rfc822Name text) = text
held (DnsName text) = text
held (DirectoryName rdns) = spelling name rdns
held (EdiPartyName party) = edi_party_name.content party
held (UniformResourceIdentifier text) = text
held (IpAddress octets) = octets
held (RegisteredId oid) = oid

-- where the type of an otherName stands, and its value, behind which those octets stand; of other names nowhere
abbrev pub IsOther : GeneralName → List ℕ → List ℕ → Span → Span → Type 0
IsOther (OtherName other) behind bytes type_id value = IsAt other.type_id (spelling (explicit 0 any) other.value ++ behind) bytes type_id × IsAt (spelling any other.value) behind bytes value
IsOther _ behind bytes type_id value = IsNowhere type_id × IsNowhere value

-- where the names of an ediPartyName stand, its assigner's and the party's, behind which those octets stand; of other names nowhere
abbrev pub IsParty : GeneralName → List ℕ → List ℕ → Span → Span → Type 0
IsParty (EdiPartyName party) behind bytes assigner name =
    IsPerhapsAt (spelling directory_string) party.name_assigner (spelling (explicit 1 directory_string) party.party_name ++ behind) bytes assigner
    × IsAt (spelling directory_string party.party_name) behind bytes name
IsParty _ behind bytes assigner name = IsNowhere assigner × IsNowhere name

-- what the view says of a name in these bytes, behind which those others stand
pub record IsGeneralName (bytes : List ℕ) (value : GeneralName) (behind : List ℕ) (view : GeneralNameView) : Type 0 where
  pub kind : view.kind ≡ kind_of value
  pub element : IsAt (spelling general_name value) behind bytes view.element
  pub content : IsAt (held value) behind bytes view.content
  pub other : IsOther value behind bytes view.type_id view.value
  pub party : IsParty value behind bytes view.name_assigner view.party_name
