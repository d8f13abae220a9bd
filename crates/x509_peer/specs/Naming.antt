-- Whether a certificate names a peer (RFC 9525 6; of e-mail RFC 5280 7.5).
use Rattle.std.specs.Prelude.{◌≡◌, ◌⊎◌, ℕ, true, List, [], ◌∷◌, Any, Option, Some, None}
use Rattle.x509_constraints.specs.Email.{mailbox_of}
use Rattle.x509_der.specs.Form.{Spells}
use Rattle.x509_ext.specs.AlternativeNames.{subject_alt_name}
use Rattle.x509_ext.specs.Identifiers.{id_ce}
use Rattle.x509_ext.specs.LookUp.{with_oid}
use Rattle.x509_ext.specs.declared.extension.Extension.{Extension}
use Rattle.x509_ext.specs.declared.pkix.alternative_names.SubjectAltName.{SubjectAltName}
use Rattle.x509_ext.specs.declared.pkix.name.general_name.GeneralName.{GeneralName}
use Rattle.x509_ext.specs.declared.pkix.name.general_name.GeneralName.TheVariants as names
use Rattle.x509_host.specs.Host.{IsSame, IsWildcardOf, is_dns_name}
use Rattle.x509_peer.specs.Peer.{Named, Host, Address, Mailbox}

-- the name is that of the host, without regard to ASCII case, or a wildcard that stands for it (RFC 9525 6.3)
abbrev pub NamesHost : List ℕ → List ℕ → Type 0
NamesHost name host = ((is_dns_name name ≡ true) × IsSame name host) ⊎ IsWildcardOf name host

-- the local part is the same octet for octet, and the host without regard to ASCII case
abbrev pub IsMailboxOf : Option (List ℕ × List ℕ) → List ℕ → List ℕ → Type 0
IsMailboxOf None local host = ⊥
IsMailboxOf (Some (own_local, own_host)) local host = (own_local ≡ local) × (is_dns_name own_host ≡ true) × IsSame own_host host

-- A name of the certificate is that of the peer: a dNSName that of a host, an iPAddress with the same octets that of an address, an
-- rfc822Name that of a mailbox. No other name is.
abbrev pub IsNameOf : Named → GeneralName → Type 0
IsNameOf (Host host) (names.DnsName name) = NamesHost name host
IsNameOf (Address octets) (names.IpAddress own) = own ≡ octets
IsNameOf (Mailbox local host) (names.Rfc822Name name) = IsMailboxOf (mailbox_of name) local host
IsNameOf _ _ = ⊥

-- one of the names that these octets spell
abbrev pub SpellsNameOf : Named → List ℕ → Type 0
SpellsNameOf peer octets = (alternative : SubjectAltName) × Spells subject_alt_name alternative octets × Any (IsNameOf peer) alternative.0

-- The extensions have one SubjectAltName, which can be decoded, and one of its names is that of the peer. Nothing else names it: not the
-- subject, whatever its common name is (RFC 9525 2).
abbrev pub Names : List Extension → Named → Type 0
Names extensions peer = (extension : Extension) × (with_oid (id_ce 17) extensions ≡ extension ∷ []) × SpellsNameOf peer extension.extn_value
