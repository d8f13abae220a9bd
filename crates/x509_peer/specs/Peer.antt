-- What a certificate may name a peer by (RFC 9525 2; of e-mail RFC 5280 4.2.1.6).
use Rattle.std.specs.Prelude.{ℕ, List}
use Rattle.x509_ext.specs.GeneralName.{address_octets}
use Rattle.x509_peer.specs.declared.email.EmailAddress.{EmailAddress}
use Rattle.x509_peer.specs.declared.peer.Peer.{Peer}
use Rattle.x509_peer.specs.declared.peer.Peer.TheVariants as peers
use Rattle.x509_peer.specs.declared.server.ServerName.{ServerName}
use Rattle.x509_peer.specs.declared.server.ServerName.TheVariants as servers

-- a host by its DNS name, a host by its address, a mailbox by what stands before and behind its '@'
pub data Named : Type 0 where
  Host : List ℕ → Named
  Address : List ℕ → Named
  Mailbox : List ℕ → List ℕ → Named

abbrev pub named_server : ServerName → Named
named_server (servers.Dns name) = Host name.octets.now
named_server (servers.Address address) = Address (address_octets address)

abbrev pub named_email : EmailAddress → Named
named_email address = Mailbox address.local.now address.host.octets.now

abbrev pub named : Peer → Named
named (peers.Host name) = Host name.octets.now
named (peers.Address octets) = Address octets.now
named (peers.Mailbox address) = named_email address
