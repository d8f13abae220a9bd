-- Which texts are names of peers.
use Rattle.std.specs.Prelude.{◌≡◌, ℕ, List, true, Some}
use Rattle.x509_constraints.specs.Email.{is_mailbox, mailbox_of}
use Rattle.x509_host.specs.Host.{is_dns_name, without_root}
use Rattle.x509_peer.specs.Address.{IsAddressText}
use Rattle.x509_peer.specs.Peer.{Named, Host, Address, Mailbox}

-- a DNS name, perhaps with the dot of the root at its end
abbrev pub IsDnsText : List ℕ → List ℕ → Type 0
IsDnsText text name = (name ≡ without_root text) × (is_dns_name name ≡ true)

-- a local part (RFC 5321 4.1.2), '@' and a DNS name
abbrev pub IsEmailText : List ℕ → List ℕ → List ℕ → Type 0
IsEmailText text local host = (is_mailbox text ≡ true) × (mailbox_of text ≡ Some (local, host)) × (is_dns_name host ≡ true)

-- the text is that of a server's name
abbrev pub IsServerText : List ℕ → Named → Type 0
IsServerText text (Host name) = IsDnsText text name
IsServerText text (Address octets) = IsAddressText text octets
IsServerText text (Mailbox local host) = ⊥

-- the text is that of an address of e-mail
abbrev pub IsMailboxText : List ℕ → Named → Type 0
IsMailboxText text (Host name) = ⊥
IsMailboxText text (Address octets) = ⊥
IsMailboxText text (Mailbox local host) = IsEmailText text local host
