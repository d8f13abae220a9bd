-- What calls from C answer on names of peers (RFC 9525).
use Rattle.std.specs.Prelude.{◌≡◌, ◌⊎◌, ℕ, ◌+◌, ◌-◌, List, ◌++◌, length, replicate}
use Rattle.x509_base.specs.declared.profile.Rfc5280.{Rfc5280}
use Rattle.x509_c_calls.specs.declared.peer.email.EmailView.{EmailView}
use Rattle.x509_c_calls.specs.declared.peer.server.ServerNameView.{ServerNameView}
use Rattle.x509_c_calls.specs.declared.status.status.Status.{Status}
use Rattle.x509_c_calls.specs.declared.status.status.Status.TheVariants.{Done, Refused}
use Rattle.x509_cert.specs.declared.certificate.certificate.CertificateInner.{CertificateInner}
use Rattle.x509_der.specs.Form.{Form, Spells}
use Rattle.x509_der.specs.declared.error.ErrorKind.{ErrorKind}
use Rattle.x509_der.specs.declared.error.ErrorKind.TheVariants.{Value}
use Rattle.x509_ext.specs.LookUp.{members}
use Rattle.x509_peer.specs.Naming.{Names}
use Rattle.x509_peer.specs.Peer.{Named, Host, Address, Mailbox}
use Rattle.x509_peer.specs.Texts.{IsMailboxText, IsServerText}
use Rattle.x509_types.specs.Reencoding.{IsRefused}

abbrev pub Certificate : Type 0
Certificate = CertificateInner Rfc5280

-- 1 where the certificate names the peer, else 0
abbrev pub SaysNamed : Certificate → Named → ℕ → Type 0
SaysNamed certificate peer answer =
    ((answer ≡ 1) × Names (members certificate.tbs_certificate.extensions) peer)
    ⊎ ((answer ≡ 0) × (Names (members certificate.tbs_certificate.extensions) peer → ⊥))

-- the bytes are no certificate; or they are one, and the text is that of no peer
abbrev pub IsWhyUnasked : Form Certificate → (ErrorKind → Type 0) → List ℕ → (Named → Type 0) → ErrorKind → Type 0
IsWhyUnasked form refuses input IsText e =
    IsRefused form refuses input e
    ⊎ (((certificate : Certificate) × Spells form certificate input) × (e ≡ Value) × ((peer : Named) → ¬ (IsText peer)))

-- Done: the bytes are a certificate, the text is that of a peer, and whether one names the other is filled in. Where the call is refused,
-- what isn't filled in stays as it was.
unfoldable pub TellsWhetherNamed : Form Certificate → (ErrorKind → Type 0) → List ℕ → (Named → Type 0) → ℕ → ℕ → Status → Type 0
TellsWhetherNamed form refuses input IsText was is Done = (certificate : Certificate) × (peer : Named) × Spells form certificate input × IsText peer × SaysNamed certificate peer is
TellsWhetherNamed form refuses input IsText was is (Refused e) = IsWhyUnasked form refuses input IsText e × (is ≡ was)
TellsWhetherNamed form refuses input IsText was is _ = ⊥

-- ---- texts

-- how long a DNS name is, or the octets of an address and zeros behind them
abbrev pub IsServerView : Named → ServerNameView → Type 0
IsServerView (Host name) view = (view.name_len ≡ length name) × (view.address_len ≡ 0) × (view.address ≡ replicate 16 0)
IsServerView (Address octets) view = (view.name_len ≡ 0) × (view.address_len ≡ length octets) × (view.address ≡ octets ++ replicate (16 - length octets) 0)
IsServerView (Mailbox local host) view = ⊥

-- where the parts stand
abbrev pub IsEmailView : Named → EmailView → Type 0
IsEmailView (Mailbox local host) view =
    (view.local.place ≡ 0) × (view.local.len ≡ length local) × (view.host.place ≡ length local + 1) × (view.host.len ≡ length host)
IsEmailView _ view = ⊥

-- Done: the text is that of a peer, which is filled in; or the text is that of none, and what isn't filled in stays as it was.
unfoldable pub SaysPeer : {V : Type 0} → (Named → Type 0) → (Named → V → Type 0) → V → V → Status → Type 0
SaysPeer IsText IsView was is Done = (peer : Named) × IsText peer × IsView peer is
SaysPeer IsText IsView was is (Refused e) = (e ≡ Value) × ((peer : Named) → ¬ (IsText peer)) × (is ≡ was)
SaysPeer IsText IsView was is _ = ⊥
