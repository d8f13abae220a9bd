-- Which general names are those of a peer, by their identifier octets.
use Rattle.std.proofs.Common.{◌≡◌, ◌==◌, ℕ, List, Ok, refl, sym, subst, ◌∙◌, arith}
use Rattle.std.proofs.lemmas.Bool.{eqb-true}
use Rattle.std.specs.Prelude.{◌↔◌, IsTrue}
use Rattle.x509_constraints.specs.Email.{mailbox_of}
use Rattle.x509_der.specs.Cases.{choice_content, choice_tag}
use Rattle.x509_ext.specs.GeneralName.{general_name, general_name_lawful}
use Rattle.x509_ext.specs.declared.pkix.name.general_name.GeneralName.{GeneralName}
use Rattle.x509_ext.specs.declared.pkix.name.general_name.GeneralName.TheVariants as names
use Rattle.x509_peer.specs.Naming.{IsMailboxOf, IsNameOf, NamesHost}
use Rattle.x509_peer.specs.Peer.{Named, Host, Address, Mailbox}

-- the identifier octet of the names that a peer may have
abbrev pub kind_of : Named → ℕ
kind_of (Host host) = 0x82
kind_of (Address octets) = 0x87
kind_of (Mailbox local host) = 0x81

-- what is asked of the content octets of such a name
abbrev pub IsOfKind : Named → List ℕ → Type 0
IsOfKind (Host host) content = NamesHost content host
IsOfKind (Address octets) content = content ≡ octets
IsOfKind (Mailbox local host) content = IsMailboxOf (mailbox_of content) local host

other_kind : (peer : Named) (name : GeneralName) → ¬ (general_name.tag name ≡ kind_of peer) → ¬ (IsNameOf peer name)
unfolding choice_tag
other_kind (Host host) (names.DnsName text) other = λ h. other refl
other_kind (Address octets) (names.IpAddress own) other = λ h. other refl
other_kind (Mailbox local host) (names.Rfc822Name text) other = λ h. other refl
other_kind _ _ other = λ h. h

same_kind : (peer : Named) (name : GeneralName) → general_name.tag name ≡ kind_of peer → IsOfKind peer (general_name.content name) ↔ IsNameOf peer name
unfolding choice_tag choice_content
same_kind (Host host) (names.DnsName text) is = (λ h. h, λ h. h)
same_kind (Address octets) (names.IpAddress own) is = (λ h. h, λ h. h)
same_kind (Mailbox local host) (names.Rfc822Name text) is = (λ h. h, λ h. h)
same_kind _ _ is = absurd (omega (arith, is))

module _ (peer : Named) (tag : ℕ) (content : List ℕ) (name : GeneralName) (read : general_name.reading tag content ≡ Ok name) where
  -- a name of another kind is none of the peer
  pub of_other_kind : ¬ (tag ≡ kind_of peer) → IsTrue (tag == kind_of peer) ↔ IsNameOf peer name
  of_other_kind other =
      let s = (general_name_lawful {R = λ e. ⊥}).sound tag content name read in
      (λ h. absurd (other (eqb-true tag (kind_of peer) h)), λ h. absurd (other_kind peer name (λ is. other (s.1 ∙ is)) h))

  -- one of its kind is asked by its content octets
  pub of_its_kind : tag ≡ kind_of peer → IsOfKind peer content ↔ IsNameOf peer name
  of_its_kind is =
      let s = (general_name_lawful {R = λ e. ⊥}).sound tag content name read in
      let P : List ℕ → Type 0 = λ c. IsOfKind peer c ↔ IsNameOf peer name in
      subst P (sym s.2) (same_kind peer name (sym s.1 ∙ is))
