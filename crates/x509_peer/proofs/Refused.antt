-- Texts that are no names.
use Rattle.std.proofs.Common.{◌≡◌, ℕ, List, Option, Some, None, inl, inr}
use Rattle.std.specs.Prelude.{MatchOption}
use Rattle.x509_ext.specs.GeneralName.{address_octets}
use Rattle.x509_ext.specs.declared.pkix.name.general_name.IpAddress.{IpAddress}
use Rattle.x509_peer.specs.Address.{IsAddressText, IsBracketed, IsIpText}
use Rattle.x509_peer.specs.Peer.{Named, Host, Address, Mailbox}
use Rattle.x509_peer.specs.Texts.{IsDnsText, IsServerText}

-- what is no address without brackets is an address exactly where it is one in brackets
pub bracketed : (text : List ℕ) (found : Option IpAddress) → ((octets : List ℕ) → ¬ (IsIpText text octets)) → MatchOption found ((octets : List ℕ) → ¬ (IsBracketed text octets)) (λ ip. IsBracketed text (address_octets ip))
    → MatchOption found ((octets : List ℕ) → ¬ (IsAddressText text octets)) (λ ip. IsAddressText text (address_octets ip))
bracketed text (Some ip) none found = inr found
bracketed text None none found = λ octets h. elim h [ inl a ↦ none octets a | inr a ↦ found octets a ]

-- what is neither an address nor a DNS name is no server's name
pub no_server : (text : List ℕ) → ((octets : List ℕ) → ¬ (IsAddressText text octets)) → ((name : List ℕ) → ¬ (IsDnsText text name)) → (name : Named) → ¬ (IsServerText text name)
no_server text no_address no_name (Host name) = no_name name
no_server text no_address no_name (Address octets) = no_address octets
no_server text no_address no_name (Mailbox local host) = λ h. h
