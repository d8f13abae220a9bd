-- What is filled in of whether a certificate names a peer.
use Rattle.std.proofs.Common.{◌≡◌, ℕ, Bool, true, false, refl, inl, inr}
use Rattle.std.proofs.lemmas.Bool.{false≢true}
use Rattle.std.specs.Prelude.{◌↔◌, IsTrue}
use Rattle.x509_c_calls.specs.PayloadExtensions.{flag}
use Rattle.x509_c_calls.specs.Peers.{Certificate, SaysNamed}
use Rattle.x509_ext.specs.LookUp.{members}
use Rattle.x509_peer.specs.Naming.{Names}
use Rattle.x509_peer.specs.Peer.{Named}

pub says_named : (certificate : Certificate) (peer : Named) (found : Bool) → IsTrue found ↔ Names (members certificate.tbs_certificate.extensions) peer → (answer : ℕ) → answer ≡ flag found → SaysNamed certificate peer answer
says_named certificate peer true same answer is = inl (is, same.0 refl)
says_named certificate peer false same answer is = inr (is, λ names. false≢true (same.1 names))
