-- The policies of the caller and of what is trusted.
use Rattle.std.proofs.Common.{◌≡◌, ◌↔◌, ℕ, List, Bor, Option, Some, None, subst}
use Rattle.std.specs.Option.{option_map}
use Rattle.x509_der.specs.Form.{Spells}
use Rattle.x509_ext.specs.CertificatePolicies.{certificate_policies}
use Rattle.x509_ext.specs.declared.pkix.certificate_policies.CertificatePolicies.{CertificatePolicies}
use Rattle.x509_path_steps.specs.Inputs.{LendsPolicies}
use Rattle.x509_path_steps.specs.Says.{identifiers}
use Rattle.x509_policy.specs.Anchors.{IsMerged}
use Rattle.x509_policy.specs.Levels.{In}
use Rattle.x509_policy.specs.Values.{Policy}

module _ (lent : Option (Bor (List ℕ))) (octets : Bor (List ℕ)) (is : lent ≡ Some octets) (own : Option CertificatePolicies) (lends : LendsPolicies lent own) (read : List Policy)
    (reads : (value : CertificatePolicies) → Spells certificate_policies value octets.now → read ≡ identifiers value) (user found : List Policy)
    (said : (p : Policy) → In p found ↔ IsMerged user (Some read) p) where
  by_own : (o : Option CertificatePolicies) → LendsPolicies (Some octets) o → (p : Policy) → In p found ↔ IsMerged user (option_map identifiers o) p
  by_own None never p = absurd never
  by_own (Some set) spells p = subst (λ s. In p found ↔ IsMerged user (Some s) p) (reads set spells) (said p)

  pub merged : (p : Policy) → In p found ↔ IsMerged user (option_map identifiers own) p
  merged p = by_own own (subst (λ l. LendsPolicies l own) is lends) p
