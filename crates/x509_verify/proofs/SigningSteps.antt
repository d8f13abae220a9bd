-- Going down a path from signature to signature.
use Rattle.std.proofs.Common.{◌≡◌, ◌↔◌, ◌∙◌, ◌⊎◌, inl, inr, ℕ, zero, suc, ◌+◌, ◌<◌, true, List, [], ◌∷◌, ◌++◌, length, drop, get_or, Option, Some, None, refl, sym, ap, subst, arith}
use Rattle.std.proofs.Math.Seq.{drop-cons}
use Rattle.x509_base.specs.SubjectPublicKeyInfo.{subject_public_key_info}
use Rattle.x509_base.specs.declared.subject_public_key_info.SubjectPublicKeyInfo.{SubjectPublicKeyInfo}
use Rattle.x509_der.specs.Form.{Spells}
use Rattle.x509_path.specs.Certificates.{Accepting, Certificate, IsSigned}
use Rattle.x509_path.specs.Lent.{Lends}
use Rattle.x509_path_steps.specs.Keys.{working_key}
use Rattle.x509_verify.specs.Progress.{AreSigned, IsUnsignedAt}

-- behind so many certificates the key is this one, and what holds of the rest of the path under it holds of the whole
pub record Passed (accepts : Accepting) (trusted : SubjectPublicKeyInfo) (path : List (List ℕ)) (place : ℕ) (above : List ℕ) : Type 0 where
  pub key : SubjectPublicKeyInfo
  pub spells : Spells subject_public_key_info key above
  pub signed : AreSigned accepts key (drop place path) → AreSigned accepts trusted path
  pub unsigned : (p q : ℕ) → q ≡ place + p → IsUnsignedAt accepts key (drop place path) p → IsUnsignedAt accepts trusted path q

pub begins : (accepts : Accepting) (trusted : SubjectPublicKeyInfo) (path : List (List ℕ)) (above octets : List ℕ) → octets ≡ above → Spells subject_public_key_info trusted above
    → Passed accepts trusted path 0 octets
begins accepts trusted path above octets same spells = record {
  key = trusted;
  spells = subst (λ o. Spells subject_public_key_info trusted o) (sym same) spells;
  signed = λ h. h;
  unsigned = λ p q is h. let at : p ≡ q = omega (arith, is) in subst (λ n. IsUnsignedAt accepts trusted path n) at h;
}

module _ (accepts : Accepting) (trusted : SubjectPublicKeyInfo) (path : List (List ℕ)) (place : ℕ) (above bytes : List ℕ) (c : Certificate)
    (passed : Passed accepts trusted path place above) (here : drop place path ≡ bytes ∷ drop (suc place) path) (lends : Lends bytes c) where
  pub goes_on : (below : List ℕ) (n : ℕ) → n ≡ suc place → IsSigned accepts passed.key bytes c
      → Spells subject_public_key_info (working_key passed.key c.tbs_certificate.subject_public_key_info) below → Passed accepts trusted path n below
  goes_on below n next signed spells = subst (λ m. Passed accepts trusted path m below) (sym next) (record {
    key = working_key passed.key c.tbs_certificate.subject_public_key_info;
    spells = spells;
    signed = λ h. passed.signed (subst (λ p. AreSigned accepts passed.key p) (sym here) (c, lends, signed, h));
    unsigned = λ p q is h. passed.unsigned (suc p) q (omega (arith, is)) (subst (λ x. IsUnsignedAt accepts passed.key x (suc p)) (sym here) (c, lends, h));
  })

  pub stops : (IsSigned accepts passed.key bytes c → ⊥) → IsUnsignedAt accepts trusted path place
  stops unsigned = passed.unsigned 0 place (omega arith) (subst (λ x. IsUnsignedAt accepts passed.key x 0) (sym here) (c, lends, unsigned))

pub ends : (accepts : Accepting) (trusted : SubjectPublicKeyInfo) (path : List (List ℕ)) (place : ℕ) (above : List ℕ) → Passed accepts trusted path place above → length path ≡ place
    → drop place path ≡ [] → AreSigned accepts trusted path
ends accepts trusted path place above passed all none = passed.signed (subst (λ p. AreSigned accepts passed.key p) (sym none) tt)
