-- Signatures along a path, apart from the other faults.
use Rattle.std.proofs.Common.{◌≡◌, ◌↔◌, ◌∙◌, ◌⊎◌, inl, inr, ℕ, zero, suc, ◌+◌, ◌<◌, true, List, [], ◌∷◌, ◌++◌, length, drop, Option, Some, None, Err, refl, sym, ap, subst, arith}
use Rattle.x509_base.specs.SubjectPublicKeyInfo.{subject_public_key_info}
use Rattle.x509_base.specs.declared.subject_public_key_info.SubjectPublicKeyInfo.{SubjectPublicKeyInfo}
use Rattle.x509_cert.specs.Certificate.{rfc5280_certificate}
use Rattle.x509_cert.specs.Signed.{IsSignedPart}
use Rattle.x509_der.specs.Form.{Spells}
use Rattle.x509_path.proofs.Firsts.{one_certificate}
use Rattle.x509_path.specs.Certificates.{Accepting, Certificate, IsSigned, accept_all}
use Rattle.x509_path.specs.Lent.{Lends}
use Rattle.x509_path.specs.Path.{HasFaultBehind, subject_of}
use Rattle.x509_path.specs.declared.anchor.Anchor.{Anchor}
use Rattle.x509_path_steps.proofs.WorkingKeys.{one_behind}
use Rattle.x509_path_steps.specs.Inputs.{Inputs}
use Rattle.x509_path_steps.specs.Keys.{key_behind, working_key}
use Rattle.x509_path_steps.specs.Validation.{AreUnusable, Answers, HasFault, PathIsValid, faults_at}
use Rattle.x509_path_steps.specs.declared.validation_fault.ValidationFault.{ValidationFault}
use Rattle.x509_path_steps.specs.declared.validation_fault.ValidationFault.TheVariants.{Memory, Empty, Initial, At}
use Rattle.x509_path_steps.specs.declared.validation_fault.ValidationReason.{ValidationReason}
use Rattle.x509_path_steps.specs.declared.validation_fault.ValidationReason.TheVariants.{Signature}
use Rattle.x509_verify.specs.Found.{Refuses}
use Rattle.x509_verify.specs.Progress.{AreSigned, IsUnsignedAt}

module _ (accepts : Accepting) (inputs : Inputs) where
  abbrev trusted : SubjectPublicKeyInfo
  trusted = inputs.trust.anchor.key

  -- where each signature is accepted none is a fault
  pub no_unsigned : (above : Anchor) (before : List Certificate) (key : SubjectPublicKeyInfo) (path : List (List ℕ)) (place : ℕ) → key ≡ key_behind inputs.trust.anchor.key before
      → AreSigned accepts key path → HasFaultBehind (faults_at accepts inputs) above before path place Signature → ⊥
  no_unsigned above before key [] place is signed fault = fault
  no_unsigned above before key (bytes ∷ path) zero is (c, lends, signed, more) (inl (unreadable, decode)) = unreadable c lends
  no_unsigned above before key (bytes ∷ path) zero is (c, lends, signed, more) (inr (d, spells, unsigned)) =
      unsigned (subst (λ x. IsSigned accepts (key_behind inputs.trust.anchor.key before) bytes x) (one_certificate c d bytes lends spells) (subst (λ k. IsSigned accepts k bytes c) is signed))
  no_unsigned above before key (bytes ∷ path) (suc place) is (c, lends, signed, more) (d, spells, fault) =
      let same = one_certificate c d bytes lends spells in
      let next = ap (λ k. working_key k c.tbs_certificate.subject_public_key_info) is ∙ sym (one_behind inputs.trust.anchor.key before c) in
      no_unsigned (subject_of c) (before ++ c ∷ []) (working_key key c.tbs_certificate.subject_public_key_info) path place next more
      (subst (λ x. HasFaultBehind (faults_at accepts inputs) (subject_of x) (before ++ x ∷ []) path place Signature) (sym same) fault)

  -- one that isn't accepted is a fault there
  pub unsigned_fault : (above : Anchor) (before : List Certificate) (key : SubjectPublicKeyInfo) (path : List (List ℕ)) (place : ℕ) → key ≡ key_behind inputs.trust.anchor.key before
      → IsUnsignedAt accepts key path place → HasFaultBehind (faults_at accepts inputs) above before path place Signature
  unsigned_fault above before key [] place is unsigned = unsigned
  unsigned_fault above before key (bytes ∷ path) zero is (c, lends, unsigned) = inr (c, lends, subst (λ k. IsSigned accepts k bytes c → ⊥) is unsigned)
  unsigned_fault above before key (bytes ∷ path) (suc place) is (c, lends, more) =
      let next = ap (λ k. working_key k c.tbs_certificate.subject_public_key_info) is ∙ sym (one_behind inputs.trust.anchor.key before c) in
      (c, lends, unsigned_fault (subject_of c) (before ++ c ∷ []) (working_key key c.tbs_certificate.subject_public_key_info) path place next more)

  -- ---- faults with all bits taken for signatures

  module _ (signed : (c : Certificate) (bytes : List ℕ) → Spells rfc5280_certificate c bytes → (part : List ℕ) × IsSignedPart bytes part) where
    own_fault : (above : Anchor) (before : List Certificate) (bytes : List ℕ) (path : List (List ℕ)) (r : ValidationReason)
        → faults_at accept_all inputs above before bytes path r → faults_at accepts inputs above before bytes path r
    own_fault above before bytes path Signature (inl none) = inl none
    own_fault above before bytes path Signature (inr (c, spells, is)) = let (part, stands) = signed c bytes spells in absurd (is (part, stands, refl))
    own_fault above before bytes path _ fault = fault

    pub faults_too : (above : Anchor) (before : List Certificate) (path : List (List ℕ)) (place : ℕ) (r : ValidationReason)
        → HasFaultBehind (faults_at accept_all inputs) above before path place r → HasFaultBehind (faults_at accepts inputs) above before path place r
    faults_too above before [] place r fault = fault
    faults_too above before (bytes ∷ path) zero r fault = own_fault above before bytes path r fault
    faults_too above before (bytes ∷ path) (suc place) r (c, spells, fault) = (c, spells, faults_too (subject_of c) (before ++ c ∷ []) path place r fault)

    -- what is answered to a path that isn't valid is why
    pub refuses : (path : List (List ℕ)) (e : ValidationFault) → (path ≡ [] → ⊥) → (e ≡ Memory → ⊥) → Answers accept_all inputs path (Err e) → Refuses accepts inputs path e
    refuses path Memory some other answer = absurd (other refl)
    refuses path Empty some other answer = absurd (some answer)
    refuses path Initial some other answer = answer.1
    refuses path (At place r) some other answer = faults_too inputs.trust.anchor [] path place r answer.1.first.has

  pub refused : (path : List (List ℕ)) (e : ValidationFault) → Refuses accepts inputs path e → PathIsValid accepts inputs path → ⊥
  refused path Memory why valid = why
  refused path Empty why valid = why
  refused path Initial why valid = valid.usable why
  refused path (At place r) why valid = valid.no_fault place r why
