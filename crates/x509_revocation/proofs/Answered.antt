-- One CRL after the other.
use Rattle.std.proofs.Common.{◌≡◌, ℕ, suc, ◌-◌, ◌^◌, inl, inr, List, [], ◌∷◌, Some, None, ap, refl, subst}
use Rattle.std.specs.Int.Bits.{and_zero_l}
use Rattle.x509_ext.specs.declared.pkix.reasons.Reasons.{Reasons}
use Rattle.x509_revocation.specs.Lent.{LendsAll, LendsGiven, Steps}
use Rattle.x509_revocation.specs.Points.{all_reasons}
use Rattle.x509_revocation.specs.Says.{GivenCrl, Question}
use Rattle.x509_revocation.specs.Status.{Answers, AnswersFrom, last_status, minus}
use Rattle.x509_revocation.specs.declared.steps.Step.TheVariants.{Left, Revoked}
use Rattle.x509_revocation.specs.declared.signed_crl.SignedCrl.{SignedCrl}
use Rattle.x509_revocation.specs.declared.status.Revocation.{Revocation}
use Rattle.x509_revocation.specs.declared.status.RevocationStatus.{RevocationStatus}
use Rattle.x509_revocation.specs.declared.status.RevocationStatus.TheVariants as status

-- ---- where no reason is left

still : (left reasons : Reasons) → left.0 ≡ 0 → minus left reasons ≡ left
still left reasons none = ap (λ n. record { 0 = n }) (rw none (and_zero_l (2 ^ 16 - 1 - reasons.0)))

last : (left : Reasons) → left.0 ≡ 0 → status.Unrevoked ≡ last_status left
last left none = rw none refl

all_ended : (question : Question) (all : List GivenCrl) (place : ℕ) (left : Reasons) → left.0 ≡ 0 → (others : List GivenCrl) → AnswersFrom question all place left others status.Unrevoked
all_ended question all place left none [] = last left none
all_ended question all place left none (given ∷ others) = inl ((λ reasons revoked says adds. adds (still left reasons none)), all_ended question all (suc place) left none others)

-- ---- one CRL after the other

module _ (question : Question) (given : List GivenCrl) where
  -- what is answered to these CRLs, from that place on and with these reasons left, is the answer to all
  abbrev pub Goes : List SignedCrl → ℕ → Reasons → Type 0
  Goes lent place left = (others : List GivenCrl) × LendsAll lent others × ((answer : RevocationStatus) → AnswersFrom question given place left others answer → Answers question given answer)

  module _ (place : ℕ) (left : Reasons) where
    -- a CRL is left where one is lent
    pub some_given : {P : Type 0} (first : SignedCrl) (lent : List SignedCrl) → Goes (first ∷ lent) place left → ((g : GivenCrl) → LendsGiven first g → P) → P
    some_given first lent ([], lends, then) h = absurd lends
    some_given first lent (g ∷ others, lends, then) h = h g lends.0

    pub further : (first : SignedCrl) (lent : List SignedCrl) (rest : Reasons) → Goes (first ∷ lent) place left → ((g : GivenCrl) → LendsGiven first g → Steps question given place left g (Left rest)) → Goes lent (suc place) rest
    further first lent rest ([], lends, then) h = absurd lends
    further first lent rest (g ∷ others, lends, then) h = (
      others,
      lends.1,
      λ answer answers. elim (h g lends.0) [
        | inl (unused, same) ↦ then answer (inl (unused, subst (λ l. AnswersFrom question given (suc place) l others answer) same answers))
        | inr (reasons, says, adds, same) ↦ then answer (inr (reasons, None, says, adds, subst (λ l. AnswersFrom question given (suc place) l others answer) same answers))
      ],
    )

    pub decided : (first : SignedCrl) (lent : List SignedCrl) (revocation : Revocation) → Goes (first ∷ lent) place left → ((g : GivenCrl) → LendsGiven first g → Steps question given place left g (Revoked revocation)) → Answers question given (status.Revoked revocation.crl revocation.date revocation.reason)
    decided first lent revocation ([], lends, then) h = absurd lends
    decided first lent revocation (g ∷ others, lends, then) h = let s = h g lends.0 in then (status.Revoked revocation.crl revocation.date revocation.reason) (inr (s.0, Some revocation, s.1, s.2, refl))

    pub done : Goes [] place left → Answers question given (last_status left)
    done ([], lends, then) = then (last_status left) refl
    done (g ∷ others, lends, then) = absurd lends

    -- where no reason is left, none of the others is used
    pub ended : (lent : List SignedCrl) → left.0 ≡ 0 → Goes lent place left → Answers question given status.Unrevoked
    ended lent none (others, lends, then) = then status.Unrevoked (all_ended question given place left none others)

none_given : (question : Question) (given : List GivenCrl) (found : RevocationStatus) → LendsAll [] given → found ≡ last_status all_reasons → Answers question given found
none_given question [] found lends is = is
none_given question (g ∷ given) found lends is = absurd lends

-- where no CRL is lent, none is given
pub none_asked : (question : Question) (lent : List SignedCrl) (given : List GivenCrl) (found : RevocationStatus) → lent ≡ [] → LendsAll lent given → found ≡ last_status all_reasons → Answers question given found
none_asked question lent given found none lends is = none_given question given found (subst (λ l. LendsAll l given) none lends) is
