-- There is one status by some CRLs.
use Rattle.std.proofs.Common.{◌≡◌, ◌∙◌, ℕ, suc, inl, inr, List, [], ◌∷◌, Option, Some, None, refl, sym, ap, subst}
use Rattle.std.specs.Prelude.{Bool, MatchOption, option_map}
use Rattle.x509_base.specs.declared.time.Time.{Time}
use Rattle.x509_der.specs.Form.{IsForm}
use Rattle.x509_der.specs.declared.tag.Tag.TheVariants.{Enumerated}
use Rattle.x509_ext.specs.CrlReason.{crl_reason, crl_reason_names}
use Rattle.x509_ext.specs.Identifiers.{id_ce}
use Rattle.x509_ext.specs.declared.pkix.crl_reason.CrlReason.{CrlReason}
use Rattle.x509_ext.specs.declared.pkix.crl_reason.CrlReason.TheVariants.{RemoveFromCRL}
use Rattle.x509_ext.specs.declared.pkix.issuing_distribution_point.IssuingDistributionPoint.{IssuingDistributionPoint}
use Rattle.x509_ext.specs.declared.pkix.reasons.Reasons.{Reasons}
use Rattle.x509_prim.specs.NamesLaws.{named_lawful}
use Rattle.x509_path.specs.Certificates.{Certificate}
use Rattle.x509_revocation.specs.Crls.{Crl, Entry, entry_extensions}
use Rattle.x509_revocation.specs.Entries.{FindsAmong, FindsEntry, Listed, listed}
use Rattle.x509_revocation.specs.Says.{FindsAt, FindsDelta, FindsIn, FindsWith, GivenCrl, HasReason, Question, Says, Tells, deltas_among}
use Rattle.x509_revocation.specs.Points.{is_indirect}
use Rattle.x509_revocation.specs.Status.{Answers, AnswersFrom, minus}
use Rattle.x509_revocation.specs.declared.status.Revocation.{Revocation}
use Rattle.x509_revocation.specs.declared.status.RevocationStatus.{RevocationStatus}
use Rattle.x509_revocation.specs.declared.status.RevocationStatus.TheVariants.{Revoked}
use Rattle.x509_revocation.proofs.OneCover.{Never, one_cover, one_list, one_payload}

-- ---- the entry of a certificate

one_reason : (entry : Entry) (r s : CrlReason) → HasReason entry r → HasReason entry s → r ≡ s
one_reason entry r s (inl h) (inl k) = let law : IsForm Never crl_reason = named_lawful Enumerated crl_reason_names in one_payload crl_reason law (id_ce 21) (entry_extensions entry) r s h k
one_reason entry r s (inl h) (inr k) = absurd (k.0 r h)
one_reason entry r s (inr h) (inl k) = absurd (h.0 s k)
one_reason entry r s (inr h) (inr k) = h.1 ∙ sym k.1

one_among : (c : Certificate) (crl : Crl) (among : List Listed) (x y : Option Entry) → FindsAmong c crl among x → FindsAmong c crl among y → x ≡ y
one_among c crl [] x y h k = h ∙ sym k
one_among c crl (first ∷ others) x y (inl h) (inl k) = h.1 ∙ sym k.1
one_among c crl (first ∷ others) x y (inl h) (inr k) = absurd (k.0 h.0)
one_among c crl (first ∷ others) x y (inr h) (inl k) = absurd (h.0 k.0)
one_among c crl (first ∷ others) x y (inr h) (inr k) = one_among c crl others x y h.1 k.1

-- ---- a delta CRL, and what is found

one_delta : (question : Question) (indirect : Bool) (complete : GivenCrl) (all : List GivenCrl) (place : ℕ) (given : List GivenCrl) (x y : Option (ℕ × GivenCrl)) → FindsDelta question indirect complete all place given x
    → FindsDelta question indirect complete all place given y → x ≡ y
one_delta question indirect complete all place [] x y h k = h ∙ sym k
one_delta question indirect complete all place (first ∷ others) x y (inl h) (inl k) = h.1 ∙ sym k.1
one_delta question indirect complete all place (first ∷ others) x y (inl h) (inr k) = absurd (k.0 h.0)
one_delta question indirect complete all place (first ∷ others) x y (inr h) (inl k) = absurd (h.0 k.0)
one_delta question indirect complete all place (first ∷ others) x y (inr h) (inr k) = one_delta question indirect complete all (suc place) others x y h.1 k.1

one_entry : (c : Certificate) (crl : Crl) (x y : Option Entry) → FindsEntry c crl x → FindsEntry c crl y → x ≡ y
one_entry c crl x y h k = one_among c crl (listed crl) x y h k

one_at : (c : Certificate) (place : ℕ) (crl : Crl) (x y : Option (ℕ × Entry)) → FindsAt c place crl x → FindsAt c place crl y → x ≡ y
one_at c place crl x y (e, finds, is) (f, other, so) = is ∙ ap (λ o. option_map (λ (v : Entry). (place, v)) o) (one_entry c crl e f finds other) ∙ sym so

pub one_found : (c : Certificate) (place : ℕ) (crl : Crl) (delta : Option (ℕ × GivenCrl)) (x y : Option (ℕ × Entry)) → FindsIn c place crl delta x → FindsIn c place crl delta y → x ≡ y
one_found c place crl None x y h k = one_at c place crl x y h k
one_found c place crl (Some d) x y (inl (e, finds, is)) (inl (f, other, so)) =
    let same : Some e ≡ Some f = one_entry c d.1.crl (Some e) (Some f) finds other in
    is ∙ ap (λ o. option_map (λ (v : Entry). (d.0, v)) o) same ∙ sym so
one_found c place crl (Some d) x y (inl (e, finds, is)) (inr (none, other)) = absurd (let both : Some e ≡ None = one_entry c d.1.crl (Some e) None finds none in cc)
one_found c place crl (Some d) x y (inr (none, finds)) (inl (f, other, so)) = absurd (let both : Some f ≡ None = one_entry c d.1.crl (Some f) None other none in cc)
one_found c place crl (Some d) x y (inr (none, finds)) (inr (nothing, other)) = one_at c place crl x y finds other

one_told : (found : Option (ℕ × Entry)) (x y : Option Revocation) → Tells found x → Tells found y → x ≡ y
one_told None x y h k = h ∙ sym k
one_told (Some found) None None h k = refl
one_told (Some found) None (Some r) h k = absurd (k.1 (one_reason found.1 r.reason RemoveFromCRL k.0 h))
one_told (Some found) (Some r) None h k = absurd (h.1 (one_reason found.1 r.reason RemoveFromCRL h.0 k))
one_told (Some found) (Some r) (Some s) h k =
    let reason : r.reason ≡ s.reason = one_reason found.1 r.reason s.reason h.0 k.0 in
    let date : r.date ≡ s.date = h.2 ∙ sym k.2 in
    let crl : r.crl ≡ s.crl = h.3 ∙ sym k.3 in
    ap (λ (x : Revocation). Some x) (
    ap (λ (q : ℕ). record { crl = q; date = r.date; reason = r.reason }) crl
    ∙ ap (λ (q : Time). record { crl = s.crl; date = q; reason = r.reason }) date
    ∙ ap (λ (q : CrlReason). record { crl = s.crl; date = s.date; reason = q }) reason
    )

-- ---- the status

module _ (question : Question) (all : List GivenCrl) where
  one_said : (place : ℕ) (g : GivenCrl) (r q : Reasons) (e f : Option Revocation) → Says question all place g r e → Says question all place g q f → (q ≡ r) × (f ≡ e)
  one_said place g r q e f says tells =
      let list : tells.list ≡ says.list = one_list g.crl tells.list says.list tells.covers.has_list says.covers.has_list in
      let here = subst (λ (l : Option IssuingDistributionPoint). FindsWith question (is_indirect l) all place g tells.found) list tells.finds in
      let there = says.finds in
      let delta : here.0 ≡ there.0 = one_delta question (is_indirect says.list) g (deltas_among question all) 0 (deltas_among question all) here.0 there.0 here.1 there.1 in
      let finds = subst (λ d. FindsIn question.certificate place g.crl d tells.found) delta here.2 in
      let found : tells.found ≡ says.found = one_found question.certificate place g.crl there.0 tells.found says.found finds there.2 in
      (one_cover question.certificate g.crl tells.list says.list q r tells.covers says.covers, one_told says.found f e (subst (λ o. Tells o f) found tells.tells) says.tells)

  ends : (rest : Type 0) (others : Type 0) (s t : RevocationStatus) (revoked : Option Revocation) → (rest → others → s ≡ t) → MatchOption revoked rest (λ found. s ≡ Revoked found.crl found.date found.reason) → MatchOption revoked others (λ found. t ≡ Revoked found.crl found.date found.reason) → s ≡ t
  ends rest others s t None next h k = next h k
  ends rest others s t (Some found) next h k = h ∙ sym k

  one_from : (given : List GivenCrl) (place : ℕ) (left : Reasons) (s t : RevocationStatus) → AnswersFrom question all place left given s → AnswersFrom question all place left given t → s ≡ t
  one_from [] place left s t h k = h ∙ sym k
  one_from (g ∷ given) place left s t (inl h) (inl k) = one_from given (suc place) left s t h.1 k.1
  one_from (g ∷ given) place left s t (inl h) (inr (r, e, says, adds, then)) = absurd (h.0 r e says adds)
  one_from (g ∷ given) place left s t (inr (r, e, says, adds, then)) (inl k) = absurd (k.0 r e says adds)
  one_from (g ∷ given) place left s t (inr (r, e, says, adds, then)) (inr (q, f, tells, joins, after)) =
      let same = one_said place g r q e f says tells in
      let here = subst (λ (x : Reasons). MatchOption f (AnswersFrom question all (suc place) (minus left x) given t) (λ found. t ≡ Revoked found.crl found.date found.reason)) same.0 after in
      let there = subst (λ (o : Option Revocation). MatchOption o (AnswersFrom question all (suc place) (minus left r) given t) (λ found. t ≡ Revoked found.crl found.date found.reason)) same.1 here in
      ends (AnswersFrom question all (suc place) (minus left r) given s) (AnswersFrom question all (suc place) (minus left r) given t) s t e (λ a b. one_from given (suc place) (minus left r) s t a b) then there

pub one : (question : Question) (given : List GivenCrl) (s t : RevocationStatus) → Answers question given s → Answers question given t → s ≡ t
one question given s t h k = one_from question given given 0 _ s t h k
