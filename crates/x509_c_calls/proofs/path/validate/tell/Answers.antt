use Rattle.std.proofs.Common.{◌≡◌, ◌∙◌, Bor, List, ℕ, length, map, refl, sym, subst, ap}
use Rattle.x509_c_calls.proofs.PolicyOctets.{why_refused}
use Rattle.x509_c_calls.proofs.path.validate.tell.Goals as goal
use Rattle.x509_c_calls.specs.PathValidation.{IsSubjectOfLast, Left, PutsCertificates, TellsValidation, policies_octets}
use Rattle.x509_c_calls.specs.Status.{IsPut}
use Rattle.x509_path_steps.specs.Validation.{IsUnder}
use Rattle.x509_policy.specs.Values.{Policy}
use Rattle.x509_policy.specs.Views.{octets_of}

pub returns-in-Ok : goal.returns-in-Ok
unfolding TellsValidation
returns-in-Ok c inputs lends =
    let path : List (List ℕ) = map (λ (input : Bor (List ℕ)). input.now) c.args.path.now in
    let left : Left = record { room = c.args.room.now; answer = c.args.answer.now; certificates = c.args.certificates.now } in
    let found : List Policy = octets_of c.in-Ok.validated.policies.items in
    let under : IsUnder inputs path found = (c.in-Ok.ensures.lent inputs lends).1.1.0 in
    let same : octets_of c.as_slice.result.now ≡ found = ap octets_of c.as_slice.ensures.value in
    subst (λ status. TellsValidation inputs path left left status) (sym c.into.ensures) (why_refused inputs path found (octets_of c.as_slice.result.now) c.in-Err.e.kind under same c.in-Err.ensures, refl)

pub returns-in-Ok-encoded_policies : goal.returns-in-Ok-encoded_policies
unfolding TellsValidation
returns-in-Ok-encoded_policies c inputs lends =
    let path : List (List ℕ) = map (λ (input : Bor (List ℕ)). input.now) c.args.path.now in
    let (valid, gives) = c.in-Ok.ensures.lent inputs lends in
    let found : List Policy = octets_of c.in-Ok.validated.policies.items in
    let lent : map (λ certificate. certificate.bytes.now) c.as_slice-lent.result.now ≡ path = ap (map (λ certificate. certificate.bytes.now)) c.as_slice-lent.ensures.value ∙ gives.1.1.1 in
    let encoded : c.as_slice-in-Ok-encoded_policies.result.now ≡ policies_octets found =
    c.as_slice-in-Ok-encoded_policies.ensures.value ∙ c.in-Ok-encoded_policies.ensures ∙ ap (λ (l : List (Bor (List ℕ))). policies_octets (octets_of l)) c.as_slice.ensures.value in (
      valid,
      subst (λ p. IsSubjectOfLast p c.subject_of.result) lent (c.subject_of.ensures.subject (λ none. valid.some (sym lent ∙ ap (map (λ certificate. certificate.bytes.now)) none))),
      subst (λ p. PutsCertificates p c.args.certificates.now c.put_certificates.new.room) lent c.put_certificates.ensures,
      found,
      gives.1.0,
      record {
        counted = c.subject_of.ensures.policies ∙ c.len.ensures ∙ sym c.as_slice-in-Ok-encoded_policies.ensures.len ∙ ap length encoded;
        put = subst (λ (octets : List ℕ). IsPut octets c.args.room.now c.put.new.room) encoded c.put.ensures;
      },
    )
