use Rattle.std.proofs.Common.{◌≡◌, ◌∙◌, ◌⊎◌, inl, inr, ℕ, List, Bor, Some, None, true, false, refl, sym, ap, subst}
use Rattle.std.proofs.lemmas.Bool.{true≢false}
use Rattle.x509_base.specs.SubjectPublicKeyInfo.{subject_public_key_info}
use Rattle.x509_path.specs.Certificates.{accept_all}
use Rattle.x509_path_steps.specs.Inputs.{AreUnreadable, LendsInputs}
use Rattle.x509_path_steps.specs.contracts.validation_fault.ValidationFaultPartialEq.TheImpl as fault_eq
use Rattle.x509_path_steps.specs.declared.validation_fault.ValidationFault.TheVariants.{At, Memory}
use Rattle.x509_path_steps.specs.declared.validation_fault.ValidationReason.TheVariants.{Signature}
use Rattle.x509_verify.proofs.Attempting.{found, right_after, tried, why_refused, why_unsigned}
use Rattle.x509_verify.proofs.search.Search.attempt.Goals as goal
use Rattle.x509_verify.specs.Found.{octets}
use Rattle.x509_verify.specs.Progress.{TellsSigned}
use Rattle.x509_verify.specs.declared.found.Found.{Found}
use Rattle.x509_verify.specs.declared.progress.Progress.{Progress}

pub returns-in-Err-clause-tells : goal.returns-in-Err-clause-tells
returns-in-Err-clause-tells g c = λ wanted same is_trusted on right.
    let accepts = g.V.SliceVerifier.accepts c.args.self.now.verifier.now in
    let path = octets c.args.path.now in
    let why = why_refused accepts wanted c.args.trusted.now path is_trusted on (λ v bytes spells. (_, c.signed_bytes_spell_the_signed_part.ensures.found v bytes spells)) c.in-Err.fault (λ is. true≢false (subst (λ f. fault_eq.ghosts.eq f Memory ≡ false) is (sym c.eq.ensures ∙ c.if-eq.false)))
    (λ inputs lent. c.in-Err.ensures.lent inputs (subst (λ s. LendsInputs c.args.trusted.now s inputs) same lent)) in
    let after : Progress = record { steps = c.args.progress.now.steps; paths = c.take_one.new.left; signatures = c.args.progress.now.signatures; asked = c.args.progress.now.asked; refusal = c.note.new.noted } in record {
      right = right_after accepts wanted c.args.trusted.now path is_trusted on c.args.progress.now after c.in-Err.fault right right.asked
          (λ told is. elim (c.in_ok-note-in-Err.ensures.which told is) [
            | inl was ↦ inl was
            | inr (under, lent, so) ↦ inr (under, ap octets lent, so)
          ]) why;
      noted = λ was. c.in_ok-note-in-Err.ensures.some;
      answer = tried accepts wanted c.args.trusted.now path is_trusted on c.in-Err.fault c.note.new.noted c.in_ok-note-in-Err.ensures.some why;
    }

pub returns-in-Some-clause-tells : goal.returns-in-Some-clause-tells
returns-in-Some-clause-tells g c = λ wanted same is_trusted on right.
    let accepts = g.V.SliceVerifier.accepts c.args.self.now.verifier.now in
    let path = octets c.args.path.now in
    let asked = c.in_ok-unsigned.ensures.remembered right.asked in
    let why = why_unsigned accepts wanted c.args.trusted.now path is_trusted on c.in-Some.place
    (λ key spells. subst (λ o. TellsSigned accepts key path o) c.in-Some.is (c.in_ok-unsigned.ensures.tells key spells right.asked)) in
    let after : Progress = record { steps = c.args.progress.now.steps; paths = c.take_one.new.left; signatures = c.unsigned_place.new.left; asked = c.unsigned_place.new.asked; refusal = c.note-in-Some.new.noted } in record {
      right = right_after accepts wanted c.args.trusted.now path is_trusted on c.args.progress.now after (At c.in-Some.place Signature) right asked
          (λ told is. elim (c.in_ok-note.ensures.which told is) [
            | inl was ↦ inl was
            | inr (under, lent, so) ↦ inr (under, ap octets lent, so)
          ]) why;
      noted = λ was. c.in_ok-note.ensures.some;
      answer = tried accepts wanted c.args.trusted.now path is_trusted on (At c.in-Some.place Signature) c.note-in-Some.new.noted c.in_ok-note.ensures.some why;
    }

pub returns-clause-tells : goal.returns-clause-tells
returns-clause-tells g c = λ wanted same is_trusted on right.
    let accepts = g.V.SliceVerifier.accepts c.args.self.now.verifier.now in
    let path = octets c.args.path.now in
    let it : Found = record { trusted = c.args.trusted.now; path = c.in_ok-from_slice.field-0; validated = c.in-Ok.validated } in record {
      right = record { asked = c.in_ok-unsigned.ensures.remembered right.asked; refusal = right.refusal };
      noted = λ was. was;
      answer = found accepts wanted c.args.trusted.now path is_trusted on it refl (ap octets c.in_ok-from_slice.ensures.items)
          (λ inputs lent. c.in-Ok.ensures.lent inputs (subst (λ s. LendsInputs c.args.trusted.now s inputs) same lent))
          (λ none. c.in-Ok.ensures.unreadable (subst (λ s. AreUnreadable c.args.trusted.now s) same none))
          (λ key spells. subst (λ o. TellsSigned accepts key path o) c.in_default.is (c.in_ok-unsigned.ensures.tells key spells right.asked))
          (λ inputs. c.signatures_of_validated_paths_may_be_verified_apart.ensures accepts inputs path);
    }
