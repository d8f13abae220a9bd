use Rattle.std.proofs.Common.{◌∙◌, inl, inr, length, refl, subst, sym}
use Rattle.std.proofs.lemmas.Option.{slice_get_read}
use Rattle.x509_c_calls.proofs.RevocationCrls.{lends-one}
use Rattle.x509_c_calls.proofs.revocation.crl_fault.Goals as goal
use Rattle.x509_c_calls.specs.CrlFaults.{TellsFault}
use Rattle.x509_c_calls.specs.OpenedCrls.{IsOpened}
use Rattle.x509_c_calls.specs.RevocationStatus.{AllPairs, AreGiven, AskedStatus}
use Rattle.x509_der.specs.declared.error.ErrorKind.TheVariants.{Value}
use Rattle.x509_path.specs.Lent.{Lends}
use Rattle.x509_revocation.specs.Lent.{LendsAll}

pub returns-in-Ok-crl_fault : goal.returns-in-Ok-crl_fault
unfolding TellsFault
returns-in-Ok-crl_fault c =
    let crls = c.args.crls.now in
    let bytes = c.args.bytes.now in
    let certificate = c.in-Ok.ensures.found in
    let own = c.in-Ok-open_one.ensures in
    let is_found = c.in-Ok-verified_of.ensures in
    let opened = c.in-Ok-open_all.ensures in
    let given = opened.0 in
    let are_given = subst (λ it. AreGiven bytes it given) (c.as_slice.ensures.value ∙ is_found) opened.1 in
    let lends = c.in-Ok-lent_crls.ensures given (subst (λ it. AllPairs IsOpened it given) (sym c.as_slice-2.ensures.value) opened.2) in
    let lent = subst (λ it. LendsAll it given) (sym c.as_slice-3.ensures.value) lends in
    let asked : AskedStatus c.args.certificate.now bytes crls c.args.settings.now = record {
      certificate = certificate.1.0;
      spelled = certificate.1.1;
      settings = c.in-Some.settings;
      are_settings = c.in-Some.ensures;
      given = given;
      are_given = are_given;
    } in
    let looked = rw c.in-Some-get.is at c.get.ensures.lookup in
    let told = c.in-Ok-crl_fault.ensures certificate.1.0 given own.0 (subst (λ octets. Lends octets certificate.1.0) (sym certificate.0) certificate.1.1) lent (lends-one _ _ own.0 (refl, refl) own.2) in
    inl (asked, c.in-Some-get.spans.now, own.0, c.in-Ok-crl_fault.told, refl, slice_get_read crls (length crls) c.args.place c.in-Some-get.spans.now refl looked.3.0 looked.1, own.1, told, c.fault_number.ensures)

pub returns-in_default-get : goal.returns-in_default-get
unfolding TellsFault
returns-in_default-get c =
    let looked = rw c.in_default-get.is at c.get.ensures.lookup in
    inr (Value, refl, refl, inr (inl (refl, looked.3)))

pub returns-in-Err-open_one : goal.returns-in-Err-open_one
unfolding TellsFault
returns-in-Err-open_one c =
    let crls = c.args.crls.now in
    let spans = c.in-Some-get.spans.now in
    let looked = rw c.in-Some-get.is at c.get.ensures.lookup in
    inr (c.in-Err-open_one.e, refl, refl, inr (inr (spans, slice_get_read crls (length crls) c.args.place spans refl looked.3.0 looked.1, c.in-Err-open_one.ensures)))
