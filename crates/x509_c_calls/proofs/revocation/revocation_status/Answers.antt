use Rattle.std.proofs.Common.{◌∙◌, inl, refl, subst, sym}
use Rattle.x509_c_calls.proofs.revocation.revocation_status.Goals as goal
use Rattle.x509_c_calls.specs.OpenedCrls.{IsOpened}
use Rattle.x509_c_calls.specs.RevocationStatus.{AllPairs, AreGiven, AskedStatus, TellsStatus}
use Rattle.x509_path.specs.Lent.{Lends}
use Rattle.x509_revocation.specs.Lent.{LendsAll}

pub returns-in-Ok-revocation_status : goal.returns-in-Ok-revocation_status
unfolding TellsStatus
returns-in-Ok-revocation_status c =
    let crls = c.args.crls.now in
    let bytes = c.args.bytes.now in
    let certificate = c.in-Ok.ensures.found in
    let is_found = c.in-Ok-verified_of.ensures in
    let opened = c.in-Ok-open_all.ensures in
    let given = opened.0 in
    let are_given = subst (λ it. AreGiven bytes it given) (c.as_slice.ensures.value ∙ is_found) opened.1 in
    let lends = c.in-Ok-lent_crls.ensures given (subst (λ it. AllPairs IsOpened it given) (sym c.as_slice-2.ensures.value) opened.2) in
    let lent = subst (λ it. LendsAll it given) (sym c.as_slice-3.ensures.value) lends in
    let answers = c.in-Ok-revocation_status.ensures.answers certificate.1.0 given (subst (λ octets. Lends octets certificate.1.0) (sym certificate.0) certificate.1.1) lent in
    let told = c.answer_of.ensures crls (c.as_slice-in-Ok-revocation_status.ensures.value ∙ is_found) in
    let asked : AskedStatus c.args.certificate.now bytes crls c.args.settings.now = record {
      certificate = certificate.1.0;
      spelled = certificate.1.1;
      settings = c.in-Some.settings;
      are_settings = c.in-Some.ensures;
      given = given;
      are_given = are_given;
    } in
    inl (asked, c.in-Ok-revocation_status.status, refl, answers, told)
