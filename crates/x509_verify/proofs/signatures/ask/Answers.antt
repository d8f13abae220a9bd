use Rattle.std.proofs.Common.{◌≡◌, ◌↔◌, ◌∙◌, List, ℕ, true, subst, sym}
use Rattle.std.proofs.lemmas.List.Elements.{All-push}
use Rattle.std.specs.Bool.{IsTrue}
use Rattle.std.specs.List.{All}
use Rattle.x509_base.specs.SubjectPublicKeyInfo.{subject_public_key_info}
use Rattle.x509_der.specs.Form.{Spells}
use Rattle.x509_path.specs.Certificates.{IsSigned}
use Rattle.x509_path.specs.Lent.{Lends}
use Rattle.x509_verify.specs.Progress.{IsAnswer}
use Rattle.x509_verify.specs.declared.progress.Asked.{Asked}
use Rattle.x509_verify.proofs.signatures.ask.Goals as goal

pub returns-in-Some-clause-answers : goal.returns-in-Some-clause-answers
returns-in-Some-clause-answers g c = λ all certificate key lends spells.
    let accepts = g.V.SliceVerifier.accepts c.args.verifier.now in
    subst (λ b. IsTrue c.in-Some.known ↔ IsSigned accepts key b certificate) c.as_bytes-bytes.ensures.same
    (c.in-Some.ensures accepts (subst (λ xs. All (IsAnswer accepts) xs) (sym c.as_slice.ensures.value) all) certificate key
    (subst (λ b. Lends b certificate) (sym c.as_bytes-bytes.ensures.same) lends) (subst (λ o. Spells subject_public_key_info key o) (sym c.as_slice-2.ensures.value) spells))

pub returns-clause-remembered : goal.returns-clause-remembered
returns-clause-remembered g c = λ all.
    let accepts = g.V.SliceVerifier.accepts c.args.verifier.now in
    let bytes = c.as_bytes-bytes.result in
    let one : Asked = record { certificate = bytes; key = c.args.key; is_accepted = c.is_accepted-is_accepted.result } in
    subst (λ xs. All (IsAnswer accepts) xs) (sym c.in_ok-remember.ensures)
    (All-push (IsAnswer accepts) c.args.asked.now.items one all (λ certificate key lends spells.
    subst (λ b. (c.is_accepted-is_accepted.result ≡ true) ↔ IsSigned accepts key b certificate) (sym c.as_bytes-bytes.ensures.same)
    (c.is_accepted-is_accepted.ensures certificate key (subst (λ b. Lends b certificate) c.as_bytes-bytes.ensures.same lends) (subst (λ o. Spells subject_public_key_info key o) (sym c.as_slice-3.ensures.value) spells))))
