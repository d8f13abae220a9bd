use Rattle.std.proofs.Common.{◌++◌, [], length, is_some, refl, sym, ap, subst, ◌∙◌}
use Rattle.std.proofs.lemmas.List.{append-nil}
use Rattle.x509_base.specs.AlgorithmIdentifier.{algorithm_identifier}
use Rattle.x509_base.specs.CivilTime.{unix_seconds}
use Rattle.x509_base.specs.Profiles.{rfc5280_serial_number}
use Rattle.x509_base.specs.Time.{date_time_of, time}
use Rattle.x509_c_calls.proofs.CrlFields.{is_integer, is_time, one_after_the_other, three}
use Rattle.x509_c_calls.proofs.crl.view.view_of.Goals as goal
use Rattle.x509_c_calls.specs.CrlView.{behind_part, behind_entries, behind_issuer, behind_algorithm, entry_list, version_of}
use Rattle.x509_c_calls.proofs.Lent.{is_there}
use Rattle.x509_c_calls.proofs.Octets.{is_explicit_0, is_sequence}
use Rattle.x509_c_calls.proofs.Optional.{content_at, element_at, is_field}
use Rattle.x509_cert.specs.CertificateList.{certificate_list, certificate_list_fields, tbs_cert_list, tbs_cert_list_fields}
use Rattle.x509_cert.specs.Version.{version}
use Rattle.x509_der.specs.Element.{element}
use Rattle.x509_der.specs.Frames.{explicit, fields_octets, optional_octets}
use Rattle.x509_der.specs.Form.{Spells, spelling}
use Rattle.x509_ext.specs.Extension.{extensions}
use Rattle.x509_name.specs.Names.{name}
use Rattle.x509_prim.specs.BitString.{bit_string}

pub returns : goal.returns
unfolding fields_octets certificate_list_fields tbs_cert_list_fields
returns c = λ it spells same.
    let lent = subst (λ bytes. Spells (certificate_list rfc5280_serial_number) it bytes) (sym same) spells in
    let part = it.tbs_cert_list in
    let part_text = (tbs_cert_list rfc5280_serial_number).content part in
    let version_text = optional_octets (spelling version) part.version in
    let algorithm_text = spelling algorithm_identifier part.signature in
    let issuer_text = spelling name part.issuer in
    let this_text = spelling time part.this_update in
    let next_text = optional_octets (spelling time) part.next_update in
    let entries_text = optional_octets (spelling entry_list) part.revoked_certificates in
    let extensions_text = optional_octets (spelling (explicit 0 extensions)) part.crl_extensions in
    let version_is = c.version-version.ensures it lent in
    let next_is = c.next_update-next.ensures it lent in
    let whole = spells.1 ∙ sym (append-nil (spelling (certificate_list rfc5280_serial_number) it)) in
    let outside = c.enter.ensures.stands 48 ((certificate_list rfc5280_serial_number).content it) [] is_sequence whole in
    let fields = outside.1 ∙ three (element 48 part_text) (spelling algorithm_identifier it.signature_algorithm) (spelling bit_string it.signature) [] in
    let signature = c.signature_at-signature.ensures part_text it.signature_algorithm it.signature [] fields in
    let inside = c.enter-2.ensures.stands 48 part_text (behind_part it []) is_sequence fields in
    let laid_out = one_after_the_other version_text algorithm_text issuer_text this_text next_text entries_text extensions_text (behind_part it []) in
    let versioned = c.step.ensures.stands version_text (algorithm_text ++ behind_algorithm it []) (is_field version (λ v. is_integer) part.version _ (c.is_some.ensures ∙ ap is_some version_is)) (inside.1 ∙ laid_out) in
    let algorithm = c.pass-inner_algorithm.ensures.stands algorithm_text (behind_algorithm it []) (ap length (c.inner_algorithm.ensures it lent)) versioned.1 in
    let issuer = c.pass-issuer.ensures.stands issuer_text (behind_issuer it []) (ap length (c.issuer.ensures it lent)) algorithm.1 in
    let this = c.step-2.ensures.stands this_text (next_text ++ (entries_text ++ behind_entries it [])) (time.tag part.this_update, time.content part.this_update, is_time part.this_update, refl) issuer.1 in
    let next = c.step-3.ensures.stands next_text (entries_text ++ behind_entries it []) (is_field time is_time part.next_update _ (c.is_some-2.ensures ∙ ap is_some next_is)) this.1 in
    let entries_there = c.is_some-3.ensures ∙ is_there entry_list _ part.revoked_certificates (c.revoked_certificates.ensures it lent) in
    let entries = element_at entry_list (λ v. is_sequence) part.revoked_certificates _ (behind_entries it []) _ _ _ _ entries_there next.1 c.step_optional.ensures.there c.step_optional.ensures.absent in
    let others_there = c.is_some-4.ensures ∙ is_there extensions _ part.crl_extensions (c.crl_extensions.ensures it lent) in
    let others = content_at (explicit 0 extensions) (λ v. is_explicit_0) part.crl_extensions _ (behind_part it []) _ _ _ _ others_there entries.1 c.step_optional_content.ensures.there c.step_optional_content.ensures.absent in
    record {
      version = c.version_number.ensures ∙ ap version_of version_is;
      inner_algorithm = algorithm.0;
      issuer = issuer.0;
      this_update = c.seconds.ensures ∙ ap (λ t. unix_seconds (date_time_of t)) (c.this_update.ensures it lent);
      next_update = rw (sym next_is) c.optional_seconds-has_next_update.ensures;
      entries = entries.0;
      extensions = others.0;
      signature = signature;
    }
