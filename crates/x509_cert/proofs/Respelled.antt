-- What is written of certificates, of their signed parts and of lists of certificates.
use Rattle.std.proofs.Common.{◌≡◌, ℕ, List, [], ◌∷◌, None, Result, Ok, refl}
use Rattle.x509_der.specs.declared.error.ErrorKind.{ErrorKind}
use Rattle.x509_der.specs.declared.tag.Tag.TheVariants.{Sequence}
use Rattle.x509_der.specs.Form.{universal}
use Rattle.x509_der.specs.FormLaws.{universal_lawful}
use Rattle.x509_der.specs.StableLaws.{spelled_alike}
use Rattle.x509_der.specs.Writing.{Written, Writing, plain, respelling, IsStable, RespellsAlike}
use Rattle.x509_der.specs.Frames.{fields_octets}
use Rattle.x509_der.specs.List.{list_of, members_value, members_refusal, members_writing}
use Rattle.x509_der.specs.ListLaws.{list_lawful}
use Rattle.x509_der.specs.ListWriting.{members_stable}
use Rattle.x509_base.specs.Validity.{validity, respelled_validity}
use Rattle.x509_base.specs.declared.validity.Validity.{Validity}
use Rattle.x509_cert.specs.TbsCertificate.{tbs_certificate, tbs_certificate_fields, tbs_certificate_lawful, tbs_certificate_writing, tbs_certificate_stable}
use Rattle.x509_cert.specs.Certificate.{certificate, certificate_fields, certificate_lawful, certificate_writing, certificate_stable}
use Rattle.x509_cert.specs.Respelling.{Stays, no_check, any_tbs_certificate, any_certificate, any_certificates}

-- ---- members that stay as they are

members_kept : {X : Type 0} (by : X → Written X) → ((x : X) → by x ≡ record { value = x; refusal = None }) → (xs : List X) → (members_value by xs ≡ xs) × (members_refusal by xs ≡ None)
unfolding members_value members_refusal
members_kept by kept [] = (refl, refl)
members_kept by kept (x ∷ xs) = let others = members_kept by kept xs in rw (kept x, others.0, others.1) (refl, refl)

pub members_stay : {X : Type 0} (writing : Writing X) → Stays writing → Stays (members_writing writing)
members_stay plain kept xs = refl
members_stay (respelling by) kept xs = let each = members_kept by kept xs in rw (each.0, each.1) refl

-- ---- certificates

-- where each date stays as it is
pub crls_stay : {P : Type 0} → Stays (members_writing (certificate_writing (tbs_certificate_writing (respelling (respelled_validity {P = P} (λ time. Ok time))))))
crls_stay = members_stay (certificate_writing (tbs_certificate_writing (respelling (respelled_validity (λ time. Ok time))))) (λ v. refl)

module _ {P : Type 0} (check : List ℕ → Result Unit ErrorKind) (writing : Writing (Validity P)) (stable : IsStable (validity {P = P}).good writing) where
  pub tbs_certificates_alike : RespellsAlike (tbs_certificate check) (any_tbs_certificate {P = P}).good (tbs_certificate_writing writing)
  unfolding fields_octets tbs_certificate_fields
  tbs_certificates_alike =
      spelled_alike (tbs_certificate check) any_tbs_certificate (tbs_certificate_lawful no_check) (λ v. refl) (tbs_certificate_writing writing) (tbs_certificate_stable no_check writing stable)

  whole_stable : IsStable (any_certificate {P = P}).good (certificate_writing (tbs_certificate_writing writing))
  whole_stable = certificate_stable no_check (tbs_certificate_writing writing) (tbs_certificate_stable no_check writing stable)

  pub certificates_alike : RespellsAlike (certificate check) (any_certificate {P = P}).good (certificate_writing (tbs_certificate_writing writing))
  unfolding fields_octets certificate_fields tbs_certificate_fields
  certificates_alike =
      spelled_alike (certificate check) any_certificate (certificate_lawful no_check) (λ v. refl) (certificate_writing (tbs_certificate_writing writing)) whole_stable

  pub lists_alike : RespellsAlike (universal Sequence (list_of (certificate check))) (any_certificates {P = P}).good (members_writing (certificate_writing (tbs_certificate_writing writing)))
  unfolding fields_octets certificate_fields tbs_certificate_fields
  lists_alike =
      spelled_alike (universal Sequence (list_of (certificate check))) any_certificates (universal_lawful Sequence (list_of any_certificate) (list_lawful any_certificate (certificate_lawful no_check))) (λ v. refl)
      (members_writing (certificate_writing (tbs_certificate_writing writing))) (members_stable (certificate_writing (tbs_certificate_writing writing)) whole_stable)
