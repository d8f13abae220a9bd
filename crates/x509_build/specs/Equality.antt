-- Equality of the kinds of subscribers, of the versions of modules and of the refusals of signers is exact.
use Rattle.std.specs.Prelude.{refl}
use Rattle.x509_build.specs.contracts.error.KeyError.{enum as key_errors}
use Rattle.x509_build.specs.contracts.error.KeyErrorPartialEq.TheImpl as key_error_eq
use Rattle.x509_build.specs.contracts.error.SignError.{enum as sign_errors}
use Rattle.x509_build.specs.contracts.error.SignErrorPartialEq.TheImpl as sign_error_eq
use Rattle.x509_build.specs.contracts.profile.devid.TpmVersion.{enum as tpm_versions}
use Rattle.x509_build.specs.contracts.profile.devid.TpmVersionPartialEq.TheImpl as tpm_version_eq
use Rattle.x509_build.specs.contracts.profile.cabf.tls.CertificateType.{enum as types}
use Rattle.x509_build.specs.contracts.profile.cabf.tls.CertificateTypePartialEq.TheImpl as type_eq
use Rattle.x509_build.specs.contracts.profile.cabf.tls.DomainValidatedPartialEq.TheImpl as domain_eq
use Rattle.x509_build.specs.declared.profile.cabf.tls.DomainValidated.{DomainValidated}
use Rattle.x509_der.specs.Exact.{IsExact, exact_octets, exact_unit, exact_list, exact_both, exact_last, exact_by, exact_bare, exact_cases}
use Rattle.x509_ext.specs.GeneralNameEquality.{exact_general_name}
use Rattle.x509_name.specs.Names.{rdn_sequence_decides}

pub exact_domain_validated : IsExact domain_eq.ghosts.eq
exact_domain_validated = exact_by (λ (d : DomainValidated). (d.subject, d.names)) (λ (subject, names). record { subject = subject; names = names }) (λ d. refl) (exact_both rdn_sequence_decides (exact_list exact_general_name))

pub exact_certificate_type : IsExact type_eq.ghosts.eq
exact_certificate_type = exact_cases types _ (exact_last exact_domain_validated, (exact_unit, (exact_unit, (exact_unit, tt))))

pub exact_tpm_version : IsExact tpm_version_eq.ghosts.eq
exact_tpm_version = exact_cases tpm_versions _ (exact_unit, (exact_unit, (exact_last exact_octets, tt)))

pub exact_key_error : IsExact key_error_eq.ghosts.eq
exact_key_error = exact_bare key_errors tt

pub exact_sign_error : IsExact sign_error_eq.ghosts.eq
exact_sign_error = exact_bare sign_errors tt
