-- The lists of the profiles, each an answer in terms of the profile's fields, the two keys and the subject.
use Rattle.std.specs.Prelude.{◌≡◌, ℕ, Bool, true, false, List, [], ◌∷◌, Option, Some, None, bytes_eq, ◌&&◌}
use Rattle.x509_base.specs.KeyAlgorithms.{ec_public_key, rsa_encryption}
use Rattle.x509_base.specs.declared.algorithm_identifier.AlgorithmIdentifier.{AlgorithmIdentifier}
use Rattle.x509_base.specs.declared.subject_public_key_info.SubjectPublicKeyInfo.{SubjectPublicKeyInfo}
use Rattle.x509_build.specs.declared.error.Error.TheVariants.{UnsupportedKind}
use Rattle.x509_build.specs.Making.{◌▸◌, no_extensions, authority_key, subject_key, constraints, key_usage, extended_key_usage, alternative_names}
use Rattle.x509_build.specs.Usages.{ca_usages, subscriber_usages, digital_signature}
use Rattle.x509_build.specs.declared.profile.cabf.Root.{Root}
use Rattle.x509_build.specs.declared.profile.cabf.tls.CertificateType.{CertificateType}
use Rattle.x509_build.specs.declared.profile.cabf.tls.CertificateType.TheVariants.{DomainValidated}
use Rattle.x509_build.specs.declared.profile.cabf.tls.Subordinate.{Subordinate}
use Rattle.x509_build.specs.declared.profile.cabf.tls.Subscriber.{Subscriber}
use Rattle.x509_build.specs.declared.profile.devid.DevId.{DevId}
use Rattle.x509_build.specs.Answer.{Answer}
use Rattle.x509_ext.specs.declared.extension.Extension.{Extension}
use Rattle.x509_ext.specs.declared.pkix.alternative_names.SubjectAltName.{SubjectAltName}
use Rattle.x509_name.specs.declared.attr.type_and_value.AttributeTypeAndValue.{AttributeTypeAndValue}

-- what is answered and never refused
abbrev pub given : {X : Type 0} → X → Answer X
given x = record { value = x; refuses = λ e. ⊥ }

-- a root's: it signs its own key (Baseline Requirements 7.1.2.1.2)
abbrev pub root_list : Root → SubjectPublicKeyInfo → Answer (List Extension)
root_list root key =
    authority_key key.subject_public_key
    ▸ (constraints true None
    ▸ (key_usage (ca_usages root.emits_ocsp_response)
    ▸ (subject_key key.subject_public_key
    ▸ no_extensions)))

-- a subordinate authority's (Baseline Requirements 7.1.2.6.1)
abbrev pub subordinate_list : Subordinate → SubjectPublicKeyInfo → SubjectPublicKeyInfo → Answer (List Extension)
subordinate_list subordinate key issuer_key =
    authority_key issuer_key.subject_public_key
    ▸ (constraints true subordinate.path_len_constraint
    ▸ (key_usage (ca_usages subordinate.emits_ocsp_response)
    ▸ (subject_key key.subject_public_key
    ▸ (extended_key_usage subordinate.client_auth
    ▸ no_extensions))))

-- the uses that a subscriber's key is given: keys of RSA encipher, keys of elliptic curves agree
abbrev pub usages_for : Subscriber → List ℕ → ℕ
usages_for subscriber algorithm =
    subscriber_usages
    (bytes_eq algorithm rsa_encryption && subscriber.enable_data_encipherment)
    (bytes_eq algorithm rsa_encryption && subscriber.tls12_options.enable_key_encipherment)
    (bytes_eq algorithm ec_public_key && subscriber.tls12_options.enable_key_agreement)

-- a subscriber's (Baseline Requirements 7.1.2.7.6)
abbrev pub subscriber_list : Subscriber → SubjectPublicKeyInfo → SubjectPublicKeyInfo → Answer (List Extension)
subscriber_list subscriber key issuer_key =
    authority_key issuer_key.subject_public_key
    ▸ (extended_key_usage subscriber.client_auth
    ▸ (constraints false None
    ▸ (key_usage (usages_for subscriber key.algorithm.oid)
    ▸ no_extensions)))

-- a subscriber's subject: only that of a domain validated one is known
abbrev pub subject_of_type : CertificateType → Answer (List (List AttributeTypeAndValue))
subject_of_type (DomainValidated validated) = given validated.subject
subject_of_type another = record { value = []; refuses = λ e. e ≡ UnsupportedKind }

-- a device's (IEEE 802.1AR)
abbrev pub further_names : List (List AttributeTypeAndValue) → Option SubjectAltName → Answer (List Extension)
further_names subject None = no_extensions
further_names subject (Some names) = alternative_names subject names.0 ▸ no_extensions

abbrev pub device_list : DevId → SubjectPublicKeyInfo → List (List AttributeTypeAndValue) → Answer (List Extension)
device_list device issuer_key subject =
    authority_key issuer_key.subject_public_key
    ▸ (key_usage digital_signature
    ▸ further_names subject device.subject_alt_name)
