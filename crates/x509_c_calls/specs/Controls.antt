-- Constraints on the paths from a trust anchor, by their places (RFC 5914 2.5).
use Rattle.std.specs.Prelude.{ℕ, ◌^◌, List, ◌++◌, Option, Some, None}
use Rattle.x509_base.specs.Profiles.{rfc5280_serial_number}
use Rattle.x509_base.specs.declared.profile.Rfc5280.{Rfc5280}
use Rattle.x509_c_calls.specs.declared.anchor.controls.PathControlsView.{PathControlsView}
use Rattle.x509_c_calls.specs.Optional.{IsNowhere, IsNumber, IsPerhapsAt}
use Rattle.x509_c_calls.specs.Subtrees.{AreNameConstraints}
use Rattle.x509_c_calls.specs.Place.{IsAt}
use Rattle.x509_c_calls.specs.declared.place.span.Span.{Span}
use Rattle.x509_cert.specs.CertPolicies.{cert_policies}
use Rattle.x509_cert.specs.declared.anchor.cert_path_controls.CertPathControls.{CertPathControls}
use Rattle.x509_cert.specs.declared.anchor.cert_policies.CertPolicies.{CertPolicies}
use Rattle.x509_cert.specs.Certificate.{certificate}
use Rattle.x509_der.specs.Frames.{implicit, optional_octets}
use Rattle.x509_der.specs.Form.{spelling}
use Rattle.x509_der.specs.Natural.{natural}
use Rattle.x509_name.specs.Names.{name}
use Rattle.x509_ext.specs.NameConstraints.{name_constraints}
use Rattle.x509_ext.specs.declared.pkix.name_constraints.NameConstraints.{NameConstraints}
use Rattle.x509_ext.specs.CertificatePolicies.{certificate_policies}

-- ---- the fields as they are written, and what stands behind them, where those octets stand behind the whole

abbrev pub certificate_text : CertPathControls Rfc5280 → List ℕ
certificate_text it = optional_octets (spelling (implicit 0 (certificate rfc5280_serial_number))) it.certificate

abbrev pub policies_text : CertPathControls Rfc5280 → List ℕ
policies_text it = optional_octets (spelling (implicit 1 certificate_policies)) it.policy_set

abbrev pub flags_text : CertPathControls Rfc5280 → List ℕ
flags_text it = optional_octets (spelling (implicit 2 cert_policies)) it.policy_flags

abbrev pub names_text : Option NameConstraints → List ℕ
names_text names = optional_octets (spelling (implicit 3 name_constraints)) names

abbrev pub behind_names : CertPathControls Rfc5280 → List ℕ → List ℕ
behind_names it behind = optional_octets (spelling (implicit 4 (natural (2 ^ 32)))) it.path_len_constraint ++ behind

abbrev pub behind_policies : CertPathControls Rfc5280 → List ℕ → List ℕ
behind_policies it behind = flags_text it ++ (names_text it.name_constr ++ behind_names it behind)

abbrev pub behind_name : CertPathControls Rfc5280 → List ℕ → List ℕ
behind_name it behind = certificate_text it ++ (policies_text it ++ behind_policies it behind)

-- the flags as a number
abbrev pub bits_of : Option CertPolicies → Option ℕ
bits_of None = None
bits_of (Some set) = Some set.0

-- where the permitted and the excluded subtrees stand, with those octets behind the constraints
abbrev pub IsConstrained : Option NameConstraints → List ℕ → List ℕ → Span → Span → Type 0
IsConstrained None behind bytes permitted excluded = IsNowhere permitted × IsNowhere excluded
IsConstrained (Some names) behind bytes permitted excluded = AreNameConstraints bytes names behind (record { permitted = permitted; excluded = excluded })

-- what the view says of constraints in these bytes, behind which those others stand
pub record IsControls (bytes : List ℕ) (it : CertPathControls Rfc5280) (behind : List ℕ) (view : PathControlsView) : Type 0 where
  pub name : IsAt (spelling name it.ta_name) (behind_name it behind) bytes view.name
  pub certificate : IsPerhapsAt (spelling (implicit 0 (certificate rfc5280_serial_number))) it.certificate (policies_text it ++ behind_policies it behind) bytes view.certificate
  pub policies : IsPerhapsAt (spelling (implicit 1 certificate_policies)) it.policy_set (behind_policies it behind) bytes view.policies
  pub policy_flags : IsNumber (bits_of it.policy_flags) view.has_policy_flags view.policy_flags
  pub names : IsConstrained it.name_constr (behind_names it behind) bytes view.permitted view.excluded
  pub path_len : IsNumber it.path_len_constraint view.has_path_len view.path_len
