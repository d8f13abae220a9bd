-- Tools of the proofs: max_path_length, how many certificates that aren't self-issued may still follow (RFC 5280 6.1.2 (k)), and what is said of one
-- certificate.
use Rattle.std.specs.Prelude.{◌≡◌, ◌-◌, ◌⊎◌, ◌↔◌, ℕ, Bool, false, min, List, ◌∷◌, ◌++◌, Option, Some, None, Result, Ok, Err, MatchResult, if◌then◌else◌}
use Rattle.x509_base.specs.CivilTime.{CivilTime}
use Rattle.x509_base.specs.declared.subject_public_key_info.SubjectPublicKeyInfo.{SubjectPublicKeyInfo}
use Rattle.x509_cert.specs.Certificate.{rfc5280_certificate}
use Rattle.x509_der.specs.Form.{Spells}
use Rattle.x509_ext.specs.BasicConstraints.{basic_constraints}
use Rattle.x509_ext.specs.Identifiers.{id_ce}
use Rattle.x509_ext.specs.declared.extension.Extension.{Extension}
use Rattle.x509_ext.specs.declared.pkix.basic_constraints.BasicConstraints.{BasicConstraints}
use Rattle.x509_name.specs.declared.attr.type_and_value.AttributeTypeAndValue.{AttributeTypeAndValue}
use Rattle.x509_path.specs.Certificates.{Accepting, Certificate, HasPayload, IsOver, IsTooLong, Sameness, extensions_of}
use Rattle.x509_path.specs.Path.{Standing, Breaks, IsFault, IsFirst, reasons, subject_of}
use Rattle.x509_path.specs.declared.anchor.Anchor.{Anchor}
use Rattle.x509_path.specs.declared.fault.PathFault.{PathFault}
use Rattle.x509_path.specs.declared.fault.PathFault.TheVariants.{Memory, Empty, At}
use Rattle.x509_path.specs.declared.fault.PathReason.{PathReason}
use Rattle.x509_path.specs.declared.fault.PathReason.TheVariants.{Decode}

-- the value is that of the one BasicConstraints, none where there isn't one that can be decoded
abbrev pub HasConstraints : List Extension → Option BasicConstraints → Type 0
HasConstraints extensions found = (value : BasicConstraints) → HasPayload basic_constraints (id_ce 19) extensions value ↔ (found ≡ Some value)

-- more of them aren't self-issued than the limit, or one of them, lets follow
abbrev pub AreTooMany : Sameness → Option ℕ → List Certificate → Type 0
AreTooMany Same limit certificates = IsOver Same limit certificates ⊎ IsTooLong Same certificates

-- under that limit, behind these certificates, the max_path_length is this one
abbrev pub Leaves : Sameness → Option ℕ → List Certificate → Option ℕ → Type 0
Leaves Same limit before max_path_length =
    (behind : List Certificate) → AreTooMany Same limit (before ++ behind) ↔ AreTooMany Same max_path_length behind

-- the max_path_length behind a certificate with that path length, or with none (RFC 5280 6.1.4 (l), (m))
abbrev pub narrowed : Option ℕ → Bool → Option ℕ → Option ℕ
narrowed None self_issued path_len = path_len
narrowed (Some max_path_length) self_issued None = Some (if self_issued then max_path_length else max_path_length - 1)
narrowed (Some max_path_length) self_issued (Some path_len) = Some (min path_len (if self_issued then max_path_length else max_path_length - 1))

-- the name and the key behind the last certificate, or those of the anchor
abbrev pub anchor_behind : Anchor → Option Certificate → Anchor
anchor_behind anchor None = anchor
anchor_behind anchor (Some c) = subject_of c

-- where a certificate stands under that name and key
abbrev pub standing : List (List AttributeTypeAndValue) → SubjectPublicKeyInfo → List Certificate → Bool → Standing
standing name key before is_last = record { above = record { name = name; key = key }; before = before; is_last = is_last }

-- what is answered of the certificate that stands there, at that place
abbrev pub Judges : Accepting → CivilTime → Standing → List ℕ → ℕ → Result Certificate PathFault → Type 0
Judges accepts moment standing bytes place (Ok c) = Spells rfc5280_certificate c bytes × ((r : PathReason) → Breaks accepts moment standing bytes c r → ⊥)
Judges accepts moment standing bytes place (Err Memory) = Unit {0}
Judges accepts moment standing bytes place (Err Empty) = ⊥
Judges accepts moment standing bytes place (Err (At p reason)) = (p ≡ place) × IsFirst (Decode ∷ reasons) (IsFault accepts moment standing bytes) reason

-- the same, with the value of its BasicConstraints where another certificate follows
abbrev pub JudgesLent : Accepting → CivilTime → Standing → List ℕ → ℕ → Certificate → Result (Option BasicConstraints) PathFault → Type 0
JudgesLent accepts moment standing bytes place c answer =
    MatchResult answer (λ found. (standing.is_last ≡ false → HasConstraints (extensions_of c) found) × Judges accepts moment standing bytes place (Ok c))
    (λ e. Judges accepts moment standing bytes place (Err e))
