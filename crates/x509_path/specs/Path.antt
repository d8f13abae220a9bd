-- Paths of certificates, topmost first, under a name and a key that are trusted: which fault stands at which place, and what is answered
-- (RFC 5280 6.1).
use Rattle.std.specs.Prelude.{◌≡◌, ◌≢◌, ◌<◌, ◌⊎◌, ℕ, zero, suc, Bool, true, false, List, [], ◌∷◌, ◌++◌, Result, Ok, Err}
use Rattle.std.specs.List.{All}
use Rattle.x509_base.specs.CivilTime.{CivilTime}
use Rattle.x509_cert.specs.Certificate.{rfc5280_certificate}
use Rattle.x509_der.specs.Form.{Spells}
use Rattle.x509_ext.specs.LookUp.{IsRepeated}
use Rattle.x509_path.specs.Certificates as certificates
use Rattle.x509_path.specs.Certificates.{Accepting, AreEqual, Certificate, extensions_of}
use Rattle.x509_path.specs.declared.anchor.Anchor.{Anchor}
use Rattle.x509_path.specs.declared.fault.PathFault.{PathFault}
use Rattle.x509_path.specs.declared.fault.PathFault.TheVariants.{Memory, Empty, At}
use Rattle.x509_path.specs.declared.fault.PathReason.{PathReason}
use Rattle.x509_path.specs.declared.fault.PathReason.TheVariants.{Decode, Algorithm, Issuer, Moment, Signature, Repeated, Critical, NotCa, KeyUsage, PathLen}

-- ---- one certificate

-- where a certificate stands: under which name and key, behind which certificates of the path, and whether as the last
pub record Standing : Type 0 where
  pub above : Anchor
  pub before : List Certificate
  pub is_last : Bool

-- What is wrong with a certificate of these bytes that stands there. The last three are asked of all certificates but the last.
abbrev pub Breaks : Accepting → CivilTime → Standing → List ℕ → Certificate → PathReason → Type 0
Breaks accepts moment standing bytes c Decode = ⊥
Breaks accepts moment standing bytes c Algorithm = certificates.HasTwoAlgorithms c
Breaks accepts moment standing bytes c Issuer = c.tbs_certificate.issuer ≢ standing.above.name
Breaks accepts moment standing bytes c Moment = certificates.IsOutside moment c.tbs_certificate.validity
Breaks accepts moment standing bytes c Signature = certificates.IsSigned accepts standing.above.key bytes c → ⊥
Breaks accepts moment standing bytes c Repeated = IsRepeated (extensions_of c)
Breaks accepts moment standing bytes c Critical = certificates.AreHandled (extensions_of c) → ⊥
Breaks accepts moment standing bytes c NotCa = (standing.is_last ≡ false) × (certificates.IsCa (extensions_of c) → ⊥)
Breaks accepts moment standing bytes c KeyUsage = (standing.is_last ≡ false) × certificates.LacksKeyCertSign (extensions_of c)
Breaks accepts moment standing bytes c PathLen = (standing.is_last ≡ false) × certificates.IsTooLong AreEqual (standing.before ++ c ∷ [])

-- the bytes are those of no certificate
abbrev pub IsUnreadable : List ℕ → Type 0
IsUnreadable bytes = (c : Certificate) → Spells rfc5280_certificate c bytes → ⊥

-- The bytes are those of no certificate, and the reason is the one for that, or of one with which that is wrong. Of any kind of reason.
abbrev pub IsFaultBy : {R : Type 0} → R → (Certificate → R → Type 0) → List ℕ → R → Type 0
IsFaultBy decode breaks bytes reason =
    (IsUnreadable bytes × (reason ≡ decode)) ⊎ ((c : Certificate) × Spells rfc5280_certificate c bytes × breaks c reason)

-- the bytes that stand there have that fault
abbrev pub IsFault : Accepting → CivilTime → Standing → List ℕ → PathReason → Type 0
IsFault accepts moment standing bytes = IsFaultBy Decode (Breaks accepts moment standing bytes) bytes

-- the name and the key that a certificate gives to the next one
abbrev pub subject_of : Certificate → Anchor
subject_of c = record { name = c.tbs_certificate.subject; key = c.tbs_certificate.subject_public_key_info }

-- ---- a path

abbrev pub is_empty : List (List ℕ) → Bool
is_empty [] = true
is_empty (input ∷ inputs) = false

-- which faults an input has under a name and a key, behind certificates, and before the rest of the inputs
abbrev pub Faults : Type 0 → Type 1
Faults R = Anchor → List Certificate → List ℕ → List (List ℕ) → R → Type 0

-- The input at that place has that fault, where the path stands under this name and key and behind these certificates. An input that is
-- of no certificate has none below it.
abbrev pub HasFaultBehind : {R : Type 0} → Faults R → Anchor → List Certificate → List (List ℕ) → ℕ → R → Type 0
HasFaultBehind faults above before [] place reason = ⊥
HasFaultBehind faults above before (input ∷ inputs) zero reason = faults above before input inputs reason
HasFaultBehind faults above before (input ∷ inputs) (suc place) reason =
    (c : Certificate) × Spells rfc5280_certificate c input × HasFaultBehind faults (subject_of c) (before ++ c ∷ []) inputs place reason

abbrev pub faults_at : Accepting → CivilTime → Faults PathReason
faults_at accepts moment above before input inputs = IsFault accepts moment (record { above = above; before = before; is_last = is_empty inputs }) input

abbrev pub HasFault : Accepting → CivilTime → Anchor → List (List ℕ) → ℕ → PathReason → Type 0
HasFault accepts moment anchor inputs place reason = HasFaultBehind (faults_at accepts moment) anchor [] inputs place reason

-- there is an input, and none has a fault
abbrev pub PathHolds : Accepting → CivilTime → Anchor → List (List ℕ) → Type 0
PathHolds accepts moment anchor inputs = (inputs ≢ []) × ((place : ℕ) (reason : PathReason) → HasFault accepts moment anchor inputs place reason → ⊥)

-- ---- the answer

-- the order in which faults of one certificate are told, behind Decode
abbrev pub reasons : List PathReason
reasons = Algorithm ∷ Issuer ∷ Moment ∷ Signature ∷ Repeated ∷ Critical ∷ NotCa ∷ KeyUsage ∷ PathLen ∷ []

-- it holds of that reason, and of none that stands earlier among these
pub record IsFirst {R : Type 0} (among : List R) (holds : R → Type 0) (reason : R) : Type 0 where
  pub earlier : List R
  pub later : List R
  pub order : among ≡ earlier ++ reason ∷ later
  pub has : holds reason
  pub none_earlier : All (λ r. holds r → ⊥) earlier

-- the lowest place that has a fault, and the first of its faults
pub record IsFirstFault (accepts : Accepting) (moment : CivilTime) (anchor : Anchor) (inputs : List (List ℕ)) (place : ℕ) (reason : PathReason) : Type 0 where
  pub first : IsFirst (Decode ∷ reasons) (HasFault accepts moment anchor inputs place) reason
  pub lowest : (p : ℕ) → p < place → (r : PathReason) → HasFault accepts moment anchor inputs p r → ⊥

-- What is answered to a path. Memory may be refused wherever there is an input.
abbrev pub Answers : Accepting → CivilTime → Anchor → List (List ℕ) → Result Unit PathFault → Type 0
Answers accepts moment anchor inputs (Ok _) = PathHolds accepts moment anchor inputs
Answers accepts moment anchor inputs (Err Memory) = inputs ≢ []
Answers accepts moment anchor inputs (Err Empty) = inputs ≡ []
Answers accepts moment anchor inputs (Err (At place reason)) = IsFirstFault accepts moment anchor inputs place reason
