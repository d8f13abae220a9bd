-- What is wrong with the last certificate of a path whatever stands above it: no anchor and no authority mends that (RFC 5280 6.1.3, 6.1.5).
use Rattle.std.specs.Prelude.{Bool, List, [], ◌∷◌, ℕ, Option, Some, None}
use Rattle.x509_base.specs.CivilTime.{CivilTime}
use Rattle.x509_ext.specs.LookUp.{IsRepeated}
use Rattle.x509_ext.specs.declared.pkix.key_usage.KeyUsage as usages
use Rattle.x509_path.specs.Certificates as certificates
use Rattle.x509_path.specs.Certificates.{Certificate, extensions_of}
use Rattle.x509_path.specs.Path.{IsFirst}
use Rattle.x509_path_steps.specs.Inputs.{purposes_of}
use Rattle.x509_path_steps.specs.Validation.{AreProcessed, AreSpelled, HasOtherVersion, LackPurpose, LacksUsage, asks_purpose}
use Rattle.x509_path_steps.specs.declared.settings.PathSettings.{PathSettings}
use Rattle.x509_path_steps.specs.declared.validation_fault.ValidationReason.{ValidationReason}
use Rattle.x509_path_steps.specs.declared.validation_fault.ValidationReason.TheVariants.{Algorithm, Moment, Repeated, Critical, Extension as Undecodable, Version as OtherVersion, Usage as OtherUsage, Purpose as OtherPurpose}

-- what is asked of the certificate alone: the moment, the purposes of which one is asked for, and the bits of its key usage
pub record AskedAlone : Type 0 where
  pub moment : CivilTime
  pub purposes : Option (List (List ℕ))
  pub key_usage : usages.KeyUsage

abbrev pub asked_alone : PathSettings → AskedAlone
asked_alone settings = record { moment = settings.moment; purposes = purposes_of settings; key_usage = settings.key_usage }

-- a fault of its own, whatever stands above it and below it
abbrev pub HasOwnFault : CivilTime → Bool → Certificate → ValidationReason → Type 0
HasOwnFault moment asks c Algorithm = certificates.HasTwoAlgorithms c
-- 6.1.3 (a) (2)
HasOwnFault moment asks c Moment = certificates.IsOutside moment c.tbs_certificate.validity
-- 4.1.2.9
HasOwnFault moment asks c OtherVersion = HasOtherVersion c
HasOwnFault moment asks c Repeated = IsRepeated (extensions_of c)
HasOwnFault moment asks c Undecodable = AreSpelled (extensions_of c) → ⊥
-- 6.1.4 (o), 6.1.5 (f)
HasOwnFault moment asks c Critical = AreProcessed asks (extensions_of c) → ⊥
HasOwnFault moment asks c _ = ⊥

-- that is wrong with it as the last one
abbrev pub BreaksAlone : AskedAlone → Certificate → ValidationReason → Type 0
-- 4.2.1.3
BreaksAlone asked c OtherUsage = LacksUsage asked.key_usage (extensions_of c)
-- 4.2.1.12
BreaksAlone asked c OtherPurpose = LackPurpose asked.purposes (c ∷ [])
BreaksAlone asked c reason = HasOwnFault asked.moment (asks_purpose asked.purposes) c reason

-- the order in which they are told
abbrev pub lone_reasons : List ValidationReason
lone_reasons = Algorithm ∷ Moment ∷ OtherVersion ∷ Repeated ∷ Undecodable ∷ Critical ∷ OtherUsage ∷ OtherPurpose ∷ []

-- the first of them, if anything is wrong
abbrev pub TellsAlone : AskedAlone → Certificate → Option ValidationReason → Type 0
TellsAlone asked c None = (reason : ValidationReason) → BreaksAlone asked c reason → ⊥
TellsAlone asked c (Some reason) = IsFirst lone_reasons (BreaksAlone asked c) reason
