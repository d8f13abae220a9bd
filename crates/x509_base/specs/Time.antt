-- Time: UTCTime / GeneralizedTime (RFC 5280 4.1.2.5)
use Rattle.std.specs.Prelude.{◌≡◌, ℕ, ◌⊎◌, nat_le, List, Result, Ok, IfOk, IfErr, if◌then◌else◌, refl}
use Rattle.std.proofs.Common.{inl, inr}
use Rattle.x509_der.specs.declared.error.Error.{Error}
use Rattle.x509_der.specs.declared.error.ErrorKind.{ErrorKind}
use Rattle.x509_der.specs.declared.error.ErrorKind.TheVariants.{Failed}
use Rattle.x509_der.specs.Form.{Form, IsForm}
use Rattle.x509_der.specs.Choice.{either, either_lawful}
use Rattle.x509_base.specs.CivilTime.{CivilTime, IsDateTime, unix_seconds}
use Rattle.x509_base.specs.TimeText.{date_time_text}
use Rattle.x509_base.specs.TimeForms.{utc_time, utc_time_lawful, generalized_time, generalized_time_lawful}
use Rattle.x509_base.specs.declared.time.Time.{Time}
use Rattle.x509_base.specs.declared.time.Time.TheVariants.{UtcTime, GeneralTime}

-- ---- the grammar

abbrev pub time_to : Time → CivilTime ⊎ CivilTime
time_to (UtcTime c) = inl c
time_to (GeneralTime c) = inr c

abbrev pub time_from : CivilTime ⊎ CivilTime → Time
time_from (inl c) = UtcTime c
time_from (inr c) = GeneralTime c

abbrev pub time : Form Time
time = either time_to time_from utc_time generalized_time

pub time_lawful : {R : ErrorKind → Type 0} → IsForm R time
time_lawful = either_lawful time_to time_from utc_time generalized_time (elim [ UtcTime c ↦ refl | GeneralTime c ↦ refl ]) (elim [ inl c ↦ refl | inr c ↦ refl ]) refl utc_time_lawful generalized_time_lawful

-- ---- date-times

-- the date-time, however it is spelled
abbrev pub date_time_of : Time → CivilTime
date_time_of (UtcTime c) = c
date_time_of (GeneralTime c) = c

-- a date-time through 2049 as UTCTime, a later one as GeneralizedTime (RFC 5280 4.1.2.5)
abbrev pub time_at : CivilTime → Time
time_at c = if nat_le c.year 2049 then UtcTime c else GeneralTime c

-- the time, spelled so, of the date-time that many seconds after 1970-01-01T00:00:00Z
abbrev pub IsTimeAt : ℕ → Time → Type 0
IsTimeAt seconds t = (c : CivilTime) × IsDateTime c × (unix_seconds c ≡ seconds) × (t ≡ time_at c)

-- The answer is the time, spelled so, of the date-time with this text. Where there is none, it is a refusal.
pub record ReadsTime (text : List ℕ) (answer : Result Time Error) : Type 0 where
  pub found : IfOk answer (λ t. (c : CivilTime) × IsDateTime c × (text ≡ date_time_text c) × (t ≡ time_at c))
  pub every : (c : CivilTime) → IsDateTime c → text ≡ date_time_text c → answer ≡ Ok (time_at c)
  pub refused : IfErr answer (λ e. e.kind ≡ Failed)
