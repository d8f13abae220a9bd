-- UTCTime and GeneralizedTime (X.690 11.7, 11.8; RFC 5280 4.1.2.5).
use Rattle.std.proofs.Common.{inl}
use Rattle.x509_der.specs.declared.error.ErrorKind.{ErrorKind}
use Rattle.x509_der.specs.declared.tag.Tag.TheVariants.{UtcTime, GeneralizedTime}
use Rattle.x509_der.specs.Form.{Form, IsForm, Contents, IsContents, universal}
use Rattle.x509_der.specs.FormLaws.{universal_lawful}
use Rattle.x509_base.specs.CivilTime.{CivilTime, IsDateTime}
use Rattle.x509_base.specs.TimeText.{utc_time_octets, generalized_time_octets}
use Rattle.x509_base.specs.TimeReading.{IsUtcTime, utc_time_reading, generalized_time_reading}
use Rattle.x509_base.specs.TimeLaws.{utc_time_sound, utc_time_complete, utc_time_refused, generalized_time_sound, generalized_time_complete, generalized_time_refused}

abbrev pub utc_time_contents : Contents CivilTime
utc_time_contents = record { octets = utc_time_octets; good = IsUtcTime; reading = utc_time_reading }

abbrev pub utc_time : Form CivilTime
utc_time = universal UtcTime utc_time_contents

abbrev pub generalized_time_contents : Contents CivilTime
generalized_time_contents = record { octets = generalized_time_octets; good = IsDateTime; reading = generalized_time_reading }

abbrev pub generalized_time : Form CivilTime
generalized_time = universal GeneralizedTime generalized_time_contents

pub utc_time_contents_lawful : {R : ErrorKind → Type 0} → IsContents R utc_time_contents
utc_time_contents_lawful = record { sound = utc_time_sound; complete = utc_time_complete; refused = λ bytes e h. inl (utc_time_refused bytes e h) }

pub utc_time_lawful : {R : ErrorKind → Type 0} → IsForm R utc_time
utc_time_lawful = universal_lawful UtcTime utc_time_contents utc_time_contents_lawful

pub generalized_time_contents_lawful : {R : ErrorKind → Type 0} → IsContents R generalized_time_contents
generalized_time_contents_lawful = record { sound = generalized_time_sound; complete = generalized_time_complete; refused = λ bytes e h. inl (generalized_time_refused bytes e h) }

pub generalized_time_lawful : {R : ErrorKind → Type 0} → IsForm R generalized_time
generalized_time_lawful = universal_lawful GeneralizedTime generalized_time_contents generalized_time_contents_lawful
