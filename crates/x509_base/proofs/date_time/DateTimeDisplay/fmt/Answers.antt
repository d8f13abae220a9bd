use Rattle.std.proofs.Common.{arith}
use Rattle.std.proofs.lemmas.Grind.{common_steps}
use Rattle.x509_base.specs.TimeText.{date_time_text}
use Rattle.x509_base.proofs.DigitLemmas.{zero_filled-two, zero_filled-four}
use Rattle.x509_base.proofs.date_time.DateTimeDisplay.fmt.Goals as goal

pub returns-clause-writes : goal.returns-clause-writes
unfolding date_time_text
returns-clause-writes g c = grind (arith, common_steps, zero_filled-two, zero_filled-four)
