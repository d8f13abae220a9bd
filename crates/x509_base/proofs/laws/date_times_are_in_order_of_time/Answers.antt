use Rattle.x509_base.proofs.OrderLemmas.{time_cmp-unix_seconds}
use Rattle.x509_base.proofs.laws.date_times_are_in_order_of_time.Goals as goal

pub returns : goal.returns
returns c = record { date_times = time_cmp-unix_seconds; utc_times = time_cmp-unix_seconds; generalized_times = time_cmp-unix_seconds }
