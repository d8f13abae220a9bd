use Rattle.x509_sct.specs.Timestamp.{timestamp, timestamp_lawful}
use Rattle.x509_sct.proofs.Meant.{list_is_spelled, one_value}
use Rattle.x509_sct.proofs.laws.timestamps_are_read_as_meant.Goals as goal

pub returns : goal.returns
returns c = record {
  written = list_is_spelled;
  parsed = λ list made found s t. c.one_list.ensures.items found made list.0 t s;
  timestamp = λ made found bytes s t. one_value timestamp timestamp_lawful found made bytes t s;
}
