use Rattle.x509_cert.specs.SignedLaws.{written_as_it_is}
use Rattle.x509_cert.proofs.signed.laws.signed_bytes_are_written_again.Goals as goal

pub returns : goal.returns
returns g c = written_as_it_is g.S.Grammar.form g.met.S.Grammar.lawful g.S.Encode.writing
