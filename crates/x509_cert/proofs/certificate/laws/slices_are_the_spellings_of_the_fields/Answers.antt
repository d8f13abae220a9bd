use Rattle.x509_cert.proofs.Spellings.{tbs_found, certificate_found, certificate_only}
use Rattle.x509_cert.proofs.certificate.laws.slices_are_the_spellings_of_the_fields.Goals as goal

pub returns-clause-signed : goal.returns-clause-signed
returns-clause-signed g c = λ v bytes spells. tbs_found _ v bytes spells

pub returns-clause-whole : goal.returns-clause-whole
returns-clause-whole g c = λ v bytes spells. certificate_found _ v bytes spells

pub returns-clause-only : goal.returns-clause-only
returns-clause-only g c = λ v bytes e spells has. certificate_only _ v bytes e spells has
