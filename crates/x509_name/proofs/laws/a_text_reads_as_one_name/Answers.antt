use Rattle.x509_name.proofs.NameTexts.{one_rdn, one_name}
use Rattle.x509_name.proofs.laws.a_text_reads_as_one_name.Goals as goal

pub returns-clause-rdns : goal.returns-clause-rdns
returns-clause-rdns c = one_rdn

pub returns-clause-names : goal.returns-clause-names
returns-clause-names c = one_name
