use Rattle.x509_name.proofs.NameTexts.{rdn_apart, rdn_once, name_apart, name_once}
use Rattle.x509_name.proofs.laws.a_text_is_refused_in_one_way.Goals as goal

pub returns-clause-rdns : goal.returns-clause-rdns
returns-clause-rdns c = rdn_apart

pub returns-clause-rdns_once : goal.returns-clause-rdns_once
returns-clause-rdns_once c = rdn_once

pub returns-clause-names : goal.returns-clause-names
returns-clause-names c = name_apart

pub returns-clause-names_once : goal.returns-clause-names_once
returns-clause-names_once c = name_once
