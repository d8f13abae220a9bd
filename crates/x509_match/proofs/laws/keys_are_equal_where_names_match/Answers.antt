use Rattle.x509_match.proofs.KeysAgree.{rdn_keys_match, name_keys_match}
use Rattle.x509_match.proofs.laws.keys_are_equal_where_names_match.Goals as goal

pub returns-clause-rdns : goal.returns-clause-rdns
returns-clause-rdns c = rdn_keys_match

pub returns-clause-names : goal.returns-clause-names
returns-clause-names c = name_keys_match
