use Rattle.x509_match.proofs.KeysAgree.{names_match-refl, names_match-sym, names_match-trans}
use Rattle.x509_match.proofs.laws.matching_is_an_equivalence.Goals as goal

pub returns-clause-reflexive : goal.returns-clause-reflexive
returns-clause-reflexive c = names_match-refl

pub returns-clause-symmetric : goal.returns-clause-symmetric
returns-clause-symmetric c = names_match-sym

pub returns-clause-transitive : goal.returns-clause-transitive
returns-clause-transitive c = names_match-trans
