use Rattle.x509_cert.proofs.laws.equality_of_crls_is_exact.Goals as goal
use Rattle.x509_cert.specs.ListEquality.{exact_revoked_cert, exact_tbs_cert_list, exact_certificate_list}

pub returns-clause-entry : goal.returns-clause-entry
returns-clause-entry g c = exact_revoked_cert

pub returns-clause-signed : goal.returns-clause-signed
returns-clause-signed g c = exact_tbs_cert_list

pub returns-clause-list : goal.returns-clause-list
returns-clause-list g c = exact_certificate_list
