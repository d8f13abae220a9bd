use Rattle.x509_cert.proofs.laws.equality_of_requests_is_exact.Goals as goal
use Rattle.x509_cert.specs.ListEquality.{exact_request_version, exact_cert_req_info, exact_cert_req, exact_extension_req, exact_challenge_password}

pub returns-clause-versions : goal.returns-clause-versions
returns-clause-versions g = exact_request_version

pub returns-clause-info : goal.returns-clause-info
returns-clause-info g = exact_cert_req_info

pub returns-clause-request : goal.returns-clause-request
returns-clause-request g = exact_cert_req

pub returns-clause-extensions : goal.returns-clause-extensions
returns-clause-extensions g = exact_extension_req

pub returns-clause-passwords : goal.returns-clause-passwords
returns-clause-passwords g = exact_challenge_password
