use Rattle.std.proofs.Common.{length, ap, arith}
use Rattle.x509_c_calls.proofs.PolicyOctets.{longer, longer-part}
use Rattle.x509_c_calls.proofs.path.policies.encoded_policy.Goals as goal
use Rattle.x509_c_calls.specs.PathValidation.{policy_octets}
use Rattle.x509_der.specs.Element.{element}

pub returns-in-Err : goal.returns-in-Err
returns-in-Err c =
    longer-part c.in-Err.e.kind (element 6 c.in_ok-content.content.items) (policy_octets c.args.policy.now)
    (omega (arith, longer 48 (element 6 c.args.policy.now), ap (λ octets. length (element 6 octets)) c.in_ok-content.ensures.items)) c.in-Err.ensures
