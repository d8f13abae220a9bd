use Rattle.std.proofs.Common.{arith}
use Rattle.x509_log.proofs.Chains.{chain_short}
use Rattle.x509_log.proofs.chain.CertificateChainTls.take.Goals as goal

pub invariant_of-result : goal.invariant_of-result
invariant_of-result c =
    chain_short c.args.bytes.now c.in_ok-octets.octets.now c.in_ok-octets.rest.now c.in_ok-certificates.certificates.items (λ i. omega (arith, c.type_inv.bytes i))
    c.in_ok-octets.ensures.exact c.in_ok-certificates.ensures c.in_ok-octets.ensures.short
