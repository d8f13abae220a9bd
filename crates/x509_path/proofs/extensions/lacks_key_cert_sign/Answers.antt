use Rattle.std.proofs.Common.{◌≡◌, ◌∙◌, [], ◌∷◌, sym}
use Rattle.x509_ext.specs.Identifiers.{id_ce}
use Rattle.x509_ext.specs.KeyUsage.{has_bit, key_usage}
use Rattle.x509_ext.specs.LookUp.{with_oid}
use Rattle.x509_path.specs.Certificates.{HasPayload}
use Rattle.x509_path.specs.Lent.{lent_extensions}
use Rattle.x509_path.proofs.Payloads.{lacks, lacks_none}
use Rattle.x509_path.proofs.extensions.lacks_key_cert_sign.Goals as goal

pub returns-in-Some : goal.returns-in-Some
returns-in-Some c =
    let es = lent_extensions c.args.extensions.now in
    let has = (c.payload.ensures c.in-Some.usage).1 c.in-Some.is in
    rw c.key_cert_sign.ensures (lacks (HasPayload key_usage (id_ce 15) es) c.payload.result c.payload.ensures (with_oid (id_ce 15) es) (λ none. let e : [] ≡ has.0 ∷ [] = sym none ∙ has.1 in cc) c.in-Some.usage c.in-Some.is (λ u. has_bit u 5))

pub returns-in-None : goal.returns-in-None
returns-in-None c =
    let es = lent_extensions c.args.extensions.now in
    lacks_none (HasPayload key_usage (id_ce 15) es) c.payload.result c.payload.ensures (with_oid (id_ce 15) es) c.has_any.result c.has_any.ensures.none c.has_any.ensures.some c.in-None.is (λ u. has_bit u 5)
