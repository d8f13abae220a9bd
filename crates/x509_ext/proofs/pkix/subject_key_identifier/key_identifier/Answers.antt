use Rattle.std.proofs.Common.{◌≡◌, ℕ, List, IsOkAnd, rules, subst}
use Rattle.sha1.specs.Sha1.{sha1}
use Rattle.x509_ext.proofs.pkix.subject_key_identifier.key_identifier.Goals as goal
use Rattle.x509_prim.specs.ShortOctets.{short_octets_are_held}

pub returns : goal.returns
returns c =
    let is : c.digest-digest.result ≡ sha1 c.args.key.subject_public_key.now.octets = search rules in
    let held = short_octets_are_held c.digest-digest.result c.new.result (search rules) c.new.ensures.ok c.new.ensures.err in
    subst (λ (octets : List ℕ). IsOkAnd c.new.result (λ string. string ≡ octets)) is held
