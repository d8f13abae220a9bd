use Rattle.std.proofs.Common.{ℕ, List, subst, sym}
use Rattle.x509_revocation.specs.Crls.{IsSignedBy}
use Rattle.x509_revocation.proofs.Signed.{anchored, signed_by}
use Rattle.x509_revocation.proofs.steps.Asked.passes_c_h.Goals as goal

pub returns : goal.returns
returns g c = λ certificate complete delta lent lends same.
    let accepts = g.V.SliceVerifier.accepts c.args.self.now.verifier.now in
    let ready = (c.is_ready.ensures delta.crl lends).0 c.if-not-is_ready.false in
    let point = (c.have_same_point.ensures complete.crl delta.crl lent.lends.crl lends).0 c.if-not-have_same_point.false in
    let key = (c.have_same_key_identifier.ensures complete.crl delta.crl lent.lends.crl lends).0 c.if-not-have_same_key_identifier.false in
    let issuer = (c.in_ok-is_issuers.ensures complete.crl delta.crl lent.lends.crl lends).0 c.if-not-is_issuers.false in
    let order = (c.in_ok-are_ordered.ensures complete.crl delta.crl lent.lends.crl lends).0 c.if-not-are_ordered.false in
    let signed = c.is_signed.ensures delta.crl lent.signer lends (anchored c.args.complete.now complete lent) in
    let by = signed_by accepts complete.signer lent.signer delta.bytes delta.crl lent.is in (
      (λ is. record {
        ready = ready;
        scope = record { issuer = issuer; scope = point };
        authority_key = key;
        in_order = order;
        signed = by.0 (subst (λ (b : List ℕ). IsSignedBy accepts lent.signer b delta.crl) same (signed.0 is));
      }),
      (λ fits. signed.1 (subst (λ (b : List ℕ). IsSignedBy accepts lent.signer b delta.crl) (sym same) (by.1 fits.signed))),
    )
