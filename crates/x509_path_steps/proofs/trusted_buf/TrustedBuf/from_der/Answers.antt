use Rattle.std.proofs.Common.{inl, inr}
use Rattle.std.proofs.lemmas.Result.{err_from_is_err_and}
use Rattle.x509_path_steps.proofs.AnchorLengths.{answered}
use Rattle.x509_path_steps.proofs.Refusals.{no_anchor}
use Rattle.x509_path_steps.proofs.trusted_buf.TrustedBuf.from_der.Goals as goal

pub returns-in_err-anchor : goal.returns-in_err-anchor
returns-in_err-anchor c =
    let p = err_from_is_err_and c.from_residual.result c.from_residual.ensures.1 in
    let h = c.in_err-anchor.ensures in
    rw (p.1, p.2) (elim (no_anchor c.args.bytes.now c.in_err-anchor.field-0.0.kind h.overlength h.refused h.only h.which) [ inl memory ↦ inl memory | inr none ↦ inr (inl none) ])

pub returns : goal.returns
returns c = answered c.in_ok-anchor.anchor c.args.bytes.now c.from_trust_anchor.result c.in_ok-anchor.ensures.found c.from_trust_anchor.ensures
