use Rattle.std.proofs.Common.{length, sym, ap, ◌∙◌, arith}
use Rattle.x509_prim.specs.Integer.{is_unsigned, number, with_sign}
use Rattle.x509_prim.proofs.Naturals.{number-content, is_unsigned-content}
use Rattle.std.proofs.lemmas.Bool.{eqb-false}
use Rattle.x509_prim.proofs.uint.Uint.new.Goals as goal

pub invariant_of-result : goal.invariant_of-result
invariant_of-result c =
    let some = eqb-false (length c.args.octets.now) 0 (sym c.is_empty.ensures ∙ c.if-is_empty.false) in
    ap is_unsigned (c.in_ok-signed_content.ensures.ok ∙ ap with_sign c.strip_zeros.ensures) ∙ is_unsigned-content c.args.octets.now (omega arith)

pub returns-clause-number : goal.returns-clause-number
returns-clause-number c =
    ap number (c.in_ok-signed_content.ensures.ok ∙ ap with_sign c.strip_zeros.ensures) ∙ number-content c.args.octets.now
