use Rattle.std.proofs.Common.{sym, ◌∙◌}
use Rattle.x509_match.proofs.PlainValues.{labels, others}
use Rattle.x509_match.proofs.attribute.texts_match.Goals as goal

pub returns-then-is_caseless : goal.returns-then-is_caseless
returns-then-is_caseless c p q =
    let k = labels c.args.oid.now c.args.a.now c.args.b.now (sym c.is_caseless.ensures ∙ c.if-is_caseless.true) in
    let m = c.eq_ignore_ascii_case.ensures.test in
    (λ e. k.0 (m.0 e), λ e. m.1 (k.1 e))

pub returns : goal.returns
returns c p q =
    let k = others c.args.oid.now c.args.a.now c.args.b.now (sym c.is_caseless.ensures ∙ c.if-is_caseless.false) p q in
    let m = c.prepared_alike.ensures p q in
    (λ e. k.0 (m.0 e), λ e. m.1 (k.1 e))
