use Rattle.std.proofs.Common.{inl, inr}
use Rattle.x509_match.proofs.PlainValues.{not_alike, no_text, a_text, text_keys}
use Rattle.x509_match.proofs.attribute.plain_values_match.Goals as goal

pub returns-then-not-is_text : goal.returns-then-not-is_text
returns-then-not-is_text c p q apart = not_alike c.args.oid.now c.args.a_tag c.args.b_tag c.args.a.now c.args.b.now apart (inl (no_text _ _ _ (c.is_text.ensures p) c.if-not-is_text.true))

pub returns-then-not-is_text-2 : goal.returns-then-not-is_text-2
returns-then-not-is_text-2 c p q apart = not_alike c.args.oid.now c.args.a_tag c.args.b_tag c.args.a.now c.args.b.now apart (inr (no_text _ _ _ (c.is_text-2.ensures q) c.if-not-is_text-2.true))

pub returns : goal.returns
returns c p q apart =
    let left = a_text _ _ _ (c.is_text.ensures p) c.if-not-is_text.false in
    let right = a_text _ _ _ (c.is_text-2.ensures q) c.if-not-is_text-2.false in
    let k = text_keys c.args.oid.now c.args.a_tag c.args.b_tag c.args.a.now c.args.b.now left.0 left.1 right.1 in
    let m = c.texts_match.ensures left.0 right.0 in
    (λ e. k.0 (m.0 e), λ e. m.1 (k.1 e))
