use Rattle.std.proofs.Common.{◌∙◌, sym, chars}
use Rattle.x509_match.proofs.Values.{compared-caseless, compared-other}
use Rattle.x509_match.proofs.value.compared.Goals as goal

pub returns-then-is_caseless : goal.returns-then-is_caseless
returns-then-is_caseless c = compared-caseless _ _ _ (sym c.is_caseless.ensures ∙ c.if-is_caseless.true) c.in_ok-found.ensures

pub returns : goal.returns
returns c =
    let other = compared-other c.args.oid.now (chars c.args.text.now) (sym c.is_caseless.ensures ∙ c.if-is_caseless.false) in
    rw other c.in_ok-found-2.ensures
