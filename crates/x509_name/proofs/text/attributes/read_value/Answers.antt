use Rattle.std.proofs.Common.{sym, ◌∙◌}
use Rattle.x509_name.proofs.AttributeReading.{itself_read, itself_refused}
use Rattle.x509_name.proofs.Unescaping.{no_escape}
use Rattle.x509_name.proofs.text.attributes.read_value.Goals as goal

pub returns-clause-ok : goal.returns-clause-ok
returns-clause-ok c =
    itself_read c.args.oid.now c.args.text.now c.in_default.ensures (no_escape c.args.text.now (sym c.has_escape.ensures ∙ c.if-has_escape.false)) _ c.tag_for.ensures
    c.new.result c.new.ensures.overlength c.new.ensures.ok

pub returns-clause-err : goal.returns-clause-err
returns-clause-err c =
    itself_refused c.args.oid.now c.args.text.now c.in_default.ensures (no_escape c.args.text.now (sym c.has_escape.ensures ∙ c.if-has_escape.false)) _ c.tag_for.ensures
    c.new.result c.new.ensures.overlength c.new.ensures.err
