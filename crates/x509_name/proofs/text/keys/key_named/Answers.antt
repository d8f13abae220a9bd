use Rattle.std.proofs.Common.{sym}
use Rattle.x509_name.proofs.TableFacts.{identifier_of_key}
use Rattle.x509_name.proofs.text.keys.key_named.Goals as goal

pub returns-in-Err : goal.returns-in-Err
returns-in-Err c =
    let is = identifier_of_key c.args.name.now _ (sym c.in_ok-row.ensures) in
    absurd (let h = rw (c.in-Err.ensures.err, is) at c.in-Err.ensures.exact in cc)
