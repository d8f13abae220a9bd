use Rattle.std.proofs.Common.{◌≡◌, ℕ, List, sym, ap}
use Rattle.x509_name.proofs.AttributeReading.{no_type}
use Rattle.x509_name.proofs.text.attributes.read_key.Goals as goal

pub returns-in-Err-clause-err : goal.returns-in-Err-clause-err
returns-in-Err-clause-err c =
    (ap (λ e. e.kind) c.into.ensures, λ (octets : List ℕ) says. no_type c.args.key.now octets (sym c.in_default.ensures) c.in-Err.ensures.cases.0 says)
