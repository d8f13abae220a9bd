use Rattle.std.proofs.Common.{length, refl, ap, ◌∙◌}
use Rattle.x509_c_calls.proofs.SctParts.{log_id_at, extensions_at, signature_at}
use Rattle.x509_c_calls.proofs.sct.timestamp.view_of.Goals as goal

pub returns : goal.returns
returns c = λ bytes spells.
    let len = ap length c.as_slice-extensions.ensures.value in
    record {
      version = c.from.ensures ∙ c.byte.ensures;
      log_id = log_id_at bytes _ spells;
      timestamp = refl;
      extensions = extensions_at bytes _ spells _ len;
      hash = c.from-2.ensures ∙ c.byte-2.ensures;
      signature_algorithm = c.from-3.ensures ∙ c.byte-3.ensures;
      signature = signature_at bytes _ spells _ _ len (ap length c.as_slice.ensures.value);
    }
