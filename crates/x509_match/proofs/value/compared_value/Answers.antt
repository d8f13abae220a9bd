use Rattle.std.proofs.Common.{◌∙◌, sym, ap, Some, option_map, string_bytes}
use Rattle.x509_match.proofs.Values.{one_value}
use Rattle.x509_match.proofs.value.compared_value.Goals as goal

pub returns : goal.returns
returns c =
    one_value c.args.oid.now _ _ _ c.as_str.utf8 (ap Some c.as_str.ensures.value ∙ sym (ap (option_map string_bytes) c.in-Some.is) ∙ c.in_ok-given.ensures) c.in_ok-found.ensures
