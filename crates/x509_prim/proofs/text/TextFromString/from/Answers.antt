-- The octets of a string are those of a text.
use Rattle.std.proofs.Common.{ap, ◌∙◌}
use Rattle.std.proofs.lemmas.Str.{IsUtf8-string_bytes}
use Rattle.x509_prim.proofs.text.TextFromString.from.Goals as goal

pub invariant_of-result : goal.invariant_of-result
invariant_of-result c = rw (c.from.ensures ∙ ap (λ v. v.items) c.into_bytes.ensures.value) (IsUtf8-string_bytes c.args.text)
