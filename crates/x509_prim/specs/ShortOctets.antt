-- Up to 24 octets fit into an OCTET STRING and take no memory, so that it is never refused.
use Rattle.std.specs.Prelude.{◌≡◌, ℕ, ◌<◌, ◌≤◌, ◌⊎◌, List, length, Result, Ok, Err, IfOk, IfErr, IsOkAnd}
use Rattle.std.proofs.Common.{arith, inl, inr}
use Rattle.x509_der.specs.declared.error.Error.{Error}
use Rattle.x509_der.specs.declared.error.ErrorKind.TheVariants.{Memory, Overlength}
use Rattle.x509_der.specs.ContentLaws.{content_fits}
use Rattle.x509_der.specs.Element.{limit}
use Rattle.x509_der.specs.Form.{spelling}
use Rattle.x509_prim.specs.OctetString.{octet_string}

pub short_octets_are_held : (octets : List ℕ) (result : Result (List ℕ) Error) → length octets ≤ 24
    → IfOk result (λ string. (string ≡ octets) × (length (spelling octet_string octets) ≤ limit))
    → IfErr result (λ e. ((e.kind ≡ Memory) × (24 < length octets) × (length (spelling octet_string octets) ≤ limit)) ⊎ ((e.kind ≡ Overlength) × (limit < length (spelling octet_string octets))))
    → IsOkAnd result (λ string. string ≡ octets)
short_octets_are_held octets (Ok string) short ok err = ok.0
short_octets_are_held octets (Err e) short ok err = elim err [
  | inl memory ↦ absurd (let more = memory.1 in omega (arith, more, short))
  | inr long ↦ absurd (let fits = content_fits octets (omega (arith, short)) 4 in let over = long.1 in omega (arith, fits, over))
]
