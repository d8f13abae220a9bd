use Rattle.std.proofs.Common.{◌≡◌, ◌<◌, ℕ, get_or, take}
use Rattle.x509_c_calls.proofs.path.places.parts_of.Given as goal
use Rattle.x509_c_calls.specs.PathFinding.{parts}
use Rattle.x509_c_calls.specs.RevocationStatus.{IsWithin}
use Rattle.x509_verify.specs.Found.{octets}
use Rattle.x509_c_calls.specs.declared.place.span.Span.{Span}

-- those so far are within the bytes, and are lent
abbrev pub invariant-loop-span : goal.invariant-loop-span
invariant-loop-span l = ((k : ℕ) (d : Span) → k < l.span-index → IsWithin l.bytes (get_or l.spans k d)) × (octets l.lent.items ≡ parts l.bytes (take l.span-index l.spans))
