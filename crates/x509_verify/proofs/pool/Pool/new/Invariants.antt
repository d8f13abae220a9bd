use Rattle.std.proofs.Common.{map}
use Rattle.x509_verify.specs.Named.{IsDecodable, IsUnderSubject}
use Rattle.x509_verify.proofs.Gathering.{Gathered}
use Rattle.x509_verify.proofs.pool.Pool.new.Given as goal

-- the entries are those of what comes before
abbrev pub invariant-loop-bytes : goal.invariant-loop-bytes
invariant-loop-bytes l = Gathered (λ entry. entry.value.certificate.bytes.now) IsDecodable IsUnderSubject (map (λ one. one.now) l.candidates) l.bytes-index l.entries.items
