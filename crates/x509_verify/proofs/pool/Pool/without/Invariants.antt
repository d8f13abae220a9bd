use Rattle.std.proofs.Common.{◌≢◌, map}
use Rattle.std.specs.List.{All}
use Rattle.x509_verify.specs.Named.{IsUnderSubject}
use Rattle.x509_verify.proofs.Gathering.{Gathered}
use Rattle.x509_verify.proofs.pool.Pool.without.Given as goal

-- the entries are those of what comes before but that certificate, each under its subject
abbrev pub invariant-loop-place : goal.invariant-loop-place
invariant-loop-place l = record {
  gathered : Gathered (λ entry. entry.value.certificate.bytes.now) (λ bytes. bytes ≢ l.certificate) (λ entry. Unit {0}) (map (λ entry. entry.value.certificate.bytes.now) l.self.entries.items) l.place l.entries.items;
  named : ∥ All IsUnderSubject l.entries.items ∥₁;
}
