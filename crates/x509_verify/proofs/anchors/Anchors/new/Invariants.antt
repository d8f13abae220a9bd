use Rattle.x509_verify.specs.Named.{IsNamed, IsUnderName}
use Rattle.x509_verify.proofs.Gathering.{Gathered}
use Rattle.x509_verify.proofs.anchors.Anchors.new.Given as goal

-- the entries are those of what comes before
abbrev pub invariant-loop-one : goal.invariant-loop-one
invariant-loop-one l = Gathered (λ entry. entry.value) IsNamed IsUnderName l.trusted l.one-index l.entries.items
