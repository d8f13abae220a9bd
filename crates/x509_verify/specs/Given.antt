-- What is given to find a path: anchors and candidates.
use Rattle.std.specs.Prelude.{ℕ, List, map}
use Rattle.x509_path_steps.specs.declared.trusted.Trusted.{Trusted}
use Rattle.x509_verify.specs.declared.anchors.Anchors.{Anchors}
use Rattle.x509_verify.specs.declared.pool.Pool.{Pool}

-- what is trusted, in the order of the names
abbrev pub trusted_of : Anchors → List Trusted
trusted_of anchors = map (λ entry. entry.value) anchors.entries.items

-- the encodings of the candidates, in the order of their subjects
abbrev pub candidates_of : Pool → List (List ℕ)
candidates_of pool = map (λ entry. entry.value.certificate.bytes.now) pool.entries.items
