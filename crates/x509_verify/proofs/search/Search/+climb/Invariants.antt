use Rattle.std.proofs.Common.{◌≡◌, ◌∷◌, ◌⊎◌, ◌+◌, ◌<◌, ℕ, get_or, length, take}
use Rattle.std.specs.List.{Contains}
use Rattle.std.specs.Prelude.{IsSome}
use Rattle.x509_match.specs.declared.key.MatchedName.{MatchedName}
use Rattle.x509_verify.specs.Found.{Wanted, octets}
use Rattle.x509_verify.specs.Progress.{IsOnPath, IsRight, IsSearched, IsTried, KnowsIssuer, Takes, left_of}
use Rattle.x509_verify.specs.declared.candidate.Candidate.{Candidate}
use Rattle.x509_verify.specs.declared.keyed.Keyed.{Keyed}
use Rattle.x509_verify.proofs.Counting.{spent, turned}
use Rattle.x509_verify.proofs.search.Search.+climb.Given as goal

-- what is known is right, and with each of those before in turn all was tried, which took what it says
abbrev pub invariant-loop-place : goal.invariant-loop-place
invariant-loop-place g l = record {
  counted : Takes (left_of l.initial.progress) (left_of l.progress)
      (spent l.self.anchors.now l.self.pool.now (length l.path + l.left) l.fewer (octets l.path) (take l.place (turned l.start l.named)));
  tells : (wanted : Wanted) → IsSearched l.self.settings.now l.self.anchors.now l.self.pool.now wanted → IsOnPath wanted (octets l.path) l.left
      → KnowsIssuer (octets l.path) l.issuer → IsRight (g.V.SliceVerifier.accepts l.self.verifier.now) wanted l.initial.progress → record {
        right : IsRight (g.V.SliceVerifier.accepts l.self.verifier.now) wanted l.progress;
        noted : IsSome l.initial.progress.refusal → IsSome l.progress.refusal;
        done : (k : ℕ) (d : Keyed MatchedName Candidate) → k < l.place → Contains (octets l.path) (get_or (turned l.start l.named) k d).value.certificate.bytes.now
            ⊎ IsTried (g.V.SliceVerifier.accepts l.self.verifier.now) wanted ((get_or (turned l.start l.named) k d).value.certificate.bytes.now ∷ octets l.path) l.fewer l.progress.refusal;
      };
}

abbrev pub decreases-climb : goal.decreases-climb
decreases-climb g l = l.left
