use Rattle.std.proofs.Common.{◌≡◌, ◌<◌, ℕ, get_or, length}
use Rattle.std.specs.Prelude.{IsSome}
use Rattle.x509_match.specs.declared.key.MatchedName.{MatchedName}
use Rattle.x509_path_steps.specs.declared.trusted.Trusted.{Trusted}
use Rattle.x509_verify.proofs.Counting.{attempts}
use Rattle.x509_verify.proofs.search.Search.attempt_all.Given as goal
use Rattle.x509_verify.specs.Found.{Wanted, octets}
use Rattle.x509_verify.specs.Progress.{IsOnPath, IsRight, IsSearched, IsTriedUnder, Takes, left_of}
use Rattle.x509_verify.specs.declared.keyed.Keyed.{Keyed}

-- what is known is right, and those before were tried, which took as many paths
abbrev pub invariant-loop-entry : goal.invariant-loop-entry
invariant-loop-entry g l = record {
  counted : Takes (left_of l.initial.progress) (left_of l.progress) (attempts l.entry-index (length l.path));
  tells : (wanted : Wanted) → IsSearched l.self.settings.now l.self.anchors.now l.self.pool.now wanted → IsOnPath wanted (octets l.path) 0
      → IsRight (g.V.SliceVerifier.accepts l.self.verifier.now) wanted l.initial.progress → record {
        right : IsRight (g.V.SliceVerifier.accepts l.self.verifier.now) wanted l.progress;
        noted : IsSome l.initial.progress.refusal → IsSome l.progress.refusal;
        tried : (k : ℕ) (d : Keyed MatchedName Trusted) → k < l.entry-index
            → IsTriedUnder (g.V.SliceVerifier.accepts l.self.verifier.now) wanted (get_or l.named k d).value (octets l.path) l.progress.refusal;
      };
}
