use Rattle.std.proofs.Common.{◌≡◌, ◌∷◌, ◌-◌, [], None}
use Rattle.std.specs.List.{All}
use Rattle.x509_verify.specs.Effort.{effort_below}
use Rattle.x509_verify.specs.Found.{Wanted, octets}
use Rattle.x509_verify.specs.Progress.{AreTriedBelow, IsAnswer, IsRight, IsSearched, KnowsIssuer, Takes, left_of, up_to}
use Rattle.x509_verify.proofs.search.Search.climb_by_length.Given as goal

-- what is known is right, and shorter paths were tried, which took what it says
abbrev pub invariant-loop-depth : goal.invariant-loop-depth
invariant-loop-depth g l = record {
  counted : Takes (left_of l.initial.progress) (left_of l.progress) (effort_below l.self.anchors.now l.self.pool.now l.depth (octets l.path) l.issuer);
  tells : (wanted : Wanted) → IsSearched l.self.settings.now l.self.anchors.now l.self.pool.now wanted → wanted.max_depth ≡ l.max_depth → octets l.path ≡ wanted.leaf ∷ [] → KnowsIssuer (octets l.path) l.issuer
      → All (IsAnswer (g.V.SliceVerifier.accepts l.self.verifier.now)) l.initial.progress.asked.items → l.initial.progress.refusal ≡ None → record {
        right : IsRight (g.V.SliceVerifier.accepts l.self.verifier.now) (up_to wanted (l.depth - 1)) l.progress;
        below : AreTriedBelow (g.V.SliceVerifier.accepts l.self.verifier.now) wanted l.depth l.progress.refusal;
      };
}
