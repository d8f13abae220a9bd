use Rattle.std.proofs.Common.{◌∙◌, ℕ, List, [], Bor, sym, subst, arith}
use Rattle.std.proofs.lemmas.Bool.{true≢false}
use Rattle.std.proofs.lemmas.List.{length-map}
use Rattle.x509_path.specs.Lent.{Lends}
use Rattle.x509_trust.specs.Peers.{Passes}
use Rattle.x509_verify.specs.Found.{octets}
use Rattle.x509_trust.proofs.statuses.first_refused.Goals as goal
use Rattle.x509_trust.proofs.statuses.first_refused.Goals.{in-Ok+in_ok-status+else-is_barred, in_default}
use Rattle.x509_verify.proofs.Keys.{each_further, octets_from}

-- what a read of a list of slices answers behind its end
abbrev nothing : Bor (List ℕ)
nothing = record { ref_ptr = (0, 0); now = [] }

pub loop-bytes-preserved : goal.loop-bytes-preserved
loop-bytes-preserved g c = λ given lends.
    let accepts = g.V.SliceVerifier.accepts c.args.verifier.now in
    let lent = c.args.certificates.now in
    let i = c.loop-bytes.bytes-index in
    let inside = c.loop-bytes-test.true in
    let same = octets_from lent i nothing [] inside in
    each_further (Passes accepts c.args.check.now given) (octets lent) i [] (omega (arith, inside, length-map lent (λ (one : Bor (List ℕ)). one.now)))
    (c.loop-bytes.invariant given lends) (λ certificate spells. elim c.match-from_der.branch [
      | in-Ok+in_ok-status+else-is_barred w ↦ (
        w.in_ok-status.status,
        w.in_ok-status.ensures certificate given (subst (λ b. Lends b certificate) (same ∙ sym w.in-Ok.ensures.found.0) spells) lends,
        λ bars. true≢false (sym (w.is_barred.ensures.1 bars) ∙ w.if-is_barred.false),
      )
      | in_default w ↦ absurd (true≢false (sym (w.in_default.ensures.every certificate (subst (λ b. Lends b certificate) same spells))))
    ])
