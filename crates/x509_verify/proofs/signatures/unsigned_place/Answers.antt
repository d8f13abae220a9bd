use Rattle.std.proofs.Common.{◌≡◌, ◌∙◌, ◌+◌, suc, ℕ, List, [], Bor, get_or, drop, map, true, refl, sym, ap, subst, arith}
use Rattle.std.proofs.Math.Seq.{drop-cons}
use Rattle.std.proofs.lemmas.Bool.{true≢false}
use Rattle.std.proofs.lemmas.List.{length-map}
use Rattle.std.proofs.lemmas.List.Elements.{All-get_or}
use Rattle.x509_base.specs.SubjectPublicKeyInfo.{subject_public_key_info}
use Rattle.x509_der.specs.Form.{Spells}
use Rattle.x509_path.specs.Certificates.{IsSigned}
use Rattle.x509_path.specs.Lent.{Lends}
use Rattle.x509_verify.specs.Found.{octets}
use Rattle.x509_verify.specs.Named.{IsDecodable}
use Rattle.x509_verify.proofs.Keys.{drop_here, octets_from}
use Rattle.x509_verify.proofs.SigningSteps.{goes_on, stops}
use Rattle.x509_verify.proofs.signatures.unsigned_place.Goals as goal

-- what a read of a list of slices answers behind its end
abbrev nothing : Bor (List ℕ)
nothing = record { ref_ptr = (0, 0); now = [] }

pub unreachable-requires : goal.unreachable-requires
unreachable-requires g c =
    let (certificate, spells) = subst (λ b. IsDecodable b) (octets_from c.args.path.now c.loop-place.place nothing [] c.loop-place-test.true)
    (All-get_or (λ b. IsDecodable b) (octets c.args.path.now) c.loop-place.place [] (omega (arith, length-map c.args.path.now (λ (one : Bor (List ℕ)). one.now), c.loop-place-test.true)) c.requires) in
    true≢false (sym (c.in_default.ensures.every certificate spells))

pub returns-then-not-branch-clause-tells : goal.returns-then-not-branch-clause-tells
returns-then-not-branch-clause-tells g c = λ key spells all.
    let accepts = g.V.SliceVerifier.accepts c.args.verifier.now in
    let known = c.loop-place.invariant.tells all in
    let passed = known.passed key spells in
    let bytes = (get_or c.args.path.now c.loop-place.place nothing).now in
    let here = drop_here c.args.path.now c.loop-place.place nothing c.loop-place-test.true in
    let (certificate, found) = c.in-Ok.ensures.found.1 in
    stops accepts key (octets c.args.path.now) c.loop-place.place c.loop-place.above.items bytes certificate passed here found
    (λ signed. true≢false (sym ((c.in_ok-ask.ensures.answers known.remembered certificate passed.key (subst (λ b. Lends b certificate) (sym c.in-Ok.ensures.found.0) found) passed.spells).1
    (subst (λ b. IsSigned accepts passed.key b certificate) (sym c.in-Ok.ensures.found.0) signed)) ∙ c.if-not-branch.true))

pub loop-place-preserved : goal.loop-place-preserved
loop-place-preserved g c = record {
  counted = omega (arith, c.loop-place.invariant.counted, c.in_ok-ask.ensures.counted);
  tells = λ all.
      let accepts = g.V.SliceVerifier.accepts c.args.verifier.now in
      let known = c.loop-place.invariant.tells all in
      let bytes = (get_or c.args.path.now c.loop-place.place nothing).now in
      let (certificate, found) = c.in-Ok.ensures.found.1 in
      let lends = subst (λ b. Lends b certificate) (sym c.in-Ok.ensures.found.0) found in record {
        remembered = c.in_ok-ask.ensures.remembered known.remembered;
        passed = λ key spells.
            let passed = known.passed key spells in
            goes_on accepts key (octets c.args.path.now) c.loop-place.place c.loop-place.above.items bytes certificate passed (drop_here c.args.path.now c.loop-place.place nothing c.loop-place-test.true) found
            c.in_ok-below.below.items (c.loop-place.place + 1) (omega arith)
            (subst (λ b. IsSigned accepts passed.key b certificate) c.in-Ok.ensures.found.0 ((c.in_ok-ask.ensures.answers known.remembered certificate passed.key lends passed.spells).0 c.if-not-branch.false))
            (c.in_ok-below.ensures certificate passed.key lends (subst (λ o. Spells subject_public_key_info passed.key o) (sym c.as_slice.ensures.value) passed.spells));
      };
}
