use Rattle.std.proofs.Common.{◌≡◌, ◌∙◌, ◌+◌, ◌∷◌, ℕ, List, [], Bor, get_or, map, refl, sym, ap, subst, arith}
use Rattle.std.proofs.lemmas.Bool.{true≢false}
use Rattle.std.proofs.lemmas.Grind.{merely}
use Rattle.std.proofs.lemmas.List.{length-map}
use Rattle.std.proofs.lemmas.List.Sorted.{IsPermutation-trans}
use Rattle.std.proofs.lemmas.Slice.{pushed}
use Rattle.x509_match.specs.declared.key.MatchedName.{MatchedName}
use Rattle.x509_path.specs.Lent.{Lends}
use Rattle.x509_verify.specs.Named.{IsDecodable, IsUnderSubject}
use Rattle.x509_verify.specs.declared.candidate.Candidate.{Candidate}
use Rattle.x509_verify.specs.declared.keyed.Keyed.{Keyed}
use Rattle.x509_verify.proofs.Gathering.{Gathered, gathered_all, none_more, one_more}
use Rattle.x509_verify.proofs.Keys.{lent_at, lent_there}
use Rattle.x509_verify.proofs.pool.Pool.new.Goals as goal
use Rattle.x509_verify.proofs.pool.Pool.new.Goals.{in-Ok+in_ok-entry_of+in_ok-push, in_default}

-- what a read of a list of slices answers behind its end
abbrev nothing : Bor (List ℕ)
nothing = record { ref_ptr = (0, 0); now = [] }

abbrev bytes_of : Keyed MatchedName Candidate → List ℕ
bytes_of entry = entry.value.certificate.bytes.now

pub loop-bytes-preserved : goal.loop-bytes-preserved
loop-bytes-preserved c =
    let given = map (λ (one : Bor (List ℕ)). one.now) c.args.candidates.now in
    let n = c.loop-bytes.bytes-index in
    let within = c.loop-bytes-test.true in
    let far = length-map c.args.candidates.now (λ (one : Bor (List ℕ)). one.now) in
    elim c.match-from_der.branch [
      | in-Ok+in_ok-entry_of+in_ok-push w ↦
          let (certificate, spells) = w.in-Ok.ensures.found.1 in
          let here = w.in-Ok.ensures.found.0 in
          let same = w.in_ok-entry_of.ensures.bytes ∙ here in
          subst (λ (xs : List (Keyed MatchedName Candidate)). Gathered bytes_of IsDecodable IsUnderSubject given (n + 1) xs) (sym (ap (λ v. v.items) w.entries-is ∙ pushed (w.in_ok-entry_of.field-0 ∷ []) refl w.in_ok-push.was w.push.ensures.items))
          (one_more bytes_of IsDecodable IsUnderSubject given n (n + 1) refl c.loop-bytes.entries.items c.loop-bytes.invariant w.in_ok-entry_of.field-0
          (w.in_ok-entry_of.ensures.under certificate (subst (λ b. Lends b certificate) (sym here) spells)) (omega (arith, far, within))
          (lent_at c.args.candidates.now n nothing (bytes_of w.in_ok-entry_of.field-0) within same) (certificate, subst (λ b. Lends b certificate) (sym same) spells))
      | in_default w ↦
          subst (λ (xs : List (Keyed MatchedName Candidate)). Gathered bytes_of IsDecodable IsUnderSubject given (n + 1) xs) (sym (ap (λ v. v.items) w.entries-is))
          (none_more bytes_of IsDecodable IsUnderSubject given n (n + 1) refl c.loop-bytes.entries.items c.loop-bytes.invariant
          (λ bytes is (certificate, spells). true≢false (sym (w.in_default.ensures.every certificate (subst (λ b. Lends b certificate) (lent_there c.args.candidates.now n nothing bytes within is) spells)))))
    ]

pub invariant_of-result : goal.invariant_of-result
invariant_of-result c =
    let all = gathered_all bytes_of IsDecodable IsUnderSubject (map (λ (one : Bor (List ℕ)). one.now) c.args.candidates.now) c.loop-bytes.bytes-index c.loop-bytes.entries.items c.in_ok-in_order.field-0.items c.loop-bytes.invariant
    (omega (arith, length-map c.args.candidates.now (λ (one : Bor (List ℕ)). one.now), c.loop-bytes-test.false)) (IsPermutation-trans _ _ _ c.in_ok-latest_first.ensures c.in_ok-in_order.ensures.same) in
    record { order = c.in_ok-in_order.ensures.order; named = merely all.0 }

pub returns : goal.returns
returns c =
    (gathered_all bytes_of IsDecodable IsUnderSubject (map (λ (one : Bor (List ℕ)). one.now) c.args.candidates.now) c.loop-bytes.bytes-index c.loop-bytes.entries.items c.in_ok-in_order.field-0.items c.loop-bytes.invariant
    (omega (arith, length-map c.args.candidates.now (λ (one : Bor (List ℕ)). one.now), c.loop-bytes-test.false)) (IsPermutation-trans _ _ _ c.in_ok-latest_first.ensures c.in_ok-in_order.ensures.same)).1
