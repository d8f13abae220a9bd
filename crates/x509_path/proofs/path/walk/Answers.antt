use Rattle.std.proofs.Common.{◌∙◌, ◌<◌, Bool, List, [], ℕ, Bor, Ok, Err, None, Some, length, map, get_or, subst, arith}
use Rattle.std.proofs.lemmas.List.{length-map}
use Rattle.x509_path.specs.Certificates.{AreEqual, extensions_of}
use Rattle.x509_path.specs.PathLength.{Judges, anchor_behind, standing}
use Rattle.x509_path.proofs.Many.{one_of, refused_too}
use Rattle.x509_path.proofs.PathLengths.{narrows}
use Rattle.x509_path.proofs.Places.{counted, done, further, given_at, refused, some_left}
use Rattle.x509_path.proofs.path.walk.Goals as goal

-- what a read of a list of slices answers behind its end
abbrev nothing : Bor (List ℕ)
nothing = record { ref_ptr = (0, 0); now = [] }

pub returns-in-Err-clause-answers : goal.returns-in-Err-clause-answers
returns-in-Err-clause-answers g c = λ anchor is.
    let accepts = g.T.Trust.accepts c.args.trust.now in
    let inputs = map (λ (input : Bor (List ℕ)). input.now) c.args.path.now in
    let bytes = (get_or c.args.path.now c.loop-index.index nothing).now in
    let input = given_at (λ (input : Bor (List ℕ)). input.now) c.args.path.now c.loop-index.index nothing c.loop-index-test.true in
    let over = (c.loop-index.invariant anchor is).0 in
    let above = anchor_behind anchor over in
    let passed = (c.loop-index.invariant anchor is).2 in
    let within : c.loop-index.index < length inputs = omega (arith, length-map c.args.path.now (λ (input : Bor (List ℕ)). input.now), c.loop-index-test.true) in
    let said = subst (λ (l : Bool). Judges accepts c.args.moment (standing above.name above.key passed.before l) bytes c.loop-index.index (Err c.in-Err.e)) (counted (λ (input : Bor (List ℕ)). input.now) c.args.path.now c.loop-index.index)
    (c.in-Err.ensures.judged above (c.loop-index.invariant anchor is).1 passed.before (passed.leaves within)) in
    refused accepts c.args.moment anchor inputs c.loop-index.index over c.loop-index.max_path_length bytes passed input c.in-Err.e (some_left (λ (input : Bor (List ℕ)). input.now) c.args.path.now c.if-is_empty.ensures) said

pub loop-index-preserved : goal.loop-index-preserved
loop-index-preserved g c = λ anchor is.
    let accepts = g.T.Trust.accepts c.args.trust.now in
    let inputs = map (λ (input : Bor (List ℕ)). input.now) c.args.path.now in
    let bytes = (get_or c.args.path.now c.loop-index.index nothing).now in
    let input = given_at (λ (input : Bor (List ℕ)). input.now) c.args.path.now c.loop-index.index nothing c.loop-index-test.true in
    let over = (c.loop-index.invariant anchor is).0 in
    let above = anchor_behind anchor over in
    let passed = (c.loop-index.invariant anchor is).2 in
    let within : c.loop-index.index < length inputs = omega (arith, length-map c.args.path.now (λ (input : Bor (List ℕ)). input.now), c.loop-index-test.true) in
    let counts = counted (λ (input : Bor (List ℕ)). input.now) c.args.path.now c.loop-index.index in
    let judged = c.in-Ok.ensures.judged above (c.loop-index.invariant anchor is).1 passed.before (passed.leaves within) in
    let certificate = judged.0 in
    let lends = judged.1 in
    let said = subst (λ (l : Bool). Judges accepts c.args.moment (standing above.name above.key passed.before l) bytes c.loop-index.index (Ok certificate)) counts judged.2.1 in (
      Some certificate,
      c.from_certificate.ensures certificate lends,
      further accepts c.args.moment anchor inputs c.loop-index.index over c.loop-index.max_path_length bytes passed input certificate c.narrow-max_path_length.result said
          (λ early before leaves free.
          let limits = c.path_len.ensures (extensions_of certificate) (judged.2.0 (counts ∙ early)) in
          rw c.narrow-max_path_length.ensures (narrows AreEqual certificate c.is_self_issued-is_own.result (c.is_self_issued-is_own.ensures certificate lends) c.path_len.result limits None before c.loop-index.max_path_length leaves free)),
    )

pub returns-clause-answers : goal.returns-clause-answers
returns-clause-answers g c = λ anchor is.
    let inv = (c.loop-index.invariant anchor is) in
    done (g.T.Trust.accepts c.args.trust.now) c.args.moment anchor (map (λ (input : Bor (List ℕ)). input.now) c.args.path.now) c.loop-index.index inv.0 c.loop-index.max_path_length inv.2
    (omega (arith, length-map c.args.path.now (λ (input : Bor (List ℕ)). input.now), c.loop-index-test.false)) (some_left (λ (input : Bor (List ℕ)). input.now) c.args.path.now c.if-is_empty.ensures)

pub returns-in-Err-clause-memory : goal.returns-in-Err-clause-memory
returns-in-Err-clause-memory g c = λ lacks.
    one_of (λ (input : Bor (List ℕ)). input.now) c.args.path.now c.loop-index.index nothing c.loop-index-test.true (c.in-Err.ensures.memory (refused_too _ _ lacks))
