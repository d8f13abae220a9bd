use Rattle.std.proofs.Common.{◌≡◌, ◌∙◌, ◌++◌, ◌∷◌, [], List, ℕ, Bor, Err, Ok, true, false, map, take, length, get_or, ap, refl, sym, subst, arith}
use Rattle.std.proofs.lemmas.List.{length-map, take_all}
use Rattle.std.proofs.lemmas.Result.{err_from_is_err_and}
use Rattle.x509_match.specs.Matching.{NamesMatch}
use Rattle.x509_path.proofs.PathLengths.{narrows}
use Rattle.x509_path.specs.Certificates.{extensions_of}
use Rattle.x509_path.specs.Lent.{LendsAnchor}
use Rattle.x509_path_steps.specs.Keys.{key_behind}
use Rattle.x509_path_steps.specs.declared.asked.Asked.{Asked}
use Rattle.x509_policy.specs.Views.{octets_of}
use Rattle.x509_validation.proofs.LentPaths.{next_lent}
use Rattle.x509_validation.proofs.Stepping.{Passed, at_front, at_last, early, further, late, none, none_behind, not_empty, refused, some_behind, starting, under, whole_length, with_its_parameters}
use Rattle.x509_validation.proofs.validate.walk_down.Goals as goal
use Rattle.x509_validation.specs.Judging.{Carries, Judges, standing}

-- what a read of a list of slices answers behind its end
abbrev nothing : Bor (List ℕ)
nothing = record { ref_ptr = (0, 0); now = [] }

pub loop-index-init : goal.loop-index-init
loop-index-init g c = λ inputs lends carries.
    let path = map (λ (input : Bor (List ℕ)). input.now) c.args.front.now ++ c.args.last.now ∷ [] in
    let all = subst (λ n. Carries inputs n [] c.args.policies) (sym (whole_length c.args.front.now c.args.last.now)) carries in
    let sets : Asked = record { names = c.in_ok-names.names; purposes = c.in_ok-purposes.purposes; uses = c.uses.result } in (
      subst (λ m. Passed (g.S.Trust.accepts c.args.validator.now.signatures.now) inputs path 0 m c.new-above.result c.args.trusted.now.max_path_length sets c.args.policies) (sym c.requires)
          (starting (g.S.Trust.accepts c.args.validator.now.signatures.now) inputs path c.args.trusted.now c.args.settings.now c.new-above.result sets c.args.policies lends
          (subst (λ a. LendsAnchor a inputs.trust.anchor) (sym c.new-above.ensures.anchor) lends.trust.anchor) (c.new-above.ensures.key inputs.trust.anchor.key lends.trust.anchor.1)
          (c.in_ok-names.ensures inputs lends) c.in_ok-purposes.ensures c.uses.ensures all),
      ap (map (λ certificate. certificate.bytes.now)) c.in_ok-certificates.ensures.items,
    )

pub returns-in-Err : goal.returns-in-Err
returns-in-Err g c = λ inputs lends carries.
    let front = map (λ (input : Bor (List ℕ)). input.now) c.args.front.now in
    let bytes = (get_or c.args.front.now c.loop-index.index nothing).now in
    let passed = (c.loop-index.invariant inputs lends carries).0 in
    let input = at_front c.args.front.now c.args.last.now c.loop-index.index nothing c.loop-index-test.true in
    let more = some_behind front c.args.last.now c.loop-index.index (omega (arith, length-map c.args.front.now (λ (input : Bor (List ℕ)). input.now), c.loop-index-test.true)) in
    let usable = (c.in_ok-names.ensures inputs lends).1 in
    let enough = early (g.S.Trust.accepts c.args.validator.now.signatures.now) inputs (front ++ c.args.last.now ∷ []) c.loop-index.index c.args.validator.now.moment c.loop-index.above c.loop-index.max_path_length c.loop-index.sets c.loop-index.state bytes false passed input more refl in
    let judged = c.in-Err.ensures inputs passed.above passed.before (length (front ++ c.args.last.now ∷ [])) passed.stands passed.carries refl enough in
    refused (g.S.Trust.accepts c.args.validator.now.signatures.now) inputs (front ++ c.args.last.now ∷ []) c.loop-index.index c.args.validator.now.moment c.loop-index.above c.loop-index.max_path_length c.loop-index.sets c.loop-index.state bytes false passed input more
    c.in-Err.e (not_empty front c.args.last.now) usable judged

pub loop-index-preserved : goal.loop-index-preserved
loop-index-preserved g c = λ inputs lends carries.
    let front = map (λ (input : Bor (List ℕ)). input.now) c.args.front.now in
    let bytes = (get_or c.args.front.now c.loop-index.index nothing).now in
    let passed = (c.loop-index.invariant inputs lends carries).0 in
    let input = at_front c.args.front.now c.args.last.now c.loop-index.index nothing c.loop-index-test.true in
    let more = some_behind front c.args.last.now c.loop-index.index (omega (arith, length-map c.args.front.now (λ (input : Bor (List ℕ)). input.now), c.loop-index-test.true)) in
    let enough = early (g.S.Trust.accepts c.args.validator.now.signatures.now) inputs (front ++ c.args.last.now ∷ []) c.loop-index.index c.args.validator.now.moment c.loop-index.above c.loop-index.max_path_length c.loop-index.sets c.loop-index.state bytes false passed input more refl in
    let judged = c.in-Ok.ensures inputs passed.above passed.before (length (front ++ c.args.last.now ∷ [])) passed.stands passed.carries refl enough in
    let certificate = judged.0 in
    let limits = judged.2 in
    let sets : Asked = record { names = c.add_own.new.sets; purposes = c.in-Ok.judged.1.purposes; uses = c.loop-index.sets.uses } in (
      further (g.S.Trust.accepts c.args.validator.now.signatures.now) inputs (front ++ c.args.last.now ∷ []) c.loop-index.index c.args.validator.now.moment c.loop-index.above c.loop-index.max_path_length c.loop-index.sets c.loop-index.state bytes false passed input more
          certificate judged.4 c.in-Ok.judged.1.name_constraints c.below-above.result c.narrow-max_path_length.result sets c.go_on.new.state
          refl limits.of_limits.of_names (c.below-above.ensures.anchor certificate judged.1)
          (c.below-above.ensures.key certificate (key_behind inputs.trust.anchor.key passed.before) judged.1 passed.stands.key)
          (λ free. rw c.narrow-max_path_length.ensures (narrows NamesMatch certificate c.in-Ok.judged.1.policies.is_self_issued limits.own c.path_len.result
          (c.path_len.ensures (extensions_of certificate) limits.of_limits.of_basic) inputs.trust.max_path_length passed.before c.loop-index.max_path_length passed.stands.leaves free))
          (c.in_ok-add_own.ensures passed.stands.constraints passed.stands.applied) refl limits.of_purposes judged.3,
      next_lent (λ certificate. certificate.bytes.now) c.loop-index.certificates.items c.push.new.self.items c.in-Ok.judged.0 c.args.front.now c.loop-index.index nothing certificate
          (c.loop-index.invariant inputs lends carries).1 c.in-Ok-push.ensures.items c.loop-index-test.true judged.1 judged.4.0,
    )

pub returns-in_err-purposes : goal.returns-in_err-purposes
returns-in_err-purposes g c = λ inputs lends carries.
    let memory = err_from_is_err_and c.from_residual-in_err-purposes.result c.from_residual-in_err-purposes.ensures.1 in
    rw (memory.1, memory.2) (not_empty (map (λ (input : Bor (List ℕ)). input.now) c.args.front.now) c.args.last.now)

pub returns-in_err-certificates : goal.returns-in_err-certificates
returns-in_err-certificates g c = λ inputs lends carries.
    let memory = err_from_is_err_and c.from_residual-in_err-certificates.result c.from_residual-in_err-certificates.ensures.1 in
    rw (memory.1, memory.2) (not_empty (map (λ (input : Bor (List ℕ)). input.now) c.args.front.now) c.args.last.now)

pub returns-in_err-add_own : goal.returns-in_err-add_own
returns-in_err-add_own g c = λ inputs lends carries.
    let memory = err_from_is_err_and c.from_residual-in_err-add_own.result c.from_residual-in_err-add_own.ensures.1 in
    rw (memory.1, memory.2) (not_empty (map (λ (input : Bor (List ℕ)). input.now) c.args.front.now) c.args.last.now)

pub returns : goal.returns
returns g c = λ inputs lends carries.
    let front = map (λ (input : Bor (List ℕ)). input.now) c.args.front.now in
    let path = front ++ c.args.last.now ∷ [] in
    let at_end : c.loop-index.index ≡ length c.args.front.now = omega (arith, c.loop-index-test.false, c.loop-index.auto.index-end) in
    let passed = subst (λ i. Passed (g.S.Trust.accepts c.args.validator.now.signatures.now) inputs path i c.args.validator.now.moment c.loop-index.above c.loop-index.max_path_length c.loop-index.sets c.loop-index.state) at_end (c.loop-index.invariant inputs lends carries).0 in
    let usable = (c.in_ok-names.ensures inputs lends).1 in
    let whole = late (g.S.Trust.accepts c.args.validator.now.signatures.now) inputs path (length c.args.front.now) c.args.validator.now.moment c.loop-index.above c.loop-index.max_path_length c.loop-index.sets c.loop-index.state c.args.last.now true passed (at_last c.args.front.now c.args.last.now) (none_behind c.args.front.now c.args.last.now) refl in
    let own = subst (λ n. Carries inputs n passed.before c.loop-index.state) whole passed.carries in
    let judged = c.in-Err-end.ensures inputs passed.above passed.before passed.stands own refl in
    let here = subst (λ n. Judges (g.S.Trust.accepts c.args.validator.now.signatures.now) inputs (standing passed.above passed.before true n) c.args.last.now (length c.args.front.now) (Err c.in-Err-end.e)) (sym whole) judged in
    refused (g.S.Trust.accepts c.args.validator.now.signatures.now) inputs path (length c.args.front.now) c.args.validator.now.moment c.loop-index.above c.loop-index.max_path_length c.loop-index.sets c.loop-index.state c.args.last.now true passed (at_last c.args.front.now c.args.last.now) (none_behind c.args.front.now c.args.last.now)
    c.in-Err-end.e (not_empty front c.args.last.now) usable here

pub returns-in-Ok-end : goal.returns-in-Ok-end
returns-in-Ok-end g c = λ inputs lends carries.
    let front = map (λ (input : Bor (List ℕ)). input.now) c.args.front.now in
    let path = front ++ c.args.last.now ∷ [] in
    let at_end : c.loop-index.index ≡ length c.args.front.now = omega (arith, c.loop-index-test.false, c.loop-index.auto.index-end) in
    let passed = subst (λ i. Passed (g.S.Trust.accepts c.args.validator.now.signatures.now) inputs path i c.args.validator.now.moment c.loop-index.above c.loop-index.max_path_length c.loop-index.sets c.loop-index.state) at_end (c.loop-index.invariant inputs lends carries).0 in
    let usable = (c.in_ok-names.ensures inputs lends).1 in
    let input = at_last c.args.front.now c.args.last.now in
    let behind = none_behind c.args.front.now c.args.last.now in
    let whole = late (g.S.Trust.accepts c.args.validator.now.signatures.now) inputs path (length c.args.front.now) c.args.validator.now.moment c.loop-index.above c.loop-index.max_path_length c.loop-index.sets c.loop-index.state c.args.last.now true passed input behind refl in
    let own = subst (λ n. Carries inputs n passed.before c.loop-index.state) whole passed.carries in
    let judged = c.in-Ok-end.ensures inputs passed.above passed.before passed.stands own refl in
    let here = subst (λ n. Judges (g.S.Trust.accepts c.args.validator.now.signatures.now) inputs (standing passed.above passed.before true n) c.args.last.now (length c.args.front.now) (Ok judged.0)) (sym whole) judged.5 in (
      record {
        some = not_empty front c.args.last.now;
        usable = usable;
        no_fault = none (g.S.Trust.accepts c.args.validator.now.signatures.now) inputs path (length c.args.front.now) c.args.validator.now.moment c.loop-index.above c.loop-index.max_path_length c.loop-index.sets c.loop-index.state c.args.last.now true passed input behind judged.0 here (whole_length c.args.front.now c.args.last.now);
      },
      (
        record {
          above = front;
          bytes = c.args.last.now;
          certificate = judged.0;
          last = refl;
          spells = here.0;
          lends = judged.1;
        },
        (
          under (g.S.Trust.accepts c.args.validator.now.signatures.now) inputs path (length c.args.front.now) c.args.validator.now.moment c.loop-index.above c.loop-index.max_path_length c.loop-index.sets c.loop-index.state c.args.last.now true passed input behind judged.0 here refl (octets_of c.in-Ok-end.validated.policies.items) judged.3,
          (
            with_its_parameters (g.S.Trust.accepts c.args.validator.now.signatures.now) inputs path (length c.args.front.now) c.args.validator.now.moment c.loop-index.above c.loop-index.max_path_length c.loop-index.sets c.loop-index.state c.args.last.now true passed input behind judged.0 here refl c.in-Ok-end.validated.parameters judged.2,
            judged.4 ∙ ap (λ (l : List (List ℕ)). l ++ c.args.last.now ∷ []) ((c.loop-index.invariant inputs lends carries).1 ∙ ap (λ (k : ℕ). map (λ (input : Bor (List ℕ)). input.now) (take k c.args.front.now)) at_end
                ∙ ap (map (λ (input : Bor (List ℕ)). input.now)) (take_all (length c.args.front.now) c.args.front.now (omega arith))),
          ),
        ),
      ),
    )
