use Rattle.std.proofs.Common.{◌≡◌, ◌∙◌, ◌∷◌, ◌⊎◌, ◌+◌, ◌-◌, ◌<◌, ◌≤◌, inl, inr, ℕ, suc, Bor, List, None, Ok, Err, get_or, length, take, refl, sym, ap, subst, arith}
use Rattle.std.proofs.Math.Seq.{take-length}
use Rattle.std.proofs.lemmas.Bool.{true≢false}
use Rattle.std.proofs.lemmas.Grind.{not_there}
use Rattle.std.proofs.lemmas.List.{length-map}
use Rattle.std.proofs.lemmas.List.Elements.{All-cons, All-contains}
use Rattle.std.proofs.lemmas.Result.{MatchResult-weaker}
use Rattle.std.specs.List.{All, Contains}
use Rattle.std.specs.Prelude.{MatchOption, MatchResult, true, false}
use Rattle.x509_match.specs.declared.key.MatchedName.{MatchedName}
use Rattle.x509_verify.specs.Effort.{Effort, bytes_of, effort, is_there, named}
use Rattle.x509_verify.specs.Found.{IsFound, octets}
use Rattle.x509_verify.specs.Named.{IsDecodable, IsUnderSubject}
use Rattle.x509_verify.specs.Progress.{AreDecodable, IsOnPath, IsTried, KnowsIssuer, Spends, Takes, climbed, left_of}
use Rattle.x509_verify.specs.declared.candidate.Candidate.{Candidate}
use Rattle.x509_verify.specs.declared.keyed.Keyed.{Keyed}
use Rattle.x509_verify.specs.declared.progress.Progress.{Progress}
use Rattle.x509_verify.proofs.Counting.{child_effort, effort_at_end, is_there_false, is_there_true, no_step, one_new, one_of_all, one_there, spends_same, spends_stop, spent, spent_all, spent_none, step_stops, step_takes, stops_later, takes_more, takes_nothing, takes_same, turned, turned_at, turned_every, turned_length, with_one}
use Rattle.x509_verify.proofs.Keys.{each_element, each_further, to_map}
use Rattle.x509_verify.proofs.OnPath.{IsDoneWith, IsKnown, at_end, done_later, further, knows_more}
use Rattle.x509_verify.proofs.Searching.{all_climbed, despite, later}
use Rattle.x509_verify.proofs.search.Search.+climb.Goals as goal
use Rattle.x509_verify.proofs.search.Search.+climb.Goals.{then-not-is_in+in_ok-take_one+in_ok-longer+in_ok-found+in_default-found, else-not-is_in}

pub returns-in_default-clause-counted : goal.returns-in_default-clause-counted
returns-in_default-clause-counted g t c =
    spends_same _ _ _ _ c.attempt_all.result
    (effort_at_end c.args.self.now.anchors.now c.args.self.now.pool.now c.args.left (octets c.args.path.now) c.args.issuer.now (length c.args.path.now) (omega (arith, c.in_default.ensures))) c.attempt_all.ensures.counted

pub returns-in_default-clause-tells : goal.returns-in_default-clause-tells
returns-in_default-clause-tells g t c = λ wanted searched on knows right.
    let accepts = g.V.SliceVerifier.accepts c.args.self.now.verifier.now in
    let none : c.args.left ≡ 0 = omega (arith, c.in_default.ensures) in
    let ended : IsOnPath wanted (octets c.args.path.now) 0 = subst (λ n. IsOnPath wanted (octets c.args.path.now) n) none on in
    MatchResult-weaker c.attempt_all.result (c.attempt_all.ensures.tells wanted searched ended knows right)
    (λ found goes. at_end accepts wanted (octets c.args.path.now) c.args.left c.args.progress.now c.attempt_all.new.progress none found goes) (λ e no. no)

pub climb-requires : goal.climb-requires
climb-requires g t c = λ κs lives. (
  omega (arith, c.in-Some.ensures),
  (
    lives,
    subst (λ xs. All (λ b. IsDecodable b) xs) (sym (ap octets c.as_slice-then-not-is_in.ensures.value ∙ c.in_ok-longer.ensures))
        (All-cons (λ b. IsDecodable b) c.as_bytes-bytes.result.now (octets c.args.path.now) c.as_bytes-bytes.ensures.found c.requires),
  ),
)

pub loop-place-init : goal.loop-place-init
loop-place-init g t c = record {
  counted =
      takes_same (left_of c.args.progress.now) (left_of c.args.progress.now) _ _
      (spent_none c.args.self.now.anchors.now c.args.self.now.pool.now (length c.args.path.now + c.args.left) c.in-Some.fewer (octets c.args.path.now)) (takes_nothing (left_of c.args.progress.now));
  tells = λ wanted searched on knows right. record { right = right; noted = λ was. was; done = λ k d less. absurd (omega (arith, less)) };
}

pub returns-in_err-take_one-clause-counted : goal.returns-in_err-take_one-clause-counted
returns-in_err-take_one-clause-counted g t c =
    let anchors = c.args.self.now.anchors.now in
    let pool = c.args.self.now.pool.now in
    let path = octets c.args.path.now in
    let whole = length c.args.path.now + c.args.left in
    let list = c.under_key-named.result.now in
    let start = c.start_of-start.result in
    let k = c.loop-place.place in
    let entry = c.index-named-in_turn.result in
    let is : list ≡ named c.args.issuer.now pool.entries.items = c.under_key-named.ensures.all ∙ ap (named c.args.issuer.now) c.as_slice.ensures.value in
    let within : start ≤ length list = c.start_of-start.ensures in
    let less : k < length (turned start list) = omega (arith, c.loop-place-test.true, turned_length list start within) in
    let here : get_or (turned start list) k entry ≡ entry = turned_at list start within k c.in_turn.result entry (omega (arith, c.loop-place-test.true)) c.in_turn.ensures.behind c.in_turn.ensures.before ∙ sym c.index-named-in_turn.is in
    let same : c.as_bytes-bytes.result.now ≡ bytes_of entry = c.as_bytes-bytes.ensures.same ∙ ap bytes_of (sym c.index-named-in_turn.is) in
    let new : is_there path entry ≡ false = is_there_false path entry (λ among. true≢false (sym (c.is_in.ensures.1 (subst (λ b. Contains path b) (sym same) among)) ∙ c.if-not-is_in.true)) in
    let more : c.args.left ≡ suc c.in-Some.fewer = omega (arith, c.in-Some.ensures) in
    let stopped : Effort = record { steps = c.take_one.new.left; paths = c.loop-place.progress.paths; signatures = c.loop-place.progress.signatures } in
    let up = one_of_all anchors pool whole c.in-Some.fewer path c.args.issuer.now list start within is k entry less here new in
    spends_stop _ _ _ c.from_residual.result c.in_err-take_one.field-0.0 c.from_residual.ensures.1
    (subst (λ n. Spends (left_of c.args.progress.now) stopped (effort anchors pool whole n path c.args.issuer.now) (Err c.in_err-take_one.field-0.0)) (sym more)
    (stops_later (left_of c.args.progress.now) (left_of c.loop-place.progress) stopped stopped (spent anchors pool whole c.in-Some.fewer path (take k (turned start list)))
    (with_one anchors pool whole c.in-Some.fewer path (turned start list) k entry less here) (effort anchors pool whole (suc c.in-Some.fewer) path c.args.issuer.now) c.in_err-take_one.field-0.0
    c.loop-place.invariant.counted up (no_step (left_of c.loop-place.progress) stopped (effort anchors pool whole c.in-Some.fewer (bytes_of entry ∷ path) entry.value.issuer) c.in_err-take_one.field-0.0 c.in_err-take_one.ensures.1)))

pub returns-in_err-found-clause-counted : goal.returns-in_err-found-clause-counted
returns-in_err-found-clause-counted g t c =
    let anchors = c.args.self.now.anchors.now in
    let pool = c.args.self.now.pool.now in
    let path = octets c.args.path.now in
    let whole = length c.args.path.now + c.args.left in
    let list = c.under_key-named.result.now in
    let start = c.start_of-start.result in
    let k = c.loop-place.place in
    let entry = c.index-named-in_turn.result in
    let is : list ≡ named c.args.issuer.now pool.entries.items = c.under_key-named.ensures.all ∙ ap (named c.args.issuer.now) c.as_slice.ensures.value in
    let within : start ≤ length list = c.start_of-start.ensures in
    let less : k < length (turned start list) = omega (arith, c.loop-place-test.true, turned_length list start within) in
    let here : get_or (turned start list) k entry ≡ entry = turned_at list start within k c.in_turn.result entry (omega (arith, c.loop-place-test.true)) c.in_turn.ensures.behind c.in_turn.ensures.before ∙ sym c.index-named-in_turn.is in
    let same : c.as_bytes-bytes.result.now ≡ bytes_of entry = c.as_bytes-bytes.ensures.same ∙ ap bytes_of (sym c.index-named-in_turn.is) in
    let new : is_there path entry ≡ false = is_there_false path entry (λ among. true≢false (sym (c.is_in.ensures.1 (subst (λ b. Contains path b) (sym same) among)) ∙ c.if-not-is_in.true)) in
    let more : c.args.left ≡ suc c.in-Some.fewer = omega (arith, c.in-Some.ensures) in
    let between : Effort = record { steps = c.take_one.new.left; paths = c.loop-place.progress.paths; signatures = c.loop-place.progress.signatures } in
    let up = one_of_all anchors pool whole c.in-Some.fewer path c.args.issuer.now list start within is k entry less here new in
    let longer : octets c.as_slice-then-not-is_in.result.now ≡ bytes_of entry ∷ path =
    ap octets c.as_slice-then-not-is_in.ensures.value ∙ (c.in_ok-longer.ensures ∙ ap (λ b. b ∷ path) same) in
    let child = child_effort anchors pool (length c.args.path.now) c.args.left c.in-Some.fewer path (bytes_of entry) (get_or list c.in_turn.result entry).value.issuer entry.value.issuer c.as_slice-then-not-is_in.result.now longer more (length-map c.args.path.now (λ (b : Bor (List ℕ)). b.now)) (ap (λ (e : Keyed MatchedName Candidate). e.value.issuer) (sym c.index-named-in_turn.is)) in
    spends_stop _ _ _ c.from_residual-in_err-found.result c.in_err-found.field-0.0 c.from_residual-in_err-found.ensures.1
    (subst (λ n. Spends (left_of c.args.progress.now) (left_of c.climb.new.progress) (effort anchors pool whole n path c.args.issuer.now) (Err c.in_err-found.field-0.0)) (sym more)
    (stops_later (left_of c.args.progress.now) (left_of c.loop-place.progress) (left_of c.climb.new.progress) (left_of c.climb.new.progress) (spent anchors pool whole c.in-Some.fewer path (take k (turned start list)))
    (with_one anchors pool whole c.in-Some.fewer path (turned start list) k entry less here) (effort anchors pool whole (suc c.in-Some.fewer) path c.args.issuer.now) c.in_err-found.field-0.0
    c.loop-place.invariant.counted up
    (step_stops (left_of c.loop-place.progress) between c.in_ok-take_one.ensures refl refl (left_of c.climb.new.progress) (left_of c.climb.new.progress) _ c.in_err-found.field-0.0 (spends_same between (left_of c.climb.new.progress) _ _ (Err c.in_err-found.field-0.0) child c.in_err-found.ensures.counted))))

pub returns-in-Some-found-clause-tells : goal.returns-in-Some-found-clause-tells
returns-in-Some-found-clause-tells g t c = λ wanted searched on knows right.
    let accepts = g.V.SliceVerifier.accepts c.args.self.now.verifier.now in
    let path = octets c.args.path.now in
    let known = c.loop-place.invariant.tells wanted searched on knows right in
    let entry = c.index-named-in_turn.result in
    let same : c.as_bytes-bytes.result.now ≡ bytes_of entry = c.as_bytes-bytes.ensures.same ∙ ap bytes_of (sym c.index-named-in_turn.is) in
    let longer = ap octets c.as_slice-then-not-is_in.ensures.value ∙ (c.in_ok-longer.ensures ∙ ap (λ b. b ∷ path) same) in
    let inside = subst (λ (xs : List (Keyed MatchedName Candidate)). Contains xs entry) c.as_slice.ensures.value (c.under_key-named.ensures.some entry (
      c.in_turn.result,
      c.in_turn.ensures.within,
      sym c.index-named-in_turn.is,
    )) in
    let more : c.args.left ≡ suc c.in-Some.fewer = omega (arith, c.in-Some.ensures) in
    let fresh = λ (among : Contains path (bytes_of entry)). true≢false (sym (c.is_in.ensures.1 (subst (λ b. Contains path b) (sym same) among)) ∙ c.if-not-is_in.true) in
    let on_more = further wanted path (octets c.as_slice-then-not-is_in.result.now) (bytes_of entry) c.args.left c.in-Some.fewer more longer
    (subst (λ cs. Contains cs (bytes_of entry)) (sym searched.candidates) (to_map bytes_of c.args.self.now.pool.now.entries.items entry inside)) fresh on in
    let goes = c.in_ok-found.ensures.tells wanted searched on_more (subst (λ (e : Keyed MatchedName Candidate). KnowsIssuer (octets c.as_slice-then-not-is_in.result.now) e.value.issuer) c.index-named-in_turn.is
    (knows_more c.args.self.now.pool.now.entries.items entry path (octets c.as_slice-then-not-is_in.result.now) longer c.args.self.now.pool.now.named inside))
    (record { asked = known.right.asked; refusal = known.right.refusal }) in record {
      right = goes.right;
      noted = λ was. goes.noted (known.noted was);
      answer = subst (λ o. MatchOption o (IsTried accepts wanted (octets c.as_slice-then-not-is_in.result.now) c.in-Some.fewer c.climb.new.progress.refusal) (λ it. IsFound accepts wanted it)) c.in-Some-found.is goes.answer;
    }

pub loop-place-preserved : goal.loop-place-preserved
loop-place-preserved g t c = record {
  counted =
      let anchors = c.args.self.now.anchors.now in
      let pool = c.args.self.now.pool.now in
      let path = octets c.args.path.now in
      let whole = length c.args.path.now + c.args.left in
      let list = c.under_key-named.result.now in
      let start = c.start_of-start.result in
      let k = c.loop-place.place in
      let entry = c.index-named-in_turn.result in
      let is : list ≡ named c.args.issuer.now pool.entries.items = c.under_key-named.ensures.all ∙ ap (named c.args.issuer.now) c.as_slice.ensures.value in
      let within : start ≤ length list = c.start_of-start.ensures in
      let less : k < length (turned start list) = omega (arith, c.loop-place-test.true, turned_length list start within) in
      let here : get_or (turned start list) k entry ≡ entry = turned_at list start within k c.in_turn.result entry (omega (arith, c.loop-place-test.true)) c.in_turn.ensures.behind c.in_turn.ensures.before ∙ sym c.index-named-in_turn.is in
      let same : c.as_bytes-bytes.result.now ≡ bytes_of entry = c.as_bytes-bytes.ensures.same ∙ ap bytes_of (sym c.index-named-in_turn.is) in
      let initial = (left_of c.args.progress.now) in
      let before = spent anchors pool whole c.in-Some.fewer path (take k (turned start list)) in
      let after = spent anchors pool whole c.in-Some.fewer path (take (k + 1) (turned start list)) in
      elim c.if-not-is_in.branch [
        | then-not-is_in+in_ok-take_one+in_ok-longer+in_ok-found+in_default-found w ↦
            let new : is_there path entry ≡ false = is_there_false path entry (λ among. true≢false (sym (c.is_in.ensures.1 (subst (λ b. Contains path b) (sym same) among)) ∙ w.if-not-is_in.true)) in
            let more : c.args.left ≡ suc c.in-Some.fewer = omega (arith, c.in-Some.ensures) in
            let longer : octets w.as_slice-then-not-is_in.result.now ≡ bytes_of entry ∷ path =
            ap octets w.as_slice-then-not-is_in.ensures.value ∙ (w.in_ok-longer.ensures ∙ ap (λ b. b ∷ path) same) in
            let child = child_effort anchors pool (length c.args.path.now) c.args.left c.in-Some.fewer path (bytes_of entry) (get_or list c.in_turn.result entry).value.issuer entry.value.issuer w.as_slice-then-not-is_in.result.now longer more (length-map c.args.path.now (λ (b : Bor (List ℕ)). b.now)) (ap (λ (e : Keyed MatchedName Candidate). e.value.issuer) (sym c.index-named-in_turn.is)) in
            let between : Effort = record { steps = w.take_one.new.left; paths = c.loop-place.progress.paths; signatures = c.loop-place.progress.signatures } in
            let below = subst (λ o. Spends between (left_of w.climb.new.progress) (effort anchors pool whole c.in-Some.fewer (bytes_of entry ∷ path) entry.value.issuer) (Ok o)) w.in_default-found.is
            (spends_same between (left_of w.climb.new.progress) _ _ (Ok w.in_ok-found.found) child w.in_ok-found.ensures.counted) in
            subst (λ (p : Progress). Takes initial (left_of p) after) (sym w.progress-is)
            (takes_same initial (left_of w.climb.new.progress) _ after (one_new anchors pool whole c.in-Some.fewer path (turned start list) k entry less here new)
            (takes_more initial (left_of c.loop-place.progress) (left_of w.climb.new.progress) before (with_one anchors pool whole c.in-Some.fewer path (turned start list) k entry less here) c.loop-place.invariant.counted
            (step_takes (left_of c.loop-place.progress) between w.in_ok-take_one.ensures refl refl (left_of w.climb.new.progress) (effort anchors pool whole c.in-Some.fewer (bytes_of entry ∷ path) entry.value.issuer) below)))
        | else-not-is_in w ↦
            let among = subst (λ b. Contains path b) same (c.is_in.ensures.0 w.if-not-is_in.false) in
            subst (λ (p : Progress). Takes initial (left_of p) after) (sym w.progress-is)
            (takes_same initial (left_of c.loop-place.progress) before after (one_there anchors pool whole c.in-Some.fewer path (turned start list) k entry less here (is_there_true path entry among)) c.loop-place.invariant.counted)
      ];
  tells = λ wanted searched on knows right.
      let accepts = g.V.SliceVerifier.accepts c.args.self.now.verifier.now in
      let path = octets c.args.path.now in
      let known = c.loop-place.invariant.tells wanted searched on knows right in
      let list = c.under_key-named.result.now in
      let start = c.start_of-start.result in
      let k = c.loop-place.place in
      let entry = c.index-named-in_turn.result in
      let within : start ≤ length list = c.start_of-start.ensures in
      let less : k < length (turned start list) = omega (arith, c.loop-place-test.true, turned_length list start within) in
      let here : get_or (turned start list) k entry ≡ entry = turned_at list start within k c.in_turn.result entry (omega (arith, c.loop-place-test.true)) c.in_turn.ensures.behind c.in_turn.ensures.before ∙ sym c.index-named-in_turn.is in
      let same : c.as_bytes-bytes.result.now ≡ bytes_of entry = c.as_bytes-bytes.ensures.same ∙ ap bytes_of (sym c.index-named-in_turn.is) in
      let before = c.loop-place.progress.refusal in
      let inside = subst (λ (xs : List (Keyed MatchedName Candidate)). Contains xs entry) c.as_slice.ensures.value (c.under_key-named.ensures.some entry (
        c.in_turn.result,
        c.in_turn.ensures.within,
        sym c.index-named-in_turn.is,
      )) in
      let more : c.args.left ≡ suc c.in-Some.fewer = omega (arith, c.in-Some.ensures) in
      elim c.if-not-is_in.branch [
        | then-not-is_in+in_ok-take_one+in_ok-longer+in_ok-found+in_default-found w ↦
            let longer = ap octets w.as_slice-then-not-is_in.ensures.value ∙ (w.in_ok-longer.ensures ∙ ap (λ b. b ∷ path) same) in
            let fresh = λ (among : Contains path (bytes_of entry)). true≢false (sym (c.is_in.ensures.1 (subst (λ b. Contains path b) (sym same) among)) ∙ w.if-not-is_in.true) in
            let on_more = further wanted path (octets w.as_slice-then-not-is_in.result.now) (bytes_of entry) c.args.left c.in-Some.fewer more longer
            (subst (λ cs. Contains cs (bytes_of entry)) (sym searched.candidates) (to_map bytes_of c.args.self.now.pool.now.entries.items entry inside)) fresh on in
            let goes = w.in_ok-found.ensures.tells wanted searched on_more (subst (λ (e : Keyed MatchedName Candidate). KnowsIssuer (octets w.as_slice-then-not-is_in.result.now) e.value.issuer) c.index-named-in_turn.is
            (knows_more c.args.self.now.pool.now.entries.items entry path (octets w.as_slice-then-not-is_in.result.now) longer c.args.self.now.pool.now.named inside))
            (record { asked = known.right.asked; refusal = known.right.refusal }) in
            let after = w.climb.new.progress in
            let each = subst (λ o. MatchOption o (IsTried accepts wanted (octets w.as_slice-then-not-is_in.result.now) c.in-Some.fewer after.refusal) (λ it. IsFound accepts wanted it)) w.in_default-found.is goes.answer in
            subst (λ (p : Progress). IsKnown accepts wanted path c.in-Some.fewer c.args.progress.now.refusal (turned start list) (k + 1) p) (sym w.progress-is) (record {
              right = goes.right;
              noted = λ was. goes.noted (known.noted was);
              done = each_further (λ e. IsDoneWith accepts wanted path c.in-Some.fewer after.refusal e) (turned start list) k entry less
                  (λ j d early. done_later accepts wanted path c.in-Some.fewer before after.refusal (get_or (turned start list) j d) goes.noted (known.done j d early))
                  (subst (λ (e : Keyed MatchedName Candidate). IsDoneWith accepts wanted path c.in-Some.fewer after.refusal e) (sym here)
                  (inr (subst (λ p. IsTried accepts wanted p c.in-Some.fewer after.refusal) longer each)));
            })
        | else-not-is_in w ↦
            subst (λ (p : Progress). IsKnown accepts wanted path c.in-Some.fewer c.args.progress.now.refusal (turned start list) (k + 1) p) (sym w.progress-is) (record {
              right = known.right;
              noted = known.noted;
              done = each_further (λ e. IsDoneWith accepts wanted path c.in-Some.fewer before e) (turned start list) k entry less known.done
                  (subst (λ (e : Keyed MatchedName Candidate). IsDoneWith accepts wanted path c.in-Some.fewer before e) (sym here)
                  (inl (subst (λ b. Contains path b) same (c.is_in.ensures.0 w.if-not-is_in.false))));
            })
      ];
}

pub returns-clause-counted : goal.returns-clause-counted
returns-clause-counted g t c =
    let anchors = c.args.self.now.anchors.now in
    let pool = c.args.self.now.pool.now in
    let path = octets c.args.path.now in
    let whole = length c.args.path.now + c.args.left in
    let list = c.under_key-named.result.now in
    let start = c.start_of-start.result in
    let is : list ≡ named c.args.issuer.now pool.entries.items = c.under_key-named.ensures.all ∙ ap (named c.args.issuer.now) c.as_slice.ensures.value in
    let within : start ≤ length list = c.start_of-start.ensures in
    let more : c.args.left ≡ suc c.in-Some.fewer = omega (arith, c.in-Some.ensures) in
    let end : c.loop-place.place ≡ length (turned start list) = omega (arith, c.loop-place-test.false, c.loop-place.auto.place-end, turned_length list start within) in
    let whole_list = ap (λ n. take n (turned start list)) end ∙ take-length (turned start list) in
    subst (λ n. Takes (left_of c.args.progress.now) (left_of c.loop-place.progress) (effort anchors pool whole n path c.args.issuer.now)) (sym more)
    (takes_same (left_of c.args.progress.now) (left_of c.loop-place.progress) _ _ (spent_all anchors pool whole c.in-Some.fewer path c.args.issuer.now list start within is)
    (subst (λ xs. Takes (left_of c.args.progress.now) (left_of c.loop-place.progress) (spent anchors pool whole c.in-Some.fewer path xs)) whole_list c.loop-place.invariant.counted))

pub returns-clause-tells : goal.returns-clause-tells
returns-clause-tells g t c = λ wanted searched on knows right.
    let accepts = g.V.SliceVerifier.accepts c.args.self.now.verifier.now in
    let path = octets c.args.path.now in
    let list = c.under_key-named.result.now in
    let start = c.start_of-start.result in
    let within : start ≤ length list = c.start_of-start.ensures in
    let known = c.loop-place.invariant.tells wanted searched on knows right in
    let refusal = c.loop-place.progress.refusal in
    let end : length (turned start list) ≤ c.loop-place.place = omega (arith, c.loop-place-test.false, turned_length list start within) in
    let more : c.args.left ≡ suc c.in-Some.fewer = omega (arith, c.in-Some.ensures) in record {
      right = known.right;
      noted = known.noted;
      answer = λ trusted up among may. despite accepts wanted trusted (climbed up path) refusal (not_there c.args.self.now.pool.now.named) (λ under.
          despite accepts wanted trusted (climbed up path) refusal knows (λ has.
          all_climbed accepts wanted refusal c.bytes_determine_the_name.ensures _ c.keys_are_equal_where_names_match.ensures.names c.args.self.now.pool.now.entries.items list c.args.issuer.now path
          c.args.left c.in-Some.fewer more searched.candidates under has
          (λ entry within same. c.under_key-named.ensures.every entry (subst (λ (xs : List (Keyed MatchedName Candidate)). Contains xs entry) (sym c.as_slice.ensures.value) within) same)
          (λ entry there. each_element (λ e. Contains path (bytes_of e) ⊎ IsTried accepts wanted (bytes_of e ∷ path) c.in-Some.fewer refusal) (turned start list) c.loop-place.place end known.done
          entry (turned_every list start within entry there))
          trusted up among may));
    }
