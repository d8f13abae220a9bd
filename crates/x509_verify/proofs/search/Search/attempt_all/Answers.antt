use Rattle.std.proofs.Common.{◌≡◌, ◌∙◌, ◌+◌, ◌<◌, ℕ, List, None, Ok, get_or, length, refl, sym, ap, subst, arith}
use Rattle.std.proofs.lemmas.Grind.{not_there}
use Rattle.std.specs.List.{All, Contains}
use Rattle.std.specs.Prelude.{MatchOption, true}
use Rattle.x509_match.specs.declared.key.MatchedName.{MatchedName}
use Rattle.x509_path_steps.specs.declared.trusted.Trusted.{Trusted}
use Rattle.x509_verify.proofs.Counting.{attempts, attempts_none, attempts_up_to, one_attempt_more, spends_stop, stops_later, takes_more, takes_nothing, takes_same}
use Rattle.x509_verify.proofs.Keys.{each_element, each_further, to_map}
use Rattle.x509_verify.proofs.Searching.{all_tried, despite, later}
use Rattle.x509_verify.proofs.search.Search.attempt_all.Goals as goal
use Rattle.x509_verify.specs.Effort.{anchored, named}
use Rattle.x509_verify.specs.Found.{IsFound, octets}
use Rattle.x509_verify.specs.Named.{IsUnderName}
use Rattle.x509_verify.specs.Progress.{AreTried, IsTriedUnder, Spends, Takes, left_of}
use Rattle.x509_verify.specs.declared.keyed.Keyed.{Keyed}

abbrev value_of : Keyed MatchedName Trusted → Trusted
value_of entry = entry.value

pub loop-entry-init : goal.loop-entry-init
loop-entry-init g c = record {
  counted = takes_same _ _ _ _ (attempts_none (length c.args.path.now)) (takes_nothing (left_of c.args.progress.now));
  tells = λ wanted searched on right. record { right = right; noted = λ was. was; tried = λ k d less. absurd (omega (arith, less)) };
}

pub returns-in_err-found-clause-counted : goal.returns-in_err-found-clause-counted
returns-in_err-found-clause-counted g c =
    let whole = length c.args.path.now in
    let count = c.loop-entry.entry-index in
    let all : length c.under_key-named.result.now ≡ anchored c.args.self.now.anchors.now c.args.issuer.now = ap length (c.under_key-named.ensures.all ∙ ap (named c.args.issuer.now) c.as_slice.ensures.value) in
    let less : count < anchored c.args.self.now.anchors.now c.args.issuer.now = omega (arith, c.loop-entry-test.true, all) in
    spends_stop _ _ _ c.from_residual.result c.in_err-found.field-0.0 c.from_residual.ensures.1
    (stops_later (left_of c.args.progress.now) (left_of c.loop-entry.progress) (left_of c.attempt.new.progress) (left_of c.attempt.new.progress) (attempts count whole) (record { steps = 0; paths = 1; signatures = whole })
    (attempts (anchored c.args.self.now.anchors.now c.args.issuer.now) whole) c.in_err-found.field-0.0 c.loop-entry.invariant.counted (attempts_up_to count _ whole less) c.in_err-found.ensures.counted)

pub returns-in-Some-clause-tells : goal.returns-in-Some-clause-tells
returns-in-Some-clause-tells g c = λ wanted searched on knows right.
    let accepts = g.V.SliceVerifier.accepts c.args.self.now.verifier.now in
    let known = c.loop-entry.invariant.tells wanted searched on right in
    let there = c.under_key-named.ensures.some c.entry-item.result (c.loop-entry.entry-index, c.loop-entry-test.true, sym c.entry-item.is) in
    let among = to_map value_of c.args.self.now.anchors.now.entries.items c.entry-item.result (subst (λ (xs : List (Keyed MatchedName Trusted)). Contains xs c.entry-item.result) c.as_slice.ensures.value there) in
    let goes = c.in_ok-found.ensures.tells wanted searched.settings (subst (λ ts. Contains ts c.entry-item.result.value) (sym searched.trusted) among) on known.right in record {
      right = goes.right;
      noted = λ was. goes.noted (known.noted was);
      answer = subst (λ o. MatchOption o (IsTriedUnder accepts wanted c.entry-item.result.value (octets c.args.path.now) c.attempt.new.progress.refusal) (λ it. IsFound accepts wanted it)) c.in-Some.is goes.answer;
    }

pub loop-entry-preserved : goal.loop-entry-preserved
loop-entry-preserved g c = record {
  counted =
      let whole = length c.args.path.now in
      let count = c.loop-entry.entry-index in
      let here : Takes (left_of c.loop-entry.progress) (left_of c.attempt.new.progress) (record { steps = 0; paths = 1; signatures = whole }) =
      subst (λ o. Spends (left_of c.loop-entry.progress) (left_of c.attempt.new.progress) (record { steps = 0; paths = 1; signatures = whole }) (Ok o)) c.in_default.is c.in_ok-found.ensures.counted in
      takes_same (left_of c.args.progress.now) (left_of c.attempt.new.progress) _ (attempts (count + 1) whole) (one_attempt_more count whole)
      (takes_more (left_of c.args.progress.now) (left_of c.loop-entry.progress) (left_of c.attempt.new.progress) (attempts count whole) (record { steps = 0; paths = 1; signatures = whole }) c.loop-entry.invariant.counted here);
  tells = λ wanted searched on right.
      let accepts = g.V.SliceVerifier.accepts c.args.self.now.verifier.now in
      let path = octets c.args.path.now in
      let after = c.attempt.new.progress.refusal in
      let known = c.loop-entry.invariant.tells wanted searched on right in
      let there = c.under_key-named.ensures.some c.entry-item.result (c.loop-entry.entry-index, c.loop-entry-test.true, sym c.entry-item.is) in
      let among = to_map value_of c.args.self.now.anchors.now.entries.items c.entry-item.result (subst (λ (xs : List (Keyed MatchedName Trusted)). Contains xs c.entry-item.result) c.as_slice.ensures.value there) in
      let goes = c.in_ok-found.ensures.tells wanted searched.settings (subst (λ ts. Contains ts c.entry-item.result.value) (sym searched.trusted) among) on known.right in record {
        right = goes.right;
        noted = λ was. goes.noted (known.noted was);
        tried = each_further (λ entry. IsTriedUnder accepts wanted entry.value path after) c.under_key-named.result.now c.loop-entry.entry-index c.entry-item.result c.loop-entry-test.true
            (λ k d less. later accepts wanted (get_or c.under_key-named.result.now k d).value path c.loop-entry.progress.refusal after goes.noted (known.tried k d less))
            (subst (λ (e : Keyed MatchedName Trusted). IsTriedUnder accepts wanted e.value path after) c.entry-item.is
            (subst (λ o. MatchOption o (IsTriedUnder accepts wanted c.entry-item.result.value path after) (λ it. IsFound accepts wanted it)) c.in_default.is goes.answer));
      };
}

pub returns-clause-counted : goal.returns-clause-counted
returns-clause-counted g c =
    let whole = length c.args.path.now in
    let all : length c.under_key-named.result.now ≡ anchored c.args.self.now.anchors.now c.args.issuer.now = ap length (c.under_key-named.ensures.all ∙ ap (named c.args.issuer.now) c.as_slice.ensures.value) in
    let end : c.loop-entry.entry-index ≡ anchored c.args.self.now.anchors.now c.args.issuer.now = omega (arith, c.loop-entry-test.false, c.loop-entry.auto.entry-index-end, all) in
    subst (λ n. Takes (left_of c.args.progress.now) (left_of c.loop-entry.progress) (attempts n whole)) end c.loop-entry.invariant.counted

pub returns-clause-tells : goal.returns-clause-tells
returns-clause-tells g c = λ wanted searched on knows right.
    let accepts = g.V.SliceVerifier.accepts c.args.self.now.verifier.now in
    let path = octets c.args.path.now in
    let known = c.loop-entry.invariant.tells wanted searched on right in
    let refusal = c.loop-entry.progress.refusal in
    let entries = c.as_slice.result.now in record {
      right = known.right;
      noted = known.noted;
      answer = λ trusted among. despite accepts wanted trusted path refusal (not_there c.args.self.now.anchors.now.named) (λ under.
          despite accepts wanted trusted path refusal knows (λ has.
          all_tried accepts wanted refusal c.bytes_determine_the_name.ensures _ c.keys_are_equal_where_names_match.ensures.names c.args.self.now.anchors.now.entries.items c.under_key-named.result.now c.args.issuer.now path
          searched.trusted under has
          (λ entry within same. c.under_key-named.ensures.every entry (subst (λ (xs : List (Keyed MatchedName Trusted)). Contains xs entry) (sym c.as_slice.ensures.value) within) same)
          (each_element (λ entry. IsTriedUnder accepts wanted entry.value path refusal) c.under_key-named.result.now c.loop-entry.entry-index c.loop-entry-test.false known.tried)
          trusted among));
    }
