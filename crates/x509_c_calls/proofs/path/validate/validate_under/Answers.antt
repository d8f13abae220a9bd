use Rattle.std.proofs.Common.{◌≡◌, ◌∙◌, ◌++◌, not, refl, List, ℕ, Bor, Some, inl, inr, map, ap, subst, sym, take, drop}
use Rattle.x509_c_calls.proofs.PolicyOids.{are_oids}
use Rattle.x509_c_calls.proofs.path.validate.validate_under.Goals as goal
use Rattle.x509_c_calls.specs.PathValidation.{Asks, Left, TellsValidation, Validates, all_purposes, bare_settings, known_purposes, named_purposes, own_purpose_in, own_purposes, policies_asked, set_of, unless_none}
use Rattle.x509_c_calls.specs.Pieces.{AreCut}
use Rattle.x509_der.specs.declared.error.ErrorKind.TheVariants as kinds
use Rattle.x509_path_steps.specs.Inputs.{AreOids, Inputs, LendsInputs, asked_of, purposes_of, uses_of}
use Rattle.x509_path_steps.specs.declared.settings.PathSettings.{PathSettings}
use Rattle.x509_policy.specs.Values.{Settings}
use Rattle.x509_policy.specs.Views.{octets_of}

pub returns-in_default : goal.returns-in_default
unfolding Validates
returns-in_default c trust lends = inr (kinds.Value, refl, refl, inr (inl (refl, c.in_default.ensures)))

pub returns : goal.returns
unfolding Validates
returns c trust lends =
    let octets = c.args.question.now.settings.now in
    let path = map (λ (piece : Bor (List ℕ)). piece.now) c.in-Ok-Some.path.items in
    let cut : AreCut c.args.question.now.path.now c.args.question.now.lens.now path = rw c.in-Ok-Some.field-0-is at c.in-Ok-Some.ensures in
    let named = c.in-Ok-policies_of.policies in
    let asked : Settings = policies_asked c.in-Some.asked named in
    let purposes = all_purposes c.in-Some.asked (own_purpose_in octets) in
    let settings : PathSettings = record {
      moment = c.in-Some.asked.moment;
      name_constraints = c.in-Ok.name_constraints;
      user_initial_policy_set = Some c.split_at.result.0;
      initial_policy_mapping_inhibit = c.in-Some.asked.inhibit_policy_mapping;
      initial_explicit_policy = c.in-Some.asked.explicit_policy;
      initial_any_policy_inhibit = c.in-Some.asked.inhibit_any_policy;
      purposes = c.unless_empty.result;
      is_chained = not c.in-Some.asked.is_unchained;
      key_usage = c.in-Some.asked.key_usage;
      allows_version_1 = c.in-Some.asked.allows_version_1;
      constrain_common_names = c.in-Some.asked.constrain_common_names;
    } in
    let inputs : Inputs = record { trust = trust; moment = c.in-Some.asked.moment; constraints = c.in-Ok.ensures.0; asked = asked; purposes = unless_none purposes; uses = uses_of (bare_settings c.in-Some.asked) } in
    let front : octets_of c.split_at.result.0.now ≡ set_of named =
    ap octets_of (c.split_at.ensures.front ∙ ap (take c.in-Ok-lists_of.count) c.as_slice.ensures.value) ∙ c.in-Ok-lists_of.ensures.policies in
    let own : c.in-Ok-from_slice.own.items ≡ own_purpose_in octets = c.in-Ok-from_slice.ensures.items ∙ c.in-Some-own_purpose_of.ensures in
    let back : octets_of c.split_at.result.1.now ≡ purposes =
    ap octets_of (c.split_at.ensures.back ∙ ap (drop c.in-Ok-lists_of.count) c.as_slice.ensures.value) ∙ c.in-Ok-lists_of.ensures.purposes
    ∙ ap (λ xs. named_purposes c.in-Some.asked.purposes known_purposes ++ own_purposes xs) own in
    let lent_as : unless_none purposes ≡ purposes_of settings = sym (c.unless_empty.ensures ∙ ap unless_none back) in
    let same_settings : asked ≡ asked_of settings = ap (λ s. record asked { user_initial_policy_set = s }) (sym front) in
    let lent : LendsInputs c.args.trusted.now settings inputs = record { trust = lends; moment = refl; constraints = c.in-Ok.ensures.2; asked = same_settings; purposes = lent_as; uses = refl; oids = subst AreOids (sym front) (are_oids c.args.question.now.policies.now named c.in-Ok-policies_of.ensures) } in
    let asks : Asks c.args.question.now trust inputs path = record { trust = refl; constraints = c.in-Ok.ensures.1; settings = c.in-Some.asked; has_settings = c.in-Some.ensures; moment = refl; named = named; are_named = c.in-Ok-policies_of.ensures; policies = refl; purposes = refl; uses = refl; cut = cut } in
    let was : Left = record { room = c.args.room.now; answer = c.args.answer.now; certificates = c.args.certificates.now } in
    let is : Left = record { room = c.tell.new.room; answer = c.tell.new.answer; certificates = c.tell.new.certificates } in
    let same : map (λ (input : Bor (List ℕ)). input.now) c.as_slice-2.result.now ≡ path = ap (map (λ (input : Bor (List ℕ)). input.now)) c.as_slice-2.ensures.value in
    inl (inputs, path, asks, subst (λ xs. TellsValidation inputs xs was is c.tell.result) same (c.tell.ensures inputs lent))
