use Rattle.std.proofs.Common.{◌≡◌, ◌∙◌, ◌++◌, Some, inl, inr, not, refl, ap, take, drop}
use Rattle.x509_c_calls.proofs.path.find.path_find.Goals as goal
use Rattle.x509_c_calls.specs.PathFinding.{FindsPath}
use Rattle.x509_c_calls.specs.PathValidation.{all_purposes, known_purposes, named_purposes, own_purpose_in, own_purposes, policies_asked, set_of, unless_none}
use Rattle.x509_der.specs.declared.error.ErrorKind.TheVariants as kinds
use Rattle.x509_path_steps.specs.Inputs.{asked_of, purposes_of}
use Rattle.x509_path_steps.specs.declared.settings.PathSettings.{PathSettings}
use Rattle.x509_policy.specs.Values.{Settings}
use Rattle.x509_policy.specs.Views.{octets_of}

pub returns-in_default : goal.returns-in_default
unfolding FindsPath
returns-in_default c = inr (kinds.Value, refl, refl, inl (refl, inl c.in_default.ensures))

pub returns-in-Err : goal.returns-in-Err
unfolding FindsPath
returns-in-Err c = inr (c.in-Err.e, refl, refl, inr (inl c.in-Err.ensures))

pub returns-in-Err-policies_of : goal.returns-in-Err-policies_of
unfolding FindsPath
returns-in-Err-policies_of c =
    inr (c.in-Err-policies_of.e, refl, refl, elim c.in-Err-policies_of.ensures [ inl memory ↦ inr (inr (inr (inl memory))) | inr refused ↦ inr (inr (inl refused)) ])

pub find_under-requires-clause-settings : goal.find_under-requires-clause-settings
find_under-requires-clause-settings c =
    let octets = c.args.search.now.settings.now in
    let named = c.in-Ok-policies_of.policies in
    let asked : Settings = policies_asked c.in-Some.asked named in
    let purposes = all_purposes c.in-Some.asked (own_purpose_in octets) in
    let settings : PathSettings = record {
      moment = c.in-Some.asked.moment;
      name_constraints = c.in-Ok-constraints_of.name_constraints;
      user_initial_policy_set = Some c.split_at.result.0;
      initial_policy_mapping_inhibit = c.in-Some.asked.inhibit_policy_mapping;
      initial_explicit_policy = c.in-Some.asked.explicit_policy;
      initial_any_policy_inhibit = c.in-Some.asked.inhibit_any_policy;
      purposes = c.unless_empty.result;
      is_chained = not c.in-Some.asked.is_unchained;
      key_usage = c.in-Some.asked.key_usage;
      allows_version_1 = c.in-Some.asked.allows_version_1;
      constrain_common_names = c.in-Some.asked.constrain_common_names;
    } in
    let front : octets_of c.split_at.result.0.now ≡ set_of named =
    ap octets_of (c.split_at.ensures.front ∙ ap (take c.in-Ok-lists_of.count) c.as_slice.ensures.value) ∙ c.in-Ok-lists_of.ensures.policies in
    let own : c.in-Ok-from_slice.own.items ≡ own_purpose_in octets = c.in-Ok-from_slice.ensures.items ∙ c.in-Some-own_purpose_of.ensures in
    let back : octets_of c.split_at.result.1.now ≡ purposes =
    ap octets_of (c.split_at.ensures.back ∙ ap (drop c.in-Ok-lists_of.count) c.as_slice.ensures.value) ∙ c.in-Ok-lists_of.ensures.purposes
    ∙ ap (λ xs. named_purposes c.in-Some.asked.purposes known_purposes ++ own_purposes xs) own in
    let lent_as : purposes_of settings ≡ unless_none purposes = c.unless_empty.ensures ∙ ap unless_none back in
    let same_settings : asked_of settings ≡ asked = ap (λ s. record asked { user_initial_policy_set = s }) front in
    record {
      constraints = c.in-Ok-constraints_of.ensures.0;
      are_constraints = c.in-Ok-constraints_of.ensures.1;
      lends_constraints = c.in-Ok-constraints_of.ensures.2;
      asked = c.in-Some.asked;
      has_settings = c.in-Some.ensures;
      moment = refl;
      named = named;
      are_named = c.in-Ok-policies_of.ensures;
      policies = same_settings;
      purposes = lent_as;
      uses = refl;
    }
