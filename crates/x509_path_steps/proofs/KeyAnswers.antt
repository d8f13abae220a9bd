-- What is answered to a key above and a key.
use Rattle.std.proofs.Common.{◌≡◌, inl, inr, ◌<◌, Bor, ℕ, List, length, Option, Some, None, Ok, Err, ap, refl, subst, sym}
use Rattle.x509_base.specs.SubjectPublicKeyInfo.{subject_public_key_info}
use Rattle.x509_base.specs.declared.subject_public_key_info.SubjectPublicKeyInfo.{SubjectPublicKeyInfo}
use Rattle.x509_der.specs.Any.{any}
use Rattle.x509_der.specs.Element.{limit}
use Rattle.x509_der.specs.Form.{Spells, spelling}
use Rattle.x509_der.specs.declared.any.Any.{Any}
use Rattle.x509_der.specs.declared.error.ErrorKind.{ErrorKind}
use Rattle.x509_path_steps.specs.Inputs.{SpellsOption}
use Rattle.x509_path_steps.specs.Keys.{inherited, parameters_of, with_parameters, working_key}
use Rattle.x509_path_steps.specs.Trusts.{RefusesEncoding}
use Rattle.x509_path_steps.specs.WorkingKeys.{AnswersKey}

-- parameters that are lent
pub lent_some : (lent : Option (Bor (List ℕ))) (octets : Bor (List ℕ)) (p : Option Any) → lent ≡ Some octets → SpellsOption (λ l. l.now) any lent p
    → (x : Any) × (p ≡ Some x) × Spells any x octets.now
lent_some lent octets None is h = absurd (subst (λ l. SpellsOption (λ (o : Bor (List ℕ)). o.now) any l None) is h)
lent_some lent octets (Some x) is h = (x, refl, subst (λ l. SpellsOption (λ (o : Bor (List ℕ)). o.now) any l (Some x)) is h)

pub lent_none : (lent : Option (Bor (List ℕ))) (p : Option Any) → lent ≡ None → SpellsOption (λ l. l.now) any lent p → p ≡ None
lent_none lent p is h = subst (λ l. SpellsOption (λ (o : Bor (List ℕ)). o.now) any l p) is h

module _ (above key : List ℕ) (a k : SubjectPublicKeyInfo) (is_above : Spells subject_public_key_info a above) (is_key : Spells subject_public_key_info k key) where
  -- nothing is filled in
  pub as_it_is : inherited a k (parameters_of k) ≡ None → (octets : List ℕ) → octets ≡ key → AnswersKey above key (Ok octets)
  as_it_is none octets same =
      (a, k, is_above, is_key, subst (λ p. Spells subject_public_key_info (with_parameters k p) octets) (sym none) (subst (λ o. Spells subject_public_key_info k o) (sym same) is_key))

  module _ (x : Any) (some : inherited a k (parameters_of k) ≡ Some x) where
    used : with_parameters k (Some x) ≡ working_key a k
    used = ap (with_parameters k) (sym some)

    pub filled : (octets : List ℕ) → Spells subject_public_key_info (with_parameters k (Some x)) octets → AnswersKey above key (Ok octets)
    filled octets spells = (a, k, is_above, is_key, subst (λ w. Spells subject_public_key_info w octets) used spells)

    pub unfilled : (e : ErrorKind) → RefusesEncoding subject_public_key_info (with_parameters k (Some x)) e → AnswersKey above key (Err e)
    unfilled e (inl memory) = inl memory
    unfilled e (inr (over, long)) = inr (inr (inr (over, a, k, is_above, is_key, subst (λ w. limit < length (spelling subject_public_key_info w)) used long)))
