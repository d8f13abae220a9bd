-- Keys along a path, and the parameters that they have.
use Rattle.std.proofs.Common.{◌≡◌, ◌∙◌, ◌⊎◌, inl, inr, Bor, ◌≤◌, ◌<◌, ℕ, Bool, true, false, List, [], ◌∷◌, ◌++◌, length, Option, Some, None, refl, sym, ap, subst, append-nil, length-append, arith}
use Rattle.std.proofs.lemmas.Bool.{true≢false}
use Rattle.std.specs.Prelude.{bytes_eq, if◌then◌else◌, is_some}
use Rattle.x509_base.specs.AlgorithmIdentifier.{algorithm_identifier_fields}
use Rattle.x509_base.specs.SubjectPublicKeyInfo.{subject_public_key_info, subject_public_key_info_fields}
use Rattle.x509_base.specs.declared.subject_public_key_info.SubjectPublicKeyInfo.{SubjectPublicKeyInfo}
use Rattle.x509_der.specs.Any.{any}
use Rattle.x509_der.specs.Element.{element, length_octets, limit}
use Rattle.x509_der.specs.Form.{Spells, spelling}
use Rattle.x509_der.specs.Frames.{fields_octets, optional_octets}
use Rattle.x509_der.specs.declared.any.Any.{Any}
use Rattle.x509_path.specs.Certificates.{Certificate}
use Rattle.x509_path_steps.specs.Inputs.{SpellsOption}
use Rattle.x509_path_steps.specs.Keys.{given, inherited, key_behind, null, parameters_of, with_parameters, working_key}
use Rattle.x509_path_steps.specs.Steps.{HoldsKey}
use Rattle.x509_path_steps.specs.declared.above.Above.{Above}
use Rattle.x509_prim.specs.BitString.{bit_string}

-- ---- parameters that are given

test_given : (a : Any) (b : Bool) → bytes_eq (spelling any a) null ≡ b → given (Some a) ≡ (if b then None else Some a)
test_given a b is = rw is refl

pub given_again : (p : Option Any) → given (given p) ≡ given p
given_again None = refl
given_again (Some a) = cases (bytes_eq (spelling any a) null) refl where
  cases : (b : Bool) → bytes_eq (spelling any a) null ≡ b → given (given (Some a)) ≡ given (Some a)
  cases true is = let one = test_given a true is in ap given one ∙ sym one
  cases false is = ap given (test_given a false is)

element_not_empty : (tag : ℕ) (content : List ℕ) → element tag content ≡ [] → ⊥
unfolding element
element_not_empty tag content is = cc

-- no octets, or those of NULL, give none
pub none_given : (p : Option Any) (octets : List ℕ) → octets ≡ optional_octets (spelling any) p → (octets ≡ []) ⊎ (bytes_eq octets null ≡ true) → given p ≡ None
none_given None octets is which = refl
none_given (Some a) octets is (inl empty) = absurd (element_not_empty _ _ (sym is ∙ empty))
none_given (Some a) octets is (inr same) = test_given a true (ap (λ o. bytes_eq o null) (sym is) ∙ same)

-- others are those of the parameters
pub some_given : (p : Option Any) (octets : List ℕ) → length octets ≤ limit → octets ≡ optional_octets (spelling any) p → (octets ≡ [] → ⊥) → bytes_eq octets null ≡ false
    → (a : Any) × (given p ≡ Some a) × Spells any a octets
some_given None octets within is some other = absurd (some is)
some_given (Some a) octets within is some other = (a, test_given a false (ap (λ o. bytes_eq o null) (sym is) ∙ other), (tt, is, within))

-- ---- the octets of a key

abbrev algorithm_content : SubjectPublicKeyInfo → List ℕ
algorithm_content key = element 6 key.algorithm.oid ++ optional_octets (spelling any) key.algorithm.parameters

abbrev pub key_content : SubjectPublicKeyInfo → List ℕ
key_content key = element 48 (algorithm_content key) ++ spelling bit_string key.subject_public_key

pub key_octets : (key : SubjectPublicKeyInfo) (octets : List ℕ) → Spells subject_public_key_info key octets → octets ≡ element 48 (key_content key) ++ []
unfolding fields_octets subject_public_key_info_fields algorithm_identifier_fields
key_octets key octets spells = spells.1 ∙ sym (append-nil (element 48 (key_content key)))

longer : (tag : ℕ) (content : List ℕ) → length content < length (element tag content)
unfolding element
longer tag content = omega (arith, length-append (length_octets (length content)) content)

-- its parameters are no longer than an element may be
pub within_key : (key : SubjectPublicKeyInfo) (octets : List ℕ) → Spells subject_public_key_info key octets → length (optional_octets (spelling any) key.algorithm.parameters) ≤ limit
within_key key octets spells =
    omega (
      arith,
      spells.2,
      ap length (key_octets key octets spells),
      length-append (element 48 (key_content key)) [],
      longer 48 (key_content key),
      length-append (element 48 (algorithm_content key)) (spelling bit_string key.subject_public_key),
      longer 48 (algorithm_content key),
      length-append (element 6 key.algorithm.oid) (optional_octets (spelling any) key.algorithm.parameters),
    )

-- ---- the key that is used

-- a key has no NULL from one above it
pub inherited_given : (above key : SubjectPublicKeyInfo) (own : Option Any) → given (inherited above key own) ≡ inherited above key own
inherited_given above key (Some p) = refl
inherited_given above key None = cases (bytes_eq key.algorithm.oid above.algorithm.oid) refl where
  cases : (b : Bool) → bytes_eq key.algorithm.oid above.algorithm.oid ≡ b → given (inherited above key None) ≡ inherited above key None
  cases true is = let one : inherited above key None ≡ parameters_of above = rw is refl in ap given one ∙ given_again above.algorithm.parameters ∙ sym one
  cases false is = let one : inherited above key None ≡ None = rw is refl in ap given one ∙ sym one

same_oid : (key : SubjectPublicKeyInfo) (p : Option Any) → (with_parameters key p).algorithm.oid ≡ key.algorithm.oid
same_oid key None = refl
same_oid key (Some a) = refl

pub held_oid : (lent : Above) (key : SubjectPublicKeyInfo) (h : HoldsKey lent key) → key.algorithm.oid ≡ h.own.algorithm.oid
held_oid lent key h = ap (λ (k : SubjectPublicKeyInfo). k.algorithm.oid) h.is ∙ same_oid h.own h.inherited

abbrev lends : Option (Bor (List ℕ)) → Option Any → Type 0
lends lent p = SpellsOption (λ octets. octets.now) any lent p

-- parameters from above are those that the key is used with
held_some : (lent : Bor (List ℕ)) (own : SubjectPublicKeyInfo) (p : Option Any) → lends (Some lent) p → given p ≡ p → lends (Some lent) (parameters_of (with_parameters own p))
held_some lent own None h is = absurd h
held_some lent own (Some a) h is = subst (lends (Some lent)) (sym is) h

pub some_held : (lent : Above) (key : SubjectPublicKeyInfo) (octets : Bor (List ℕ)) → lent.inherited ≡ Some octets → HoldsKey lent key → lends (Some octets) (parameters_of key)
some_held lent key octets is h =
    subst (λ k. lends (Some octets) (parameters_of k)) (sym h.is) (held_some octets h.own h.inherited (subst (λ l. lends l h.inherited) is h.lends) h.are_given)

-- with none from above it is as it stands
pub none_held : (lent : Above) (key : SubjectPublicKeyInfo) → lent.inherited ≡ None → (h : HoldsKey lent key) → key ≡ h.own
none_held lent key is h =
    let none : h.inherited ≡ None = subst (λ l. lends l h.inherited) is h.lends in
    h.is ∙ ap (with_parameters h.own) none

-- a key with parameters of its own has none from above
pub own_parameters : (lent : Option (Bor (List ℕ))) (above key : SubjectPublicKeyInfo) (p : Option Any) → is_some lent ≡ true → lends lent p → inherited above key p ≡ None
own_parameters None above key p some h = absurd (true≢false (sym some))
own_parameters (Some l) above key None some h = absurd h
own_parameters (Some l) above key (Some a) some h = refl

pub no_parameters : (lent : Option (Bor (List ℕ))) (p : Option Any) → is_some lent ≡ false → lends lent p → p ≡ None
no_parameters None p none h = h
no_parameters (Some l) p none h = absurd (true≢false none)

-- what is left to a key of the same algorithm that gives none
pub left_same : (above key : SubjectPublicKeyInfo) → parameters_of key ≡ None → bytes_eq key.algorithm.oid above.algorithm.oid ≡ true → inherited above key (parameters_of key) ≡ parameters_of above
left_same above key none same = ap (inherited above key) none ∙ (rw same refl)

pub left_other : (above key : SubjectPublicKeyInfo) → parameters_of key ≡ None → bytes_eq key.algorithm.oid above.algorithm.oid ≡ false → inherited above key (parameters_of key) ≡ None
left_other above key none other = ap (inherited above key) none ∙ (rw other refl)

-- one certificate more
pub one_behind : (trusted : SubjectPublicKeyInfo) (before : List Certificate) (c : Certificate) → key_behind trusted (before ++ c ∷ []) ≡ working_key (key_behind trusted before) c.tbs_certificate.subject_public_key_info
one_behind trusted [] c = refl
one_behind trusted (b ∷ before) c = one_behind (working_key trusted b.tbs_certificate.subject_public_key_info) before c
