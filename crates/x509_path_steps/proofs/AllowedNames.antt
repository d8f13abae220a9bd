-- The sets that apply allow the names of a certificate exactly where the constraints above it do.
use Rattle.std.proofs.Common.{◌≡◌, ◌↔◌, inl, inr, List, [], ◌∷◌, ◌++◌, Option, Some, None, Contains, get_or, length, ap, refl, sym, subst, arith}
use Rattle.std.specs.Option.{option_to_list}
use Rattle.std.proofs.lemmas.List.Elements.{All-contains, Contains-append_cases, Contains-append_left, Contains-append_right, Contains-get_or, Contains-push, Contains-push_cases}
use Rattle.x509_constraints.specs.Constraints.{AreAllowed, IsAllowedBy, names_asked}
use Rattle.x509_ext.specs.AlternativeNames.{subject_alt_name}
use Rattle.x509_ext.specs.Identifiers.{id_ce}
use Rattle.x509_ext.specs.declared.pkix.alternative_names.SubjectAltName.{SubjectAltName}
use Rattle.x509_ext.specs.declared.pkix.name_constraints.NameConstraints.{NameConstraints}
use Rattle.x509_path.specs.Certificates.{Certificate, HasPayload, extensions_of}
use Rattle.x509_path_steps.proofs.Initials.{in_one, one_of}
use Rattle.x509_path_steps.specs.Inputs.{Inputs}
use Rattle.x509_path_steps.specs.Steps.{AreConstraintsOf, Collects}
use Rattle.x509_path_steps.specs.Validation.{Apply, AreNamesAllowed, HasAlternativeNames, HasConstraints}

-- of what is said of one value there is one answer
pub one_found : {T : Type 0} (Has : T → Type 0) (a b : Option T) → ((v : T) → Has v ↔ (a ≡ Some v)) → ((v : T) → Has v ↔ (b ≡ Some v)) → a ≡ b
one_found Has None None h k = refl
one_found Has None (Some y) h k = let e : None ≡ Some y = (h y).0 ((k y).1 refl) in cc
one_found Has (Some x) None h k = let e : None ≡ Some x = (k x).0 ((h x).1 refl) in cc
one_found Has (Some x) (Some y) h k = sym ((k x).0 ((h x).1 refl))

module _ (inputs : Inputs) (before : List Certificate) (c : Certificate) (sets : List NameConstraints) (collects : Collects inputs before sets) where
  module _ (found : Option SubjectAltName) (has : HasAlternativeNames c found) where
    there : AreAllowed sets (names_asked c.tbs_certificate.subject found) → AreNamesAllowed inputs before c
    there all constraints apply names is =
        let same : found ≡ names = one_found (HasPayload subject_alt_name (id_ce 17) (extensions_of c)) found names has is in
        let each : AreAllowed sets (names_asked c.tbs_certificate.subject names) = subst (λ n. AreAllowed sets (names_asked c.tbs_certificate.subject n)) same all in
        λ k d less. All-contains (λ set. IsAllowedBy set (get_or (names_asked c.tbs_certificate.subject names) k d)) sets constraints (each k d less) ((collects constraints).1 apply)

    back : AreNamesAllowed inputs before c → AreAllowed sets (names_asked c.tbs_certificate.subject found)
    back each k d less j e within = each (get_or sets j e) ((collects (get_or sets j e)).0 (Contains-get_or sets j e within)) found has k d less

    pub allowed : AreAllowed sets (names_asked c.tbs_certificate.subject found) ↔ AreNamesAllowed inputs before c
    allowed = (there, back)

  -- each name is allowed where no constraints apply
  pub no_limits : sets ≡ [] → AreNamesAllowed inputs before c
  no_limits none constraints apply names is = λ k d less. absurd (let (i, within, at) = (collects constraints).1 apply in omega (arith, within, ap length none))

-- ---- behind one more certificate

module _ (inputs : Inputs) (before : List Certificate) (c : Certificate) (sets : List NameConstraints) (found : Option NameConstraints) (collects : Collects inputs before sets) (has : AreConstraintsOf c found) where
  weaker : (constraints : NameConstraints) → Apply inputs before constraints → Apply inputs (before ++ c ∷ []) constraints
  weaker constraints (inl trusted) = inl trusted
  weaker constraints (inr (inl own)) = inr (inl own)
  weaker constraints (inr (inr (d, among, is))) = inr (inr (d, Contains-append_left before (c ∷ []) d among, is))

  there_more : (constraints : NameConstraints) → Contains (sets ++ option_to_list found) constraints → Apply inputs (before ++ c ∷ []) constraints
  there_more constraints within = elim (Contains-append_cases sets (option_to_list found) constraints within) [
    | inl old ↦ weaker constraints ((collects constraints).0 old)
    | inr new ↦ inr (inr (c, Contains-push before c, (has constraints).1 (one_of found constraints new)))
  ]

  old_within : (constraints : NameConstraints) → Apply inputs before constraints → Contains (sets ++ option_to_list found) constraints
  old_within constraints apply = Contains-append_left sets (option_to_list found) constraints ((collects constraints).1 apply)

  back_more : (constraints : NameConstraints) → Apply inputs (before ++ c ∷ []) constraints → Contains (sets ++ option_to_list found) constraints
  back_more constraints (inl trusted) = old_within constraints (inl trusted)
  back_more constraints (inr (inl own)) = old_within constraints (inr (inl own))
  back_more constraints (inr (inr (d, among, is))) = elim (Contains-push_cases before c d among) [
    | inl old ↦ old_within constraints (inr (inr (d, old, is)))
    | inr same ↦ Contains-append_right sets (option_to_list found) constraints (in_one found constraints ((has constraints).0 (subst (λ x. HasConstraints x constraints) (sym same) is)))
  ]

  pub collected : Collects inputs (before ++ c ∷ []) (sets ++ option_to_list found)
  collected constraints = (there_more constraints, back_more constraints)
