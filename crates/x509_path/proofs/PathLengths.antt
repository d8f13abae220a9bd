-- How many certificates may follow that aren't self-issued.
use Rattle.std.proofs.Common.{◌≡◌, ◌↔◌, ◌⊎◌, ◌∙◌, ℕ, zero, suc, ◌≤◌, ◌-◌, Bool, true, false, min, List, [], ◌∷◌, ◌++◌, Option, Some, None, inl, inr, refl, subst, sym, arith, append_assoc}
use Rattle.std.proofs.Math.Nat.{eq-or-lt_of_le}
use Rattle.std.proofs.lemmas.Bool.{cases_lt, true≢false}
use Rattle.std.specs.Bool.{IsTrue}
use Rattle.x509_path.specs.Certificates.{Certificate, HasOthers, HasPathLen, IsOver, IsSelfIssued, IsTooLong, Sameness, extensions_of}
use Rattle.x509_path.specs.PathLength.{AreTooMany, Leaves, narrowed}

module _ (Same : Sameness) where
  fewer : (n : ℕ) (cs : List Certificate) → HasOthers Same (suc n) cs → HasOthers Same n cs
  fewer zero cs h = tt
  fewer (suc n) [] h = absurd h
  fewer (suc n) (c ∷ cs) (inl (other, more)) = inl (other, fewer n cs more)
  fewer (suc n) (c ∷ cs) (inr more) = inr (fewer (suc n) cs more)

  at_least : (m n : ℕ) (cs : List Certificate) → m ≤ n → HasOthers Same n cs → HasOthers Same m cs
  at_least m zero cs le h = let e : m ≡ 0 = omega (arith, le) in subst (λ k. HasOthers Same k cs) (sym e) tt
  at_least m (suc n) cs le h = elim (eq-or-lt_of_le le) [
    | inl same ↦ subst (λ k. HasOthers Same k cs) (sym same) h
    | inr less ↦ at_least m n cs (omega (arith, less)) (fewer n cs h)
  ]

  lowest : (a b : ℕ) (cs : List Certificate) → (IsOver Same (Some a) cs ⊎ IsOver Same (Some b) cs) ↔ IsOver Same (Some (min a b)) cs
  lowest a b cs = (
    elim [ inl h ↦ at_least (suc (min a b)) (suc a) cs (omega arith) h | inr h ↦ at_least (suc (min a b)) (suc b) cs (omega arith) h ],
    (λ h. elim (cases_lt a b) [
      | inl less ↦ inl (at_least (suc a) (suc (min a b)) cs (omega (arith, less)) h)
      | inr more ↦ inr (at_least (suc b) (suc (min a b)) cs (omega (arith, more)) h)
    ]),
  )

  -- ---- along a path

  none_alone : (c : Certificate) → IsTooLong Same (c ∷ []) → ⊥
  none_alone c (inl (k, limit, over)) = over
  none_alone c (inr deep) = deep

  -- with the certificate there are too many exactly where it may not follow
  pub too_many : (limit : Option ℕ) (before : List Certificate) (max_path_length : Option ℕ) (c : Certificate) → Leaves Same limit before max_path_length → AreTooMany Same limit (before ++ c ∷ []) ↔ IsOver Same max_path_length (c ∷ [])
  too_many limit before max_path_length c leaves = (
    (λ many. elim ((leaves (c ∷ [])).0 many) [ inl over ↦ over | inr deep ↦ absurd (none_alone c deep) ]),
    (λ over. (leaves (c ∷ [])).1 (inl over)),
  )

  module _ (c : Certificate) (own : Bool) (is : IsTrue own ↔ IsSelfIssued Same c) where
    other : own ≡ false → IsSelfIssued Same c → ⊥
    other isnt so = true≢false (sym (is.1 so) ∙ isnt)

    -- alone
    over_alone : (max_path_length : Option ℕ) → (max_path_length ≡ Some 0) × (own ≡ false) → IsOver Same max_path_length (c ∷ [])
    over_alone max_path_length (none, isnt) = rw none (inl (other isnt, tt))

    alone_over : (max_path_length : Option ℕ) → IsOver Same max_path_length (c ∷ []) → (max_path_length ≡ Some 0) × (own ≡ false)
    alone_over None over = absurd over
    alone_over (Some zero) (inl (not_own, rest)) = (refl, not_true own (λ so. not_own (is.0 so)))
      where
        not_true : (b : Bool) → (IsTrue b → ⊥) → b ≡ false
        not_true true never = absurd (never refl)
        not_true false never = refl
    alone_over (Some zero) (inr over) = absurd over
    alone_over (Some (suc n)) (inl (not_own, rest)) = absurd rest
    alone_over (Some (suc n)) (inr over) = absurd over

    -- with it there are too many exactly where none may follow, and it isn't self-issued
    pub too_deep : (b : Bool) (limit : Option ℕ) (before : List Certificate) (max_path_length : Option ℕ) → Leaves Same limit before max_path_length
        → IsTrue b ↔ ((max_path_length ≡ Some 0) × (own ≡ false)) → IsTrue b ↔ AreTooMany Same limit (before ++ c ∷ [])
    too_deep b limit before max_path_length leaves said =
        let many = too_many limit before max_path_length c leaves in
        ((λ so. many.1 (over_alone max_path_length (said.0 so))), (λ h. said.1 (alone_over max_path_length (many.0 h))))

    -- what is left behind it, whatever its own path length
    abbrev left : Option ℕ → Option ℕ
    left max_path_length = narrowed max_path_length own None

    left_is : (max_path_length : Option ℕ) (b : Bool) → own ≡ b → (IsOver Same max_path_length (c ∷ []) → ⊥) → (behind : List Certificate)
        → IsOver Same max_path_length (c ∷ behind) ↔ IsOver Same (narrowed max_path_length b None) behind
    left_is None b so free behind = ((λ h. h), (λ h. h))
    left_is (Some n) true so free behind = (elim [ inl h ↦ absurd (h.0 (is.0 so)) | inr more ↦ more ], (λ more. inr more))
    left_is (Some zero) false so free behind = absurd (free (inl (other so, tt)))
    left_is (Some (suc n)) false so free behind =
        let e : suc n - 1 ≡ n = omega arith in
        rw e (elim [ inl h ↦ h.1 | inr more ↦ fewer (suc n) behind more ], (λ more. inl (other so, more)))

    lower_is : (max_path_length own_length : Option ℕ) (behind : List Certificate) → (IsOver Same own_length behind ⊎ IsOver Same (left max_path_length) behind) ↔ IsOver Same (narrowed max_path_length own own_length) behind
    lower_is None own_length behind = (elim [ inl h ↦ h | inr h ↦ absurd h ], (λ h. inl h))
    lower_is (Some n) None behind = (elim [ inl h ↦ absurd h | inr h ↦ h ], (λ h. inr h))
    lower_is (Some n) (Some own_length) behind = lowest own_length _ behind

    module _ (own_length : Option ℕ) (has : (k : ℕ) → HasPathLen (extensions_of c) k ↔ (own_length ≡ Some k)) where
      limited : (behind : List Certificate) → (k : ℕ) × HasPathLen (extensions_of c) k × IsOver Same (Some k) behind → IsOver Same own_length behind
      limited behind (k, has_it, over) = rw ((has k).0 has_it) over

      unlimited : (behind : List Certificate) (o : Option ℕ) → own_length ≡ o → IsOver Same o behind → (k : ℕ) × HasPathLen (extensions_of c) k × IsOver Same (Some k) behind
      unlimited behind None none over = absurd over
      unlimited behind (Some k) some over = (k, (has k).1 some, over)

      module _ (limit : Option ℕ) (before : List Certificate) (max_path_length : Option ℕ) (leaves : Leaves Same limit before max_path_length) (free : IsOver Same max_path_length (c ∷ []) → ⊥) where
        abbrev next : Option ℕ
        next = narrowed max_path_length own own_length

        there : (behind : List Certificate) → AreTooMany Same max_path_length (c ∷ behind) → AreTooMany Same next behind
        there behind (inl over) = inl ((lower_is max_path_length own_length behind).0 (inr ((left_is max_path_length own refl free behind).0 over)))
        there behind (inr (inl limits)) = inl ((lower_is max_path_length own_length behind).0 (inl (limited behind limits)))
        there behind (inr (inr deep)) = inr deep

        back : (behind : List Certificate) → AreTooMany Same next behind → AreTooMany Same max_path_length (c ∷ behind)
        back behind (inl over) = elim ((lower_is max_path_length own_length behind).1 over) [
          | inl own ↦ inr (inl (unlimited behind own_length refl own))
          | inr above ↦ inl ((left_is max_path_length own refl free behind).1 above)
        ]
        back behind (inr deep) = inr (inr deep)

        -- how many may follow it, where it may stand there
        pub narrows : Leaves Same limit (before ++ c ∷ []) next
        narrows behind =
            let joined : (before ++ c ∷ []) ++ behind ≡ before ++ (c ∷ behind) = append_assoc before (c ∷ []) behind in
            rw joined ((λ many. there behind ((leaves (c ∷ behind)).0 many)), (λ many. (leaves (c ∷ behind)).1 (back behind many)))

  -- at the start
  pub begins : (limit : Option ℕ) → Leaves Same limit [] limit
  begins limit behind = ((λ h. h), (λ h. h))

  -- without a limit from above
  pub unlimited_too_long : (cs : List Certificate) → AreTooMany Same None cs ↔ IsTooLong Same cs
  unlimited_too_long cs = (elim [ inl over ↦ absurd over | inr deep ↦ deep ], (λ deep. inr deep))
