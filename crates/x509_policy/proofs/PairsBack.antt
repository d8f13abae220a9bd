-- The way back through the levels of the code.
use Rattle.std.proofs.Common.{◌≡◌, ◌∙◌, ◌↔◌, inl, inr, ℕ, ◌-◌, ◌<◌, ◌≤◌, ◌||◌, Bool, true, false, cond, List, [], ◌∷◌, ◌++◌, length, take, get_or, Result, refl, sym, ap, subst, append_assoc, arith}
use Rattle.std.proofs.lemmas.Grind.{take_at_read}
use Rattle.std.proofs.lemmas.Result.{IfOk-weaker}
use Rattle.std.specs.Result.{IfOk}
use Rattle.x509_policy.specs.Values.{Policy, any_policy, is_any, has}
use Rattle.x509_policy.specs.Levels.{In, Level, IsAt, Way, Leads, GoesBack, one_back, IsConstrained}
use Rattle.x509_policy.specs.Stands.{AllHang}
use Rattle.x509_policy.specs.Edges.{Edge, level_of, ends, parents, firsts, with_any, asked, constrained}
use Rattle.x509_policy.specs.Follows.{made, levels_on, levels_of}
use Rattle.x509_policy.specs.declared.level.Level as code
use Rattle.x509_policy.proofs.Members.{In-left, In-right, In-cases, In-filter, filter-In, has-In, In-has, not_both, any_is, or_cases, or_left, or_right}
use Rattle.x509_policy.proofs.Ends.{is_any-same}
use Rattle.x509_policy.proofs.GraphEnds.{reached_by, any_way}
use Rattle.x509_policy.proofs.Steps.{way_at}
use Rattle.x509_policy.proofs.WayBack.{goes_back}
use Rattle.x509_policy.proofs.Pairs.{back_right, Fresh, fresh_at, at_fresh}

-- what the members of a list are, those of a set of them are
pub in_ok_set : {E : Type 0} (r : Result (List Policy) E) (ps : List Policy) (Q : Policy → Type 0) → ((p : Policy) → In p ps ↔ Q p) → IfOk r (λ found. has found ≡ has ps) → IfOk r (λ found. (p : Policy) → In p found ↔ Q p)
in_ok_set r ps Q q h = IfOk-weaker r (λ found. has found ≡ has ps) (λ found. (p : Policy) → In p found ↔ Q p) (λ found same p. (
  (λ is. (q p).0 (has-In p ps (sym (ap (λ test. test p) same) ∙ In-has p found is))),
  (λ so. has-In p found (ap (λ test. test p) same ∙ In-has p ps ((q p).1 so))),
)) h

pub levels_push : (above : List Level) (levels : List code.Level) (level : code.Level) → levels_on above (levels ++ level ∷ []) ≡ made level ∷ levels_on above levels
levels_push above [] level = refl
levels_push above (l ∷ levels) level = levels_push (made l ∷ above) levels level

-- the last of the first levels
pub levels_taken : (levels : List code.Level) (left : ℕ) (level : code.Level) → 0 < left → left ≤ length levels → level ≡ get_or levels (left - 1) level
    → levels_of (take left levels) ≡ made level ∷ levels_of (take (left - 1) levels)
levels_taken levels left level some within is =
    let at : take left levels ≡ take (left - 1) levels ++ level ∷ [] =
    ap (λ n. take n levels) (omega arith) ∙ ((take_at_read levels (left - 1) level (omega arith)).1 ∙ ap (λ l. take (left - 1) levels ++ l ∷ []) (sym is)) in
    ap levels_of at ∙ levels_push [] (take (left - 1) levels) level

-- one step back
pub back_step : (all : List Level) (from : List Policy) (leads expectations : List Edge) (levels : List Level) (reached above found : List Policy)
    → has above ≡ has (parents (has reached) leads)
    → ((more : List Policy) → GoesBack (level_of leads expectations ∷ levels) reached more → GoesBack all from (found ++ more))
    → (more : List Policy) → GoesBack levels above more → GoesBack all from ((found ++ firsts (has reached) leads) ++ more)
back_step all from leads expectations levels reached above found same so_far more back =
    let here = firsts (has reached) leads in
    subst (GoesBack all from) (sym (append_assoc found here more))
    (so_far (here ++ more) (one_back (back_right leads expectations reached above same) back (λ r. (
      (λ is. In-cases r here more is),
      (λ is. elim is [ inl now ↦ In-left r here more now | inr later ↦ In-right r here more later ]),
    ))))

-- ---- all that lead, and those that are asked for

any_there : (b : Bool) (p : Policy) → In p (cond b (any_policy ∷ []) []) → (p ≡ any_policy) × (b ≡ true)
any_there true p (inl e) = (sym e, refl)
any_there true p (inr h) = absurd h
any_there false p h = absurd h

there_any : (b : Bool) → b ≡ true → In any_policy (cond b (any_policy ∷ []) [])
there_any true h = inl refl
there_any false h = absurd (not_both false h refl)

module _ (leads : List Edge) (policies : List Policy) (same : has policies ≡ has (ends leads)) (levels : List Level) (all : AllHang (Fresh leads policies same ∷ levels))
    (found : List Policy) (back : GoesBack (Fresh leads policies same ∷ levels) policies found)
    (leading : List Policy) (is : has leading ≡ has (found ++ with_any policies)) where
  abbrev All : List Level
  All = Fresh leads policies same ∷ levels

  leading_in : (p : Policy) → In p leading → In p (found ++ with_any policies)
  leading_in p h = has-In p (found ++ with_any policies) (sym (ap (λ t. t p) is) ∙ In-has p leading h)

  in_leading : (p : Policy) → In p (found ++ with_any policies) → In p leading
  in_leading p h = has-In p leading (ap (λ t. t p) is ∙ In-has p (found ++ with_any policies) h)

  leading_leads : (p : Policy) → In p leading → Leads All p
  leading_leads p h = elim (In-cases p found (with_any policies) (leading_in p h)) [
    | inl there ↦ let (other, (v, alive, way)) = (goes_back back all p).0 there in (v, way)
    | inr any ↦
        let (e, on) = any_there (has policies any_policy) p any in
        let (r, way) = reached_by all any_policy (at_fresh leads policies same any_policy (has-In any_policy policies on)) in
        let first = (any_way all r any_policy way).1 refl in
        (any_policy, subst (λ q. Way All q any_policy) (first ∙ sym e) way)
  ]

  leads_case : (p v : Policy) → Way All p v → (b : Bool) → is_any p ≡ b → In p leading
  leads_case p v way true any =
      let first = is_any-same p any in
      let last = (any_way all p v way).0 first in
      let on = fresh_at leads policies same any_policy (subst (IsAt (Fresh leads policies same)) last (way_at All p v way)) in
      subst (λ q. In q leading) (sym first) (in_leading any_policy (In-right any_policy found (with_any policies) (there_any (has policies any_policy) (In-has any_policy policies on))))
  leads_case p v way false other =
      in_leading p (In-left p found (with_any policies) ((goes_back back all p).1 ((λ e. not_both (is_any p) (any_is p e) other), (v, fresh_at leads policies same v (way_at All p v way), way))))

  leads_leading : (p : Policy) → Leads All p → In p leading
  leads_leading p (v, way) = leads_case p v way (is_any p) refl

  constrained_case : (user : List Policy) (b : Bool) → has user any_policy ≡ b → (p : Policy) → In p (cond b leading (asked user (has leading))) ↔ IsConstrained user All p
  constrained_case user true any p = (
    (λ h. inl (leading_leads p h, has-In any_policy user any)),
    (λ c. elim c [ inl (leads, any) ↦ leads_leading p leads | inr (on, not_any, some) ↦ absurd (not_any (has-In any_policy user any)) ]),
  )
  constrained_case user false some p =
      let not_any : In any_policy user → ⊥ = λ any. not_both (has user any_policy) (In-has any_policy user any) some in (
        (λ h.
            let (on, t) = In-filter (λ q. has leading q || has leading any_policy) p user h in
            inr (on, not_any, elim (or_cases (has leading p) (has leading any_policy) t) [ inl own ↦ inl (leading_leads p (has-In p leading own)) | inr any ↦ inr (leading_leads any_policy (has-In any_policy leading any)) ])),
        (λ c. elim c [
          | inl (leads, any) ↦ absurd (not_any any)
          | inr (on, none_any, from) ↦ filter-In (λ q. has leading q || has leading any_policy) p user on (elim from [
            | inl own ↦ or_left (has leading p) (has leading any_policy) (In-has p leading (leads_leading p own))
            | inr any ↦ or_right (has leading p) (has leading any_policy) (In-has any_policy leading (leads_leading any_policy any))
          ])
        ]),
      )

  pub constrained_right : (user : List Policy) (p : Policy) → In p (constrained user leading) ↔ IsConstrained user All p
  constrained_right user p = constrained_case user (has user any_policy) refl p
