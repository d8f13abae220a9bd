-- The policies of a caller and of a trust anchor.
use Rattle.std.proofs.Common.{◌≡◌, ◌∙◌, ◌↔◌, inl, inr, true, ◌||◌, List, ◌++◌, sym, ap}
use Rattle.x509_policy.specs.Values.{Policy, any_policy, has}
use Rattle.x509_policy.specs.Levels.{In}
use Rattle.x509_policy.specs.Edges.{asked}
use Rattle.x509_policy.specs.Anchors.{Accepts, IsCommon}
use Rattle.x509_policy.proofs.Members.{In-left, In-right, In-cases, In-filter, filter-In, has-In, In-has, or_cases, or_left, or_right}

module _ (set ps : List Policy) (same : has set ≡ has ps) where
  in_set : (p : Policy) → has set p ≡ true → In p ps
  in_set p h = has-In p ps (sym (ap (λ t. t p) same) ∙ h)

  set_in : (p : Policy) → In p ps → has set p ≡ true
  set_in p h = ap (λ t. t p) same ∙ In-has p ps h

  asked_is : (user : List Policy) (p : Policy) → In p (asked user (has set)) → In p user × Accepts ps p
  asked_is user p h =
      let (on, t) = In-filter (λ q. has set q || has set any_policy) p user h in
      (on, elim (or_cases (has set p) (has set any_policy) t) [ inl own ↦ inl (in_set p own) | inr any ↦ inr (in_set any_policy any) ])

  is_asked : (user : List Policy) (p : Policy) → In p user → Accepts ps p → In p (asked user (has set))
  is_asked user p on (inl own) = filter-In (λ q. has set q || has set any_policy) p user on (or_left (has set p) (has set any_policy) (set_in p own))
  is_asked user p on (inr any) = filter-In (λ q. has set q || has set any_policy) p user on (or_right (has set p) (has set any_policy) (set_in any_policy any))

pub common_right : (user anchor of_user of_anchor found : List Policy) → has of_user ≡ has user → has of_anchor ≡ has anchor
    → has found ≡ has (asked user (has of_anchor) ++ asked anchor (has of_user)) → (p : Policy) → In p found ↔ IsCommon user anchor p
common_right user anchor of_user of_anchor found one two same p = (
  (λ h. elim (In-cases p (asked user (has of_anchor)) (asked anchor (has of_user)) (in_set found (asked user (has of_anchor) ++ asked anchor (has of_user)) same p (In-has p found h))) [
    | inl own ↦ inl (asked_is of_anchor anchor two user p own)
    | inr other ↦ inr (asked_is of_user user one anchor p other)
  ]),
  (λ c. has-In p found (set_in found (asked user (has of_anchor) ++ asked anchor (has of_user)) same p (elim c [
    | inl (on, ok) ↦ In-left p (asked user (has of_anchor)) (asked anchor (has of_user)) (is_asked of_anchor anchor two user p on ok)
    | inr (on, ok) ↦ In-right p (asked user (has of_anchor)) (asked anchor (has of_user)) (is_asked of_user user one anchor p on ok)
  ]))),
)
