-- A list is walked member by member.
use Rattle.std.proofs.Common.{◌≡◌, ℕ, zero, suc, ◌+◌, ◌-◌, ◌<◌, List, [], ◌∷◌, length, Some, None, refl, ap, ◌∙◌, arith}
use Rattle.x509_refusal.specs.Unread.{behind, unread_at, unread_members_at, unread_place}
use Rattle.x509_refusal.specs.declared.field.Field.{Field}

-- no octets are left
pub none_left : (n : ℕ) (member : Field) (end : ℕ) (rest : List ℕ) → length rest ≡ 0 → unread_members_at n member end rest ≡ None
unfolding unread_members_at
none_left n member end [] e = refl
none_left n member end (octet ∷ octets) e = absurd (omega arith)

-- as many members were walked as there are octets
pub none_more : (member : Field) (end : ℕ) (rest : List ℕ) → unread_members_at 0 member end rest ≡ None
unfolding unread_members_at
none_more member end [] = refl
none_more member end (octet ∷ octets) = refl

module _ (member : Field) (end : ℕ) where
  step : (n : ℕ) (rest : List ℕ) → 0 < length rest → unread_members_at (suc n) member end rest ≡ unread_at member (end - length rest) (unread_members_at n member end) (behind member rest)
  unfolding unread_members_at
  step n [] some = absurd (omega arith)
  step n (octet ∷ octets) some = refl

  -- the member at the front can't be read
  pub unread_here : (n : ℕ) (rest : List ℕ) → 0 < n → 0 < length rest → behind member rest ≡ None → unread_members_at n member end rest ≡ Some (unread_place member (end - length rest))
  unread_here zero rest m some e = absurd (omega arith)
  unread_here (suc n) rest m some e = step n rest some ∙ ap (unread_at member (end - length rest) (unread_members_at n member end)) e

  -- it is read
  pub one_more : (n k : ℕ) (rest others : List ℕ) → n ≡ k + 1 → 0 < length rest → behind member rest ≡ Some others → unread_members_at n member end rest ≡ unread_members_at k member end others
  one_more zero k rest others m some e = absurd (omega arith)
  one_more (suc n) k rest others m some e =
      let same : n ≡ k = omega arith in
      step n rest some ∙ ap (unread_at member (end - length rest) (unread_members_at n member end)) e ∙ ap (λ i. unread_members_at i member end others) same
