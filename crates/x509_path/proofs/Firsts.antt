-- The first of the reasons that hold, and the faults of a certificate, of any kind of reason.
use Rattle.std.proofs.Common.{◌≡◌, ◌∙◌, ℕ, suc, ◌<◌, inl, inr, List, [], ◌∷◌, ◌++◌, length, take, drop, get_or, refl, sym, ap, subst, append_assoc}
use Rattle.std.proofs.Math.Nat.{eq-or-lt_of_le}
use Rattle.std.proofs.Math.Seq.{drop-cons}
use Rattle.std.proofs.lemmas.Bool.{cases_lt}
use Rattle.std.proofs.lemmas.List.{take-append-drop}
use Rattle.std.proofs.lemmas.List.Elements.{All-nil, All-cons, All-head, All-tail}
use Rattle.std.specs.List.{All}
use Rattle.x509_base.specs.Profiles.{rfc5280_serial_number}
use Rattle.x509_cert.specs.Certificate.{certificate_lawful, rfc5280_certificate}
use Rattle.x509_der.specs.Form.{Spells}
use Rattle.x509_der.specs.SpellingLaws.{values}
use Rattle.x509_path.specs.Certificates.{Certificate}
use Rattle.x509_path.specs.Path.{IsFaultBy, IsFirst, IsUnreadable}

parts_at : {X : Type 0} (xs : List X) (i : ℕ) (d : X) → i < length xs → xs ≡ take i xs ++ get_or xs i d ∷ drop (suc i) xs
parts_at xs i d less = sym (take-append-drop i xs) ∙ ap (λ ys. take i xs ++ ys) (drop-cons xs i d less)

module _ {R : Type 0} (P : R → Type 0) where
  abbrev pub Free : List R → Type 0
  Free rs = All (λ r. P r → ⊥) rs

  pub first_here : (r : R) (rs : List R) → P r → IsFirst (r ∷ rs) P r
  first_here r rs has = record { earlier = []; later = rs; order = refl; has = has; none_earlier = All-nil (λ t. P t → ⊥) }

  -- the one at a place behind another, where none before it holds
  pub first_at : (r : R) (rs more : List R) (i : ℕ) (d : R) → i < length rs → (P r → ⊥) → Free (take i rs) → P (get_or rs i d) → IsFirst (r ∷ rs ++ more) P (get_or rs i d)
  first_at r rs more i d less never free has = record {
    earlier = r ∷ take i rs;
    later = drop (suc i) rs ++ more;
    order = ap (λ ts. r ∷ ts ++ more) (parts_at rs i d less) ∙ ap (λ ts. r ∷ ts) (append_assoc (take i rs) (get_or rs i d ∷ drop (suc i) rs) more);
    has = has;
    none_earlier = All-cons (λ t. P t → ⊥) r (take i rs) never free;
  }

  one_split : (xs ys zs ws : List R) (r s : R) → xs ++ r ∷ ys ≡ zs ++ s ∷ ws → Free xs → Free zs → P r → P s → r ≡ s
  one_split [] ys [] ws r s same f g p q = cc
  one_split [] ys (z ∷ zs) ws r s same f g p q = let first : r ≡ z = cc in absurd (All-head (λ t. P t → ⊥) z zs g (rw (← first) p))
  one_split (x ∷ xs) ys [] ws r s same f g p q = let first : s ≡ x = cc in absurd (All-head (λ t. P t → ⊥) x xs f (rw (← first) q))
  one_split (x ∷ xs) ys (z ∷ zs) ws r s same f g p q =
      let rest : xs ++ r ∷ ys ≡ zs ++ s ∷ ws = cc in
      one_split xs ys zs ws r s rest (All-tail (λ t. P t → ⊥) x xs f) (All-tail (λ t. P t → ⊥) z zs g) p q

  one_first : (rs : List R) (r s : R) → IsFirst rs P r → IsFirst rs P s → r ≡ s
  one_first rs r s h k = one_split h.earlier h.later k.earlier k.later r s (sym h.order ∙ k.order) h.none_earlier k.none_earlier h.has k.has

-- what holds of the same reasons has the same first
pub first_along : {R : Type 0} (P Q : R → Type 0) (rs : List R) (r : R) → (P r → Q r) → ((s : R) → Q s → P s) → IsFirst rs P r → IsFirst rs Q r
first_along P Q rs r there back h =
    record { earlier = h.earlier; later = h.later; order = h.order; has = there h.has; none_earlier = λ k d less has. h.none_earlier k d less (back _ has) }

-- ---- places

module _ {R : Type 0} (P : ℕ → R → Type 0) where
  one_lowest : (p q : ℕ) (r s : R) → P p r → P q s → ((n : ℕ) → n < p → (t : R) → P n t → ⊥) → ((n : ℕ) → n < q → (t : R) → P n t → ⊥) → p ≡ q
  one_lowest p q r s hp hq below_p below_q = elim (cases_lt p q) [
    | inl less ↦ absurd (below_q p less r hp)
    | inr le ↦ elim (eq-or-lt_of_le le) [ inl same ↦ sym same | inr less ↦ absurd (below_p q less s hq) ]
  ]

  -- the lowest place where one holds is one place, and the first there one reason
  pub one_place : (rs : List R) (p q : ℕ) (r s : R) → IsFirst rs (P p) r → IsFirst rs (P q) s → ((n : ℕ) → n < p → (t : R) → P n t → ⊥) → ((n : ℕ) → n < q → (t : R) → P n t → ⊥)
      → (p ≡ q) × (r ≡ s)
  one_place rs p q r s h k below_p below_q =
      let same : p ≡ q = one_lowest p q r s h.has k.has below_p below_q in
      (same, one_first (P q) rs r s (subst (λ n. IsFirst rs (P n) r) same h) k)

-- ---- one certificate

pub one_certificate : (c d : Certificate) (bytes : List ℕ) → Spells rfc5280_certificate c bytes → Spells rfc5280_certificate d bytes → c ≡ d
one_certificate c d bytes s t = values rfc5280_certificate (certificate_lawful rfc5280_serial_number) c d bytes s t

module _ {R : Type 0} (decode : R) (breaks : Certificate → R → Type 0) (bytes : List ℕ) where
  pub unreadable : (rs : List R) → IsUnreadable bytes → IsFirst (decode ∷ rs) (IsFaultBy decode breaks bytes) decode
  unreadable rs is = first_here (IsFaultBy decode breaks bytes) decode rs (inl (is, refl))

  module _ (c : Certificate) (spells : Spells rfc5280_certificate c bytes) where
    -- of bytes that spell a certificate a fault is what is wrong with that
    pub wrong : (r : R) → IsFaultBy decode breaks bytes r → breaks c r
    wrong r (inl (unreadable, is)) = absurd (unreadable c spells)
    wrong r (inr (d, other, is)) = subst (λ x. breaks x r) (one_certificate d c bytes other spells) is

    pub first_wrong : (rs : List R) (r : R) → IsFirst rs (breaks c) r → IsFirst rs (IsFaultBy decode breaks bytes) r
    first_wrong rs r h = first_along (breaks c) (IsFaultBy decode breaks bytes) rs r (λ w. inr (c, spells, w)) wrong h

    -- the one at a place, where none before it is wrong
    pub first_wrong_at : (rs more : List R) (i : ℕ) (d : R) → i < length rs → (breaks c decode → ⊥) → Free (breaks c) (take i rs) → breaks c (get_or rs i d)
        → IsFirst (decode ∷ rs ++ more) (IsFaultBy decode breaks bytes) (get_or rs i d)
    first_wrong_at rs more i d less never free is = first_wrong (decode ∷ rs ++ more) (get_or rs i d) (first_at (breaks c) decode rs more i d less never free is)
