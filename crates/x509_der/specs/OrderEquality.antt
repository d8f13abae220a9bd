-- Equality by the order of encodings.
use Rattle.std.specs.Prelude.{◌≡◌, ℕ, Bool, true, List}
use Rattle.std.specs.Bool.{Decides, one_answer}
use Rattle.std.specs.Cmp.{IsEquivalence, Equal-is, eq_by_cmp_equiv}
use Rattle.std.specs.Ordering.{eq_by_cmp}
use Rattle.std.proofs.Common.{subst}
use Rattle.x509_der.specs.Order.{Order, IsDerOrder}

module _ {X : Type 0} {Has : X → Type 0} {text : X → List ℕ} {order : Order X} (h : IsDerOrder Has text order) where
  pub order_equivalence : IsEquivalence (eq_by_cmp order)
  order_equivalence = eq_by_cmp_equiv h.total

  -- the order finds a value equal to itself alone
  pub order_decides : (x y : X) → Decides (eq_by_cmp order x y) (x ≡ y)
  order_decides x y = (λ e. h.exact x y ((Equal-is (order x y)).0 e), λ e. subst (λ (v : X). eq_by_cmp order x v ≡ true) e (order_equivalence.refl x))

  -- a test of equality answers what the order does
  pub order_ties : (test : X → X → Bool) → ((x y : X) → Decides (test x y) (x ≡ y)) → (x y : X) → test x y ≡ eq_by_cmp order x y
  order_ties test decides x y = one_answer (test x y) (eq_by_cmp order x y) (decides x y) (order_decides x y)
