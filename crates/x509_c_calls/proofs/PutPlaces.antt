-- What is put into places one after the other, from the first on.
use Rattle.std.proofs.Common.{◌≡◌, ◌∙◌, ◌<◌, ◌≤◌, ◌+◌, ℕ, List, ◌++◌, length, take, drop, get_or, refl, ap, sym, subst, arith}
use Rattle.std.proofs.lemmas.List.{drop-drop, drop-set-lt, length-set, length-take-le, take-append-drop, take_all, take_more_set}
use Rattle.std.proofs.Math.ListN.{set}
use Rattle.std.specs.List.{AllZip}
use Rattle.x509_c_calls.proofs.FoundPlaces.{pairs_more}

-- the first i of them hold of those in these places, which have all others as they were
pub record ArePut {A B : Type 0} (R : A → B → Type 0) (xs : List A) (was is : List B) (i : ℕ) : Type 0 where
  pub long : length is ≡ length was
  pub each : AllZip R (take i xs) (take i is)
  pub behind : drop i is ≡ drop i was

module _ {A B : Type 0} (R : A → B → Type 0) (xs : List A) (was : List B) where
  pub none_put : ArePut R xs was was 0
  none_put = record { long = refl; each = tt; behind = refl }

  -- one more
  pub one_put : (is : List B) (i : ℕ) (d : A) (y : B) → i < length xs → length xs ≤ length was → R (get_or xs i d) y → ArePut R xs was is i → ArePut R xs was (set is i y) (i + 1)
  one_put is i d y less fit one h =
      let within : i < length is = omega (arith, h.long, less, fit) in record {
        long = length-set is i y ∙ h.long;
        each = pairs_more R xs i d (take i is) (take (i + 1) (set is i y)) y less h.each one (take_more_set is i y within);
        behind = drop-set-lt (i + 1) is i y (omega arith) ∙ sym (drop-drop 1 i is) ∙ ap (drop 1) h.behind ∙ drop-drop 1 i was;
      }

  -- all of them
  pub all_put : (is : List B) (i : ℕ) → length xs ≤ i → i ≤ length was → ArePut R xs was is i → AllZip R xs (take i is) × (is ≡ take i is ++ drop (length (take i is)) was)
  all_put is i all fit h = (
    subst (λ zs. AllZip R zs (take i is)) (take_all i xs all) h.each,
    sym (take-append-drop i is) ∙ ap (λ zs. take i is ++ zs) (h.behind ∙ ap (λ m. drop m was) (sym (length-take-le i is (omega (arith, h.long, fit))))),
  )
