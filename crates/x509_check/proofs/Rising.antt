-- Members whose elements rise in the order of bytes.
use Rattle.std.proofs.Common.{◌≡◌, ℕ, ◌-◌, ◌<◌, ◌≤◌, Bool, true, false, ◌&&◌, List, [], ◌∷◌, ◌++◌, length, take, Result, Ok, Err, if◌then◌else◌, refl, sym, ap, ◌∙◌, subst, arith, length-append}
use Rattle.std.specs.Cmp.{IsTotalOrder}
use Rattle.std.specs.Ordering.{is_lt}
use Rattle.std.specs.declared.cmp.Ordering.TheVariants.{Less}
use Rattle.std.proofs.lemmas.Bool.{and_parts, true≢false}
use Rattle.std.proofs.lemmas.List.{take_at}
use Rattle.std.specs.List.{AllByRecursion}
use Rattle.x509_check.specs.Checking.{checked}
use Rattle.x509_der.specs.Set.{is_below_all, is_rising, if_rising, set_reading}
use Rattle.x509_der.specs.SetLaws.{is_less}
use Rattle.x509_der.specs.Element.{element, limit}
use Rattle.x509_der.specs.Outcome.{◌>>=◌}
use Rattle.x509_der.specs.declared.error.ErrorKind.{ErrorKind}
use Rattle.x509_der.specs.declared.error.ErrorKind.TheVariants.{Malformed}
use Rattle.x509_der.specs.Frames.{field_at}
use Rattle.x509_der.specs.List.{joined, all_good, list_reading, with_front}
use Rattle.x509_der.specs.ListLaws.{list_lawful, first_read, none_read, ends, no_front}
use Rattle.x509_der.specs.Form.{Form, IsForm, spelling}
use Rattle.x509_der.specs.Writing.{Writing, plain, writes}
use Rattle.x509_der.specs.Order.{bytes_cmp, Order, IsOrder, HasEncoding, der_order}
use Rattle.x509_der.specs.Ordered.{der_lawful}

-- the texts of the members rise from the last one before them on
abbrev pub rises_after : {X : Type 0} → (X → List ℕ) → List ℕ → List X → Bool
rises_after text last [] = true
rises_after text last (x ∷ xs) = is_lt (bytes_cmp last (text x)) && rises_after text (text x) xs

abbrev pub if_so : {X : Type 0} → (List X → Bool) → List X → Result (List X) ErrorKind
if_so test xs = if test xs then Ok xs else Err Malformed

-- what is still to be found of members that follow others
abbrev pub still : {X : Type 0} → (X → List ℕ) → Bool → List ℕ → Result (List X) ErrorKind → Result Unit ErrorKind
still text rises last reading = checked (reading >>= if_so (λ xs. rises && rises_after text last xs))

-- ---- a walk over the members

and_further : (a b c : Bool) → (a && (b && c)) ≡ ((a && b) && c)
and_further true b c = refl
and_further false b c = refl

test_of : {X : Type 0} (xs ys : List X) (a b : Bool) → a ≡ b → checked (if a then Ok xs else Err Malformed) ≡ checked (if b then Ok ys else Err Malformed)
test_of xs ys true b e = rw (sym e) refl
test_of xs ys false b e = rw (sym e) refl

one_further : {X : Type 0} (text : X → List ℕ) (rises : Bool) (last : List ℕ) (v : X) (reading : Result (List X) ErrorKind) → still text rises last (with_front (v ∷ []) reading) ≡ still text (rises && is_lt (bytes_cmp last (text v))) (text v) reading
one_further text rises last v (Ok xs) = test_of (v ∷ xs) xs _ _ (and_further rises (is_lt (bytes_cmp last (text v))) (rises_after text (text v) xs))
one_further text rises last v (Err e) = refl

module _ {X : Type 0} (text : X → List ℕ) (read : ℕ → List ℕ → Result X ErrorKind) where
  pub step : (rises next : Bool) (last member bytes rest : List ℕ) (v : X) (total : Result Unit ErrorKind) → field_at read bytes ≡ Ok (v, rest) → member ≡ text v → next ≡ (rises && is_lt (bytes_cmp last member))
      → still text rises last (list_reading read bytes) ≡ total → still text next member (list_reading read rest) ≡ total
  step rises next last member bytes rest v total e is next-is so_far =
      rw (next-is, is) (sym (ap (still text rises last) (sym (first_read read bytes rest v e)) ∙ one_further text rises last v (list_reading read rest)) ∙ so_far)

-- ---- the same as by the order of the values

below_first : {X : Type 0} {R : Order X} (o : IsTotalOrder R) (p x : X) (xs : List X) → is_lt (R p x) ≡ true → is_below_all R x xs ≡ true → is_below_all R p xs ≡ true
unfolding is_below_all
below_first o p x [] a b = refl
below_first {X} {R} o p x (y ∷ ys) a b =
    let parts = and_parts (is_lt (R x y)) (is_below_all R x ys) b in
    let less : R p y ≡ Less = o.trans p x y (is_less (R p x) a) (is_less (R x y) parts.0) in
    rw (less, below_first o p x ys a parts.1) refl

agree : (a b c r : Bool) → (a ≡ true → c ≡ true → b ≡ true) → (a && (c && r)) ≡ ((a && b) && (c && r))
agree false b c r h = refl
agree true true c r h = refl
agree true false true r h = absurd (true≢false (sym (h refl refl)))
agree true false false r h = refl

have_encodings : {X : Type 0} (f : Form X) (w : Writing X) → w ≡ plain → (xs : List X) → all_good f.good xs → length (joined (spelling f) xs) ≤ limit → AllByRecursion (HasEncoding f (writes w)) xs
unfolding joined all_good
have_encodings f w is [] g l = tt
have_encodings f w is (x ∷ xs) g l =
    let whole = length-append (spelling f x) (joined (spelling f) xs) in
    ((g.0, ap (λ v. writes v x) is, omega arith), have_encodings f w is xs g.1 (omega arith))

module _ {X : Type 0} (f : Form X) (w : Writing X) (order : Order X) (ordered : IsOrder f (writes w) order) where
  rises_from : (p : X) (xs : List X) → HasEncoding f (writes w) p → AllByRecursion (HasEncoding f (writes w)) xs → rises_after (spelling f) (spelling f p) xs ≡ is_rising (der_order f (writes w) order) (p ∷ xs)
  unfolding is_below_all is_rising
  rises_from p [] hp h = refl
  rises_from p (x ∷ xs) hp h =
      let d = der_lawful f (writes w) order ordered in
      rw (← d.agrees p x hp h.0, rises_from x xs h.0 h.1)
      (agree (is_lt (der_order f (writes w) order p x)) (is_below_all (der_order f (writes w) order) p xs) (is_below_all (der_order f (writes w) order) x xs) (is_rising (der_order f (writes w) order) xs) (below_first d.total p x xs))

  rises_first : (xs : List X) → AllByRecursion (HasEncoding f (writes w)) xs → rises_after (spelling f) [] xs ≡ is_rising (der_order f (writes w) order) xs
  unfolding is_rising element
  rises_first [] h = refl
  rises_first (x ∷ xs) h = rises_from x xs h.0 h.1

  -- the members rise by their texts where they rise by their order
  pub set_same : {Q : ErrorKind → Type 0} → IsForm Q f → w ≡ plain → (bytes : List ℕ) → length bytes ≤ limit → still (spelling f) true [] (list_reading f.reading bytes) ≡ checked (set_reading (der_order f (writes w) order) f.reading bytes)
  unfolding set_reading
  set_same h is bytes within = go (list_reading f.reading bytes) refl
    where
      go : (reading : Result (List X) ErrorKind) → list_reading f.reading bytes ≡ reading → still (spelling f) true [] reading ≡ checked (reading >>= if_rising (der_order f (writes w) order))
      go (Ok xs) e =
          let s = (list_lawful f h).sound bytes xs e in
          test_of xs xs _ _ (rises_first xs (have_encodings f w is xs s.0 (subst (λ (b : List ℕ). length b ≤ limit) s.1 within)))
      go (Err d) e = refl

-- ---- the end of the walk

module _ {X : Type 0} (text : X → List ℕ) (read : ℕ → List ℕ → Result X ErrorKind) where
  pub ends_rising : (last bytes : List ℕ) (total : Result Unit ErrorKind) → length bytes ≡ 0 → still text true last (list_reading read bytes) ≡ total → total ≡ Ok tt
  ends_rising last bytes total none so_far = sym so_far ∙ ap (still text true last) (none_read read bytes none)

  pub ends_falling : (last bytes : List ℕ) (total : Result Unit ErrorKind) → length bytes ≡ 0 → still text false last (list_reading read bytes) ≡ total → total ≡ Err Malformed
  ends_falling last bytes total none so_far = sym so_far ∙ ap (still text false last) (none_read read bytes none)

  pub ends_refused : (rises : Bool) (last bytes : List ℕ) (e : ErrorKind) (total : Result Unit ErrorKind) → field_at read bytes ≡ Err e → 0 < length bytes → still text rises last (list_reading read bytes) ≡ total → total ≡ Err e
  ends_refused rises last bytes e total h some so_far = sym so_far ∙ ap (still text rises last) (ends read [] bytes e (list_reading read bytes) h some (no_front (list_reading read bytes)))

-- the octets in front of what is left
pub front_of : (bytes text rest : List ℕ) → bytes ≡ text ++ rest → take (length bytes - length rest) bytes ≡ text
front_of bytes text rest e =
    let count : length bytes - length rest ≡ length text = omega (arith, ap length e, length-append text rest) in
    ap (take (length bytes - length rest)) e ∙ take_at text rest (length bytes - length rest) (sym count)
