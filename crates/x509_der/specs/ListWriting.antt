-- Members are written from the last to the first.
use Rattle.std.specs.Prelude.{◌≡◌, ℕ, zero, suc, ◌+◌, ◌-◌, ◌≤◌, ◌<◌, List, [], ◌∷◌, ◌++◌, length, drop, get_or, None, Result, Ok, Err, refl}
use Rattle.std.proofs.Common.{add-one, arith, length-drop}
use Rattle.std.proofs.lemmas.List.{nil_from_length}
use Rattle.std.proofs.Math.Seq.{drop-cons}
use Rattle.x509_der.specs.declared.error.Error.{Error}
use Rattle.x509_der.specs.Form.{Form, spelling}
use Rattle.x509_der.specs.Writing.{Written, Writing, plain, respelling, writes, Kind, IsKind, Puts, first, IsStable}
use Rattle.x509_der.specs.StableLaws.{first_none, plain_stable}
use Rattle.x509_der.specs.WritingLaws.{puts_after, puts_not, puts_nothing}
use Rattle.x509_der.specs.List.{members_writing, joined, all_good, members_value, members_refusal, members_text}

module _ {X : Type 0} (f : Form X) (w : X → Written X) where
  -- what is left from a place on, where item stands there
  text_left : (xs : List X) (i : ℕ) (x : X) → i < length xs → x ≡ get_or xs i x → members_text f w (drop i xs) ≡ spelling f (w x).value ++ members_text f w (drop (i + 1) xs)
  unfolding joined members_value
  text_left xs i x lt e = rw (add-one, drop-cons xs i x, ← e) refl

  refusal_left : (xs : List X) (i : ℕ) (x : X) → i < length xs → x ≡ get_or xs i x → members_refusal w (drop i xs) ≡ first (members_refusal w (drop (i + 1) xs)) (w x).refusal
  unfolding members_refusal
  refusal_left xs i x lt e = rw (add-one, drop-cons xs i x, ← e) refl

  -- none are left
  pub puts_end : {R : Type 0} (k : Kind R) → IsKind k → (xs : List X) (room : R) → Puts k (members_text f w (drop (length xs) xs)) (members_refusal w (drop (length xs) xs)) (Ok tt) room room
  unfolding joined members_value members_refusal
  puts_end k h xs room = let nil : drop (length xs) xs ≡ [] = nil_from_length (drop (length xs) xs) (omega (arith, length-drop (length xs) xs)) in rw nil (puts_nothing k h room)

  -- one more in front
  pub puts_member : {R : Type 0} (k : Kind R) → IsKind k → (xs : List X) (i : ℕ) (x : X) (r : Result Unit Error) (old mid new : R) → 0 < i → i ≤ length xs → x ≡ get_or xs (i - 1) x
      → Puts k (members_text f w (drop i xs)) (members_refusal w (drop i xs)) (Ok tt) old mid → Puts k (spelling f (w x).value) (w x).refusal r mid new
      → Puts k (members_text f w (drop (i - 1) xs)) (members_refusal w (drop (i - 1) xs)) r old new
  puts_member k h xs i x r old mid new pos le e s t =
      let lt : i - 1 < length xs = omega arith in
      let back : (i - 1) + 1 ≡ i = omega arith in
      rw (text_left xs (i - 1) x lt e, refusal_left xs (i - 1) x lt e, back) (puts_after k h (spelling f (w x).value) (members_text f w (drop i xs)) (w x).refusal (members_refusal w (drop i xs)) tt r old mid new s t)

  -- what is refused from a place on refuses the whole
  pub puts_no_members : {R : Type 0} (k : Kind R) (i : ℕ) (xs : List X) (e : Error) (old new : R) → Puts k (members_text f w (drop i xs)) (members_refusal w (drop i xs)) (Err e) old new → Puts k (members_text f w xs) (members_refusal w xs) (Err e) old new
  unfolding joined members_value members_refusal
  puts_no_members k zero xs e old new s = s
  puts_no_members k (suc i) [] e old new s = s
  puts_no_members k (suc i) (x ∷ xs) e old new s = puts_not k (spelling f (w x).value) (members_text f w xs) (w x).refusal (members_refusal w xs) e old new (puts_no_members k i xs e old new s)

-- ---- members that are written as they are

value_plain : {X : Type 0} (xs : List X) → members_value (writes plain) xs ≡ xs
unfolding members_value
value_plain [] = refl
value_plain (x ∷ xs) = rw (value_plain xs) refl

refusal_plain : {X : Type 0} (xs : List X) → members_refusal {X = X} (writes plain) xs ≡ None
unfolding members_refusal
refusal_plain [] = refl
refusal_plain (x ∷ xs) = rw (refusal_plain xs) refl

pub puts_list : {X R : Type 0} (f : Form X) (w : Writing X) (k : Kind R) (xs : List X) (r : Result Unit Error) (old new : R) → Puts k (members_text f (writes w) xs) (members_refusal (writes w) xs) r old new → Puts k (joined (spelling f) (writes (members_writing w) xs).value) (writes (members_writing w) xs).refusal r old new
puts_list f plain k xs r old new h = rw (value_plain xs, refusal_plain xs) at h
puts_list f (respelling w) k xs r old new h = h

-- ---- members that are written once more

module _ {X : Type 0} (good : X → Type 0) (by : X → Written X) (stable : IsStable good (respelling by)) where
  kept_members : (xs : List X) → all_good good xs → members_refusal by xs ≡ None → all_good good (members_value by xs)
  unfolding all_good members_value members_refusal
  kept_members [] g free = tt
  kept_members (x ∷ xs) g free = let each = first_none _ _ free in (stable.kept x g.0 each.1, kept_members xs g.1 each.0)

  again_members : (xs : List X) → all_good good xs → members_refusal by xs ≡ None → (members_value by (members_value by xs) ≡ members_value by xs) × (members_refusal by (members_value by xs) ≡ None)
  unfolding all_good members_value members_refusal
  again_members [] g free = (refl, refl)
  again_members (x ∷ xs) g free =
      let each = first_none _ _ free in
      let more = again_members xs g.1 each.0 in
      rw (stable.again x g.0 each.1, more.0, more.1) (refl, refl)

pub members_stable : {X : Type 0} {good : X → Type 0} (writing : Writing X) → IsStable good writing → IsStable (all_good good) (members_writing writing)
members_stable plain stable = plain_stable
members_stable {X} {good} (respelling by) stable = record {
  kept = kept_members good by stable;
  again = λ xs g free. let same = again_members good by stable xs g free in rw (same.0, same.1) refl;
}
