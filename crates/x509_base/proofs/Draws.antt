-- Fills, one after the other, and the number of one.
use Rattle.std.proofs.Common.{◌≡◌, ◌≢◌, ℕ, ◌+◌, ◌<◌, List, ◌++◌, length, take, drop, ◌-◌, ◌≤◌, Result, Ok, Err, length-append, length-drop, refl, sym, ap, ◌∙◌, add-one, arith, get_or, below_more}
use Rattle.std.specs.Prelude.{IfOk, IfErr, IsOk}
use Rattle.std.proofs.lemmas.Bool.{false≢true}
use Rattle.std.proofs.lemmas.List.{length-take}
use Rattle.std.proofs.Math.Seq.{take-append_seam}
use Rattle.std.proofs.lemmas.Slice.{take-put_mid}
use borrow.Rule.Slice.PartMut.{put_mid}
use Rattle.x509_der.specs.declared.error.Error.{Error}
use Rattle.x509_base.specs.Serial.{number_content}
use Rattle.x509_prim.proofs.NumberTypes.{length_content}
use Rattle.rand_core.specs.Stream.{Stream, fill_bytes}
use Rattle.x509_base.specs.Fills.{after_fills, fill_after, BeginWithZero, Draws}

pub no_fills : (size : ℕ) (source : Stream) → source ≡ after_fills size source 0
unfolding after_fills
no_fills size source = refl

one_more : (size : ℕ) (source : Stream) (count : ℕ) → after_fills size source (count + 1) ≡ (fill_bytes size (after_fills size source count)).1
unfolding after_fills
one_more size source count = rw add-one refl

-- what a fill gives and leaves
module _ (size : ℕ) (source before left : Stream) (fill : List ℕ) (count : ℕ) (was : before ≡ after_fills size source count) (filled : (fill, left) ≡ fill_bytes size before) where
  gave : fill ≡ fill_after size source count
  gave = ap (λ (p : List ℕ × Stream). p.0) filled ∙ ap (λ (s : Stream). (fill_bytes size s).0) was

  pub leaves : left ≡ after_fills size source (count + 1)
  leaves = ap (λ (p : List ℕ × Stream). p.1) filled ∙ ap (λ (s : Stream). (fill_bytes size s).1) was ∙ sym (one_more size source count)

  pub drawn : BeginWithZero size source count → count < 64 → get_or fill 0 0 ≢ 0 → Draws size source fill left
  drawn zeros within other = record { earlier = count; within = within; zeros = zeros; is = gave; other = other; rest = leaves }

  pub another_zero : BeginWithZero size source count → get_or fill 0 0 ≡ 0 → BeginWithZero size source (count + 1)
  another_zero zeros here = below_more _ _ zeros (ap (λ (f : List ℕ). get_or f 0 0) (sym gave) ∙ here)

-- ---- the octets of a number

-- the room behind the prefix
pub room : (prefix copy zeros : List ℕ) (n : ℕ) → length zeros ≡ 19 → copy ≡ prefix → length prefix + n ≤ 19
    → length (take (length prefix + n - length prefix) (drop (length prefix) (copy ++ drop (length prefix) zeros))) ≡ n
room prefix copy zeros n all same fits = rw same (omega (arith, length-take {A = ℕ}, length-drop {A = ℕ}, length-append {A = ℕ}))

-- the prefix and the fill
pub filled_buffer : (prefix copy zeros fill : List ℕ) (j n : ℕ) → length zeros ≡ 19 → copy ≡ prefix → length prefix + n ≤ 19 → length fill ≡ n
    → take (length prefix + n) (put_mid (length prefix) j (copy ++ drop (length prefix) zeros) fill) ≡ prefix ++ fill
filled_buffer prefix copy zeros fill j n all same fits size =
    let room : length prefix ≤ length (prefix ++ drop (length prefix) zeros) = omega (arith, length-append {A = ℕ}) in
    rw same (take-put_mid (length prefix) j (prefix ++ drop (length prefix) zeros) fill (length prefix + n) (omega arith) room
    ∙ ap (λ (front : List ℕ). front ++ fill) (take-append_seam prefix (drop (length prefix) zeros)))

pub made_of : (r : Result (List ℕ) Error) (octets prefix fill : List ℕ) (n : ℕ) (source left : Stream)
    → IfOk r (λ serial. serial ≡ number_content octets) → octets ≡ prefix ++ fill → Draws n source fill left
    → IfOk r (λ serial. (x : List ℕ) × Draws n source x left × (serial ≡ number_content (prefix ++ x)))
made_of (Ok serial) octets prefix fill n source left h is draws = (fill, draws, h ∙ ap number_content is)
made_of (Err e) octets prefix fill n source left h is draws = tt

pub never_refused : (r : Result (List ℕ) Error) (octets prefix fill : List ℕ) (Refusal : Error → Type 0)
    → (0 < length octets → length (number_content octets) ≤ 20 → IsOk r)
    → octets ≡ prefix ++ fill → 0 < length fill → length prefix + length fill ≤ 19 → IfErr r Refusal
never_refused (Ok serial) octets prefix fill Refusal h is some few = tt
never_refused (Err e) octets prefix fill Refusal h is some few =
    let all : length octets ≡ length prefix + length fill = ap length is ∙ length-append prefix fill in
    absurd (false≢true (h (omega arith) (omega (arith, length_content octets))))
