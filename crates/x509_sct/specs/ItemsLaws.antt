-- The laws of items one after the other.
use Rattle.std.proofs.Common.{◌≡◌, ℕ, zero, suc, ◌<◌, ◌≤◌, List, [], ◌∷◌, ◌++◌, length, Result, Ok, Err, inl, inr, refl, sym, ap, subst, ◌∙◌, append_assoc, length-append, arith}
use Rattle.std.proofs.lemmas.List.{append-nil}
use Rattle.x509_sct.specs.declared.tls.error.TlsError.{TlsError}
use Rattle.x509_sct.specs.declared.tls.error.TlsError.TheVariants.{EndOfStream, UnknownValue, TrailingData, InvalidVectorLength, Memory}
use Rattle.x509_sct.specs.Outcome.{◌>>=◌, IsRefusal}
use Rattle.x509_sct.specs.FieldReading.{Reading, octets_at, counted_at, struct_at}
use Rattle.x509_sct.specs.Form.{Form, AreOctets, IsForm}
use Rattle.x509_sct.specs.FormLaws.{taken}
use Rattle.x509_sct.specs.Items.{joined, AreGood, AreItems, ItemsFault, items_at, items_reading, Moves, with_front}
use Rattle.x509_sct.specs.Steps.{made, ok_is, bind_ok, bind_err, octets_after}

-- ---- what moves on

pub counted_moves : (count : Reading ℕ) → Moves count → Moves (counted_at count)
unfolding counted_at
counted_moves count moves input x rest e =
    let b = bind_ok (count input) (λ n. octets_at n.0 n.1) (x, rest) e in
    let t = taken b.0.0 b.0.1 x rest b.2 in
    let m = moves input b.0.0 b.0.1 b.1 in
    omega (arith, m, ap length t.1, length-append x rest)

pub struct_moves : {X Y : Type 0} (from : X → Y) (fields : Reading X) → Moves fields → Moves (struct_at from fields)
unfolding struct_at
struct_moves {X} {Y} from fields moves input y rest e =
    let b = bind_ok (fields input) (λ x. Ok (from x.0, x.1)) (y, rest) e in
    let r : b.0.1 ≡ rest = ap (λ (x : Y × List ℕ). x.1) (ok_is (from b.0.0, b.0.1) (y, rest) b.2) in
    rw (← r) (moves input b.0.0 b.0.1 b.1)

-- ---- enough steps are as good as any more

abbrev next : {X : Type 0} → Result (X × List ℕ) TlsError → (List ℕ → Result (List X) TlsError) → Result (List X) TlsError
next first others = first >>= λ x. others x.1 >>= λ xs. Ok (x.0 ∷ xs)

next_same : {X : Type 0} (n m : ℕ) (read : Reading X) → Moves read → (b : ℕ) (bs : List ℕ) → length bs ≤ n → length bs ≤ m
    → ((c : List ℕ) → length c ≤ n → length c ≤ m → items_at n read c ≡ items_at m read c) → (r : Result (X × List ℕ) TlsError) → read (b ∷ bs) ≡ r → next r (items_at n read) ≡ next r (items_at m read)
next_same n m read moves b bs h k same (Ok x) e =
    let s = moves (b ∷ bs) x.0 x.1 e in
    let t : items_at n read x.1 ≡ items_at m read x.1 = same x.1 (omega arith) (omega arith) in
    rw t refl
next_same n m read moves b bs h k same (Err d) e = refl

items_same : {X : Type 0} (n m : ℕ) (read : Reading X) → Moves read → (input : List ℕ) → length input ≤ n → length input ≤ m → items_at n read input ≡ items_at m read input
unfolding items_at
items_same n m read moves [] h k = refl
items_same zero m read moves (b ∷ bs) h k = absurd (omega arith)
items_same (suc n) zero read moves (b ∷ bs) h k = absurd (omega arith)
items_same (suc n) (suc m) read moves (b ∷ bs) h k = next_same n m read moves b bs (omega arith) (omega arith) (λ c i j. items_same n m read moves c i j) (read (b ∷ bs)) refl

step_again : {X : Type 0} (n : ℕ) (read : Reading X) → Moves read → (input rest : List ℕ) (v : X) (r : Result (List X) TlsError) → read input ≡ Ok (v, rest) → items_at n read rest ≡ r → items_at (suc n) read input ≡ (r >>= λ xs. Ok (v ∷ xs))
unfolding items_at
step_again n read moves [] rest v r e i = absurd (let s = moves [] v rest e in omega arith)
step_again n read moves (b ∷ bs) rest v r e i = rw (e, i) refl

-- ---- what is read, and what is refused

items_sound_at : {X : Type 0} (p : Form X) → IsForm p → (n : ℕ) (input : List ℕ) (vs : List X) → AreOctets input → items_at n p.reading input ≡ Ok vs → AreItems p vs input
unfolding items_at
items_sound_at {X} p h n [] vs o e = subst (λ (x : List X). AreItems p x []) (ok_is [] vs e) (tt, refl)
items_sound_at p h zero (b ∷ bs) vs o e = absurd (let k = e in cc)
items_sound_at {X} p h (suc n) (b ∷ bs) vs o e =
    let a = bind_ok (p.reading (b ∷ bs)) (λ x. items_at n p.reading x.1 >>= λ xs. Ok (x.0 ∷ xs)) vs e in
    let c = bind_ok (items_at n p.reading a.0.1) (λ xs. Ok (a.0.0 ∷ xs)) vs a.2 in
    let s = h.sound (b ∷ bs) a.0.0 a.0.1 o a.1 in
    let t = items_sound_at p h n a.0.1 c.0 (octets_after (b ∷ bs) (p.bytes a.0.0) a.0.1 s.1 o) c.1 in
    let all : b ∷ bs ≡ p.bytes a.0.0 ++ joined p c.0 = s.1 ∙ ap (λ (x : List ℕ). p.bytes a.0.0 ++ x) t.1 in
    subst (λ (x : List X). AreItems p x (b ∷ bs)) (ok_is (a.0.0 ∷ c.0) vs c.2) ((s.0, t.0), all)

items_complete_at : {X : Type 0} (p : Form X) → IsForm p → Moves p.reading → (n : ℕ) (vs : List X) → AreGood p vs → length (joined p vs) ≤ n → items_at n p.reading (joined p vs) ≡ Ok vs
unfolding items_at
items_complete_at p h moves n [] g l = refl
items_complete_at p h moves zero (v ∷ vs) g l =
    let s = moves (p.bytes v ++ joined p vs) v (joined p vs) (h.complete v (joined p vs) g.0) in
    absurd (omega arith)
items_complete_at p h moves (suc n) (v ∷ vs) g l =
    let e = h.complete v (joined p vs) g.0 in
    let s = moves (p.bytes v ++ joined p vs) v (joined p vs) e in
    step_again n p.reading moves (p.bytes v ++ joined p vs) (joined p vs) v (Ok vs) e (items_complete_at p h moves n vs g.1 (omega arith))

items_first_at : {X : Type 0} (p : Form X) → IsForm p → Moves p.reading → (n : ℕ) (vs : List X) (rest : List ℕ) (e : TlsError) → AreGood p vs → 0 < length rest → p.fault rest e → length (joined p vs ++ rest) ≤ n → items_at n p.reading (joined p vs ++ rest) ≡ Err e
unfolding items_at
items_first_at p h moves n [] [] e g left f l = absurd (omega arith)
items_first_at p h moves zero [] (b ∷ rest) e g left f l = absurd (omega arith)
items_first_at p h moves (suc n) [] (b ∷ rest) e g left f l = rw (h.first (b ∷ rest) e f) refl
items_first_at p h moves zero (v ∷ vs) rest e g left f l =
    absurd (omega (arith, left, length-append (p.bytes v ++ joined p vs) rest))
items_first_at p h moves (suc n) (v ∷ vs) rest e g left f l =
    let all : (p.bytes v ++ joined p vs) ++ rest ≡ p.bytes v ++ (joined p vs ++ rest) = append_assoc (p.bytes v) (joined p vs) rest in
    let c = h.complete v (joined p vs ++ rest) g.0 in
    let s = moves (p.bytes v ++ (joined p vs ++ rest)) v (joined p vs ++ rest) c in
    ap (items_at (suc n) p.reading) all ∙ step_again n p.reading moves (p.bytes v ++ (joined p vs ++ rest)) (joined p vs ++ rest) v (Err e) c (items_first_at p h moves n vs rest e g.1 left f (omega (arith, l, s, ap length all)))

items_faulty_at : {X : Type 0} (p : Form X) → IsForm p → Moves p.reading → (n : ℕ) (input : List ℕ) (e : TlsError) → AreOctets input → length input ≤ n → items_at n p.reading input ≡ Err e → ItemsFault p input e
unfolding items_at
items_faulty_at p h moves n [] e o l r = absurd (let k = r in cc)
items_faulty_at p h moves zero (b ∷ bs) e o l r = absurd (omega arith)
items_faulty_at p h moves (suc n) (b ∷ bs) e o l r =
    elim (bind_err (p.reading (b ∷ bs)) (λ x. items_at n p.reading x.1 >>= λ xs. Ok (x.0 ∷ xs)) e r) [
      | inl k ↦ record { values = []; rest = b ∷ bs; good = tt; front = refl; left = omega arith; fault = h.faulty (b ∷ bs) e o k }
      | inr k ↦
          let s = h.sound (b ∷ bs) k.0.0 k.0.1 o k.1 in
          let m = moves (b ∷ bs) k.0.0 k.0.1 k.1 in
          elim (bind_err (items_at n p.reading k.0.1) (λ xs. Ok (k.0.0 ∷ xs)) e k.2) [
            | inl j ↦
                let i = items_faulty_at p h moves n k.0.1 e (octets_after (b ∷ bs) (p.bytes k.0.0) k.0.1 s.1 o) (omega arith) j in
                record {
                  values = k.0.0 ∷ i.values;
                  rest = i.rest;
                  good = (s.0, i.good);
                  front = s.1 ∙ ap (λ (x : List ℕ). p.bytes k.0.0 ++ x) i.front ∙ sym (append_assoc (p.bytes k.0.0) (joined p i.values) i.rest);
                  left = i.left;
                  fault = i.fault;
                }
            | inr j ↦ absurd (let x = j.2 in cc)
          ]
    ]

-- Exactly the inputs that are items are read, as these items; of any other the first fault is told.
pub record IsItems {X : Type 0} (p : Form X) : Type 0 where
  pub sound : (input : List ℕ) (vs : List X) → AreOctets input → items_reading p.reading input ≡ Ok vs → AreItems p vs input
  pub complete : (vs : List X) → AreGood p vs → items_reading p.reading (joined p vs) ≡ Ok vs
  pub faulty : (input : List ℕ) (e : TlsError) → AreOctets input → items_reading p.reading input ≡ Err e → ItemsFault p input e
  pub first : (input : List ℕ) (e : TlsError) → ItemsFault p input e → items_reading p.reading input ≡ Err e

pub items_lawful : {X : Type 0} (p : Form X) → IsForm p → Moves p.reading → IsItems p
items_lawful p h moves = record {
  sound = λ input vs o e. items_sound_at p h (length input) input vs o e;
  complete = λ vs g. items_complete_at p h moves (length (joined p vs)) vs g (omega arith);
  faulty = λ input e o r. items_faulty_at p h moves (length input) input e o (omega arith) r;
  first = λ input e f. rw f.front (items_first_at p h moves (length (joined p f.values ++ f.rest)) f.values f.rest e f.good f.left f.fault (omega arith));
}

-- ---- the loop that reads them

regroup : {X : Type 0} (front : List X) (v : X) (read : Result (List X) TlsError) → with_front front (read >>= λ xs. Ok (v ∷ xs)) ≡ with_front (front ++ v ∷ []) read
regroup {X} front v (Ok xs) = ap (λ (ys : List X). made ys) (sym (append_assoc front (v ∷ []) xs))
regroup front v (Err e) = refl

pub goes_on : {X : Type 0} (read : Reading X) → Moves read → (front : List X) (input rest : List ℕ) (v : X) (total : Result (List X) TlsError)
    → read input ≡ Ok (v, rest) → with_front front (items_reading read input) ≡ total → with_front (front ++ v ∷ []) (items_reading read rest) ≡ total
unfolding items_at
goes_on read moves front [] rest v total e so_far = absurd (let s = moves [] v rest e in omega arith)
goes_on read moves front (b ∷ bs) rest v total e so_far =
    let s = moves (b ∷ bs) v rest e in
    let same : items_at (length bs) read rest ≡ items_at (length rest) read rest = items_same (length bs) (length rest) read moves rest (omega arith) (omega arith) in
    let step : items_at (suc (length bs)) read (b ∷ bs) ≡ (items_at (length rest) read rest >>= λ xs. Ok (v ∷ xs)) = rw (e, same) refl in
    sym (ap (with_front front) step ∙ regroup front v (items_at (length rest) read rest)) ∙ so_far

ends : {X : Type 0} (read : Reading X) (front : List X) (input : List ℕ) (e : TlsError) (total : Result (List X) TlsError) → read input ≡ Err e → 0 < length input → with_front front (items_reading read input) ≡ total → total ≡ Err e
unfolding items_at
ends read front [] e total h lt so_far = absurd (omega arith)
ends read front (b ∷ bs) e total h lt so_far = sym so_far ∙ rw h refl

pub all_read : {X : Type 0} (read : Reading X) (front : List X) (input : List ℕ) (total : Result (List X) TlsError) → length input ≡ 0 → with_front front (items_reading read input) ≡ total → total ≡ Ok front
unfolding items_at
all_read {X} read front [] total h so_far = sym so_far ∙ ap (λ (ys : List X). made ys) (append-nil front)
all_read read front (b ∷ bs) total h so_far = absurd (omega arith)

pub ends_refused : {X : Type 0} (e : TlsError) (read : Reading X) (front : List X) (input : List ℕ) (total : Result (List X) TlsError) → IsRefusal e (read input) → 0 < length input → with_front front (items_reading read input) ≡ total → IsRefusal e total
ends_refused Memory read front input total h lt so_far = tt
ends_refused EndOfStream read front input total h lt so_far = ends read front input EndOfStream total h lt so_far
ends_refused (UnknownValue n) read front input total h lt so_far = ends read front input (UnknownValue n) total h lt so_far
ends_refused TrailingData read front input total h lt so_far = ends read front input TrailingData total h lt so_far
ends_refused InvalidVectorLength read front input total h lt so_far = ends read front input InvalidVectorLength total h lt so_far
