-- Members one after the other are read as they are spelled.
use Rattle.std.proofs.Common.{◌≡◌, ℕ, zero, suc, ◌<◌, ◌≤◌, ◌⊎◌, List, [], ◌∷◌, ◌++◌, length, Result, Ok, Err, refl, sym, ap, subst, ◌∙◌, append_assoc, arith, inl, inr, length-append}
use Rattle.std.proofs.lemmas.List.{append-nil}
use Rattle.x509_der.specs.declared.error.ErrorKind.{ErrorKind}
use Rattle.x509_der.specs.declared.error.ErrorKind.TheVariants.{Malformed}
use Rattle.x509_der.specs.declared.error.ErrorKind.TheVariants as errors
use Rattle.x509_der.specs.Outcome.{◌>>=◌, IsRefusal}
use Rattle.x509_der.specs.OutcomeLaws.{ok_is, bind_ok, bind_err}
use Rattle.x509_der.specs.Element.{element}
use Rattle.x509_der.specs.ElementReading.{piece_at}
use Rattle.x509_der.specs.ElementLaws.{piece_at-sound}
use Rattle.x509_der.specs.Form.{Form, IsForm, IsContents, spelling}
use Rattle.x509_der.specs.Frames.{field_at}
use Rattle.x509_der.specs.FrameLaws.{field_sound, field_complete, field_refused}
use Rattle.x509_der.specs.List.{joined, all_good, members_at, list_reading, list_of, with_front}

pub field_shorter : {X : Type 0} (read : ℕ → List ℕ → Result X ErrorKind) (bytes : List ℕ) (v : X) (rest : List ℕ) → field_at read bytes ≡ Ok (v, rest) → length rest < length bytes
unfolding field_at element
field_shorter {X} read bytes v rest e =
    let a = bind_ok (piece_at bytes) (λ p. read p.tag p.content >>= λ v. Ok (v, p.rest)) (v, rest) e in
    let p = a.0 in
    let b = bind_ok (read p.tag p.content) (λ v. Ok (v, p.rest)) (v, rest) a.2 in
    let rest-is : p.rest ≡ rest = ap (λ (x : X × List ℕ). x.1) (ok_is (b.0, p.rest) (v, rest) b.2) in
    let parts : bytes ≡ element p.tag p.content ++ p.rest = (piece_at-sound bytes p a.1).0 in
    rw (← rest-is) (omega (arith, ap length parts, length-append (element p.tag p.content) p.rest))

abbrev next : {X : Type 0} → Result (X × List ℕ) ErrorKind → (List ℕ → Result (List X) ErrorKind) → Result (List X) ErrorKind
next first others = first >>= λ x. others x.1 >>= λ xs. Ok (x.0 ∷ xs)

-- enough is as good as any more
next_same : {X : Type 0} (n m : ℕ) (read : ℕ → List ℕ → Result X ErrorKind) (b : ℕ) (bs : List ℕ) → length bs ≤ n → length bs ≤ m
    → ((c : List ℕ) → length c ≤ n → length c ≤ m → members_at n read c ≡ members_at m read c) → (r : Result (X × List ℕ) ErrorKind) → field_at read (b ∷ bs) ≡ r → next r (members_at n read) ≡ next r (members_at m read)
next_same n m read b bs h k same (Ok x) e =
    let s = field_shorter read (b ∷ bs) x.0 x.1 e in
    let t : members_at n read x.1 ≡ members_at m read x.1 = same x.1 (omega arith) (omega arith) in
    rw t refl
next_same n m read b bs h k same (Err d) e = refl

pub members_same : {X : Type 0} (n m : ℕ) (read : ℕ → List ℕ → Result X ErrorKind) (bytes : List ℕ) → length bytes ≤ n → length bytes ≤ m → members_at n read bytes ≡ members_at m read bytes
unfolding members_at
members_same n m read [] h k = refl
members_same zero m read (b ∷ bs) h k = absurd (omega arith)
members_same (suc n) zero read (b ∷ bs) h k = absurd (omega arith)
members_same (suc n) (suc m) read (b ∷ bs) h k =
    next_same n m read b bs (omega arith) (omega arith) (λ c i j. members_same n m read c i j) (field_at read (b ∷ bs)) refl

members_sound : {X : Type 0} {R : ErrorKind → Type 0} (f : Form X) (h : IsForm R f) (n : ℕ) (bytes : List ℕ) (vs : List X) → members_at n f.reading bytes ≡ Ok vs → all_good f.good vs × (bytes ≡ joined (spelling f) vs)
unfolding members_at joined all_good
members_sound {X} f h n [] vs e = subst (λ (x : List X). all_good f.good x × ([] ≡ joined (spelling f) x)) (ok_is [] vs e) (tt, refl)
members_sound {X} f h zero (b ∷ bs) vs e = absurd cc
members_sound {X} f h (suc n) (b ∷ bs) vs e =
    let a = bind_ok (field_at f.reading (b ∷ bs)) (λ x. members_at n f.reading x.1 >>= λ xs. Ok (x.0 ∷ xs)) vs e in
    let c = bind_ok (members_at n f.reading a.0.1) (λ xs. Ok (a.0.0 ∷ xs)) vs a.2 in
    let s = field_sound f h (b ∷ bs) a.0.0 a.0.1 a.1 in
    let t = members_sound f h n a.0.1 c.0 c.1 in
    let front : b ∷ bs ≡ spelling f a.0.0 ++ a.0.1 = s.1 in
    let behind : a.0.1 ≡ joined (spelling f) c.0 = t.1 in
    let all : b ∷ bs ≡ spelling f a.0.0 ++ joined (spelling f) c.0 = front ∙ ap (λ (x : List ℕ). spelling f a.0.0 ++ x) behind in
    subst (λ (x : List X). all_good f.good x × (b ∷ bs ≡ joined (spelling f) x)) (ok_is (a.0.0 ∷ c.0) vs c.2) ((s.0, t.0), all)

step_again : {X : Type 0} (n : ℕ) (read : ℕ → List ℕ → Result X ErrorKind) (bytes rest : List ℕ) (v : X) (vs : List X) → length bytes ≤ suc n → field_at read bytes ≡ Ok (v, rest) → members_at n read rest ≡ Ok vs → members_at (suc n) read bytes ≡ Ok (v ∷ vs)
unfolding members_at
step_again n read [] rest v vs h e i = absurd (let s = field_shorter read [] v rest e in omega arith)
step_again n read (b ∷ bs) rest v vs h e i = rw (e, i) refl

members_complete : {X : Type 0} {R : ErrorKind → Type 0} (f : Form X) (h : IsForm R f) (n : ℕ) (vs : List X) → all_good f.good vs → length (joined (spelling f) vs) ≤ n → members_at n f.reading (joined (spelling f) vs) ≡ Ok vs
unfolding members_at joined all_good
members_complete f h n [] g l = refl
members_complete f h zero (v ∷ vs) g l =
    let e = field_complete f h v (joined (spelling f) vs) g.0 in
    let s = field_shorter f.reading (spelling f v ++ joined (spelling f) vs) v (joined (spelling f) vs) e in
    absurd (omega arith)
members_complete f h (suc n) (v ∷ vs) g l =
    let e = field_complete f h v (joined (spelling f) vs) g.0 in
    let s = field_shorter f.reading (spelling f v ++ joined (spelling f) vs) v (joined (spelling f) vs) e in
    let i = members_complete f h n vs g.1 (omega arith) in
    step_again n f.reading (spelling f v ++ joined (spelling f) vs) (joined (spelling f) vs) v vs l e i

members_refused : {X : Type 0} {R : ErrorKind → Type 0} (f : Form X) (h : IsForm R f) (n : ℕ) (bytes : List ℕ) (e : ErrorKind) → members_at n f.reading bytes ≡ Err e → (e ≡ Malformed) ⊎ R e
unfolding members_at
members_refused f h n [] e r = absurd cc
members_refused f h zero (b ∷ bs) e r = inl (let k : Malformed ≡ e = cc in sym k)
members_refused f h (suc n) (b ∷ bs) e r =
    elim (bind_err (field_at f.reading (b ∷ bs)) (λ x. members_at n f.reading x.1 >>= λ xs. Ok (x.0 ∷ xs)) e r) [
      | inl k ↦ field_refused f h (b ∷ bs) e k
      | inr k ↦ elim (bind_err (members_at n f.reading k.0.1) (λ xs. Ok (k.0.0 ∷ xs)) e k.2) [
        | inl j ↦ members_refused f h n k.0.1 e j
        | inr j ↦ absurd (let x = j.2 in cc)
      ]
    ]

pub list_lawful : {X : Type 0} {R : ErrorKind → Type 0} (f : Form X) → IsForm R f → IsContents R (list_of f)
list_lawful f h = record {
  sound = λ bytes vs e. members_sound f h (length bytes) bytes vs e;
  complete = λ vs g. members_complete f h (length (joined (spelling f) vs)) vs g (omega arith);
  refused = λ bytes e r. members_refused f h (length bytes) bytes e r;
}

-- ---- the loop that reads them

abbrev some_list : {X : Type 0} → List X → Result (List X) ErrorKind
some_list xs = Ok xs

regroup : {X : Type 0} (front : List X) (v : X) (read : Result (List X) ErrorKind) → with_front front (read >>= λ xs. Ok (v ∷ xs)) ≡ with_front (front ++ v ∷ []) read
regroup {X} front v (Ok xs) = ap (λ (ys : List X). some_list ys) (sym (append_assoc front (v ∷ []) xs))
regroup front v (Err e) = refl

pub goes_on : {X : Type 0} (read : ℕ → List ℕ → Result X ErrorKind) (front : List X) (bytes rest : List ℕ) (v : X) (total : Result (List X) ErrorKind)
    → field_at read bytes ≡ Ok (v, rest) → with_front front (list_reading read bytes) ≡ total → with_front (front ++ v ∷ []) (list_reading read rest) ≡ total
unfolding members_at
goes_on read front [] rest v total e so_far = absurd (let s = field_shorter read [] v rest e in omega arith)
goes_on read front (b ∷ bs) rest v total e so_far =
    let s = field_shorter read (b ∷ bs) v rest e in
    let same : members_at (length bs) read rest ≡ members_at (length rest) read rest = members_same (length bs) (length rest) read rest (omega arith) (omega arith) in
    let step : members_at (suc (length bs)) read (b ∷ bs) ≡ (members_at (length rest) read rest >>= λ xs. Ok (v ∷ xs)) = rw (e, same) refl in
    sym (ap (with_front front) step ∙ regroup front v (members_at (length rest) read rest)) ∙ so_far

pub ends : {X : Type 0} (read : ℕ → List ℕ → Result X ErrorKind) (front : List X) (bytes : List ℕ) (e : ErrorKind) (total : Result (List X) ErrorKind)
    → field_at read bytes ≡ Err e → 0 < length bytes → with_front front (list_reading read bytes) ≡ total → total ≡ Err e
unfolding members_at
ends read front [] e total h lt so_far = absurd (omega arith)
ends read front (b ∷ bs) e total h lt so_far = sym so_far ∙ rw h refl

pub all_read : {X : Type 0} (read : ℕ → List ℕ → Result X ErrorKind) (front : List X) (bytes : List ℕ) (total : Result (List X) ErrorKind) → length bytes ≡ 0 → with_front front (list_reading read bytes) ≡ total → total ≡ Ok front
unfolding members_at
all_read {X} read front [] total h so_far = sym so_far ∙ ap (λ (ys : List X). some_list ys) (append-nil front)
all_read read front (b ∷ bs) total h so_far = absurd (omega arith)

pub ends_refused : {X : Type 0} (e : ErrorKind) (read : ℕ → List ℕ → Result X ErrorKind) (front : List X) (bytes : List ℕ) (total : Result (List X) ErrorKind)
    → IsRefusal e (field_at read bytes) → 0 < length bytes → with_front front (list_reading read bytes) ≡ total → IsRefusal e total
ends_refused errors.Memory read front bytes total h lt so_far = tt
ends_refused errors.Overlength read front bytes total h lt so_far = ends read front bytes errors.Overlength total h lt so_far
ends_refused errors.Malformed read front bytes total h lt so_far = ends read front bytes errors.Malformed total h lt so_far
ends_refused errors.Failed read front bytes total h lt so_far = ends read front bytes errors.Failed total h lt so_far
ends_refused errors.SetDuplicate read front bytes total h lt so_far = ends read front bytes errors.SetDuplicate total h lt so_far
ends_refused errors.Value read front bytes total h lt so_far = ends read front bytes errors.Value total h lt so_far

-- ---- none, one, and one in front of others

pub no_front : {X : Type 0} (read : Result (List X) ErrorKind) → with_front [] read ≡ read
no_front (Ok xs) = refl
no_front (Err e) = refl

module _ {X : Type 0} (read : ℕ → List ℕ → Result X ErrorKind) (bytes : List ℕ) where
  pub none_read : length bytes ≡ 0 → list_reading read bytes ≡ Ok []
  none_read none = all_read read [] bytes (list_reading read bytes) none (no_front (list_reading read bytes))

  pub first_read : (rest : List ℕ) (v : X) → field_at read bytes ≡ Ok (v, rest) → with_front (v ∷ []) (list_reading read rest) ≡ list_reading read bytes
  first_read rest v e = goes_on read [] bytes rest v (list_reading read bytes) e (no_front (list_reading read bytes))

  pub one_read : (rest : List ℕ) (v : X) → field_at read bytes ≡ Ok (v, rest) → length rest ≡ 0 → list_reading read bytes ≡ Ok (v ∷ [])
  one_read rest v e none = all_read read (v ∷ []) rest (list_reading read bytes) none (first_read rest v e)

  pub first_refused : (e : ErrorKind) → IsRefusal e (field_at read bytes) → 0 < length bytes → IsRefusal e (list_reading read bytes)
  first_refused e h some = ends_refused e read [] bytes (list_reading read bytes) h some (no_front (list_reading read bytes))
