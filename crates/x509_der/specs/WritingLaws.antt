-- Texts put one in front of the other.
use Rattle.std.proofs.Common.{◌≡◌, ◌⊎◌, ℕ, ◌+◌, ◌-◌, ◌<◌, ◌≤◌, List, [], ◌++◌, length, Option, Some, None, Result, Ok, Err, refl, sym, ◌∙◌, arith, length-append, inl, inr}
use Rattle.x509_der.specs.declared.error.Error.{Error}
use Rattle.x509_der.specs.declared.error.ErrorKind.{ErrorKind}
use Rattle.x509_der.specs.Element.{element, header, limit}
use Rattle.x509_der.specs.declared.error.ErrorKind.TheVariants.{Overlength}
use Rattle.x509_der.specs.declared.room.counting.Counting.{Counting}
use Rattle.x509_der.specs.Writing.{first, Kind, IsKind, Puts}
use Rattle.x509_der.specs.CountingRoom.{counting, counting_lawful}

first-none : (p q : Option ErrorKind) → p ≡ None → first p q ≡ q
first-none p q e = rw e refl

pub first-some : (p q : Option ErrorKind) (e : ErrorKind) → p ≡ Some e → first p q ≡ Some e
first-some p q e h = rw h refl

first-nones : (p q : Option ErrorKind) → p ≡ None → q ≡ None → first p q ≡ None
first-nones p q a b = rw (a, b) refl

first-alone : (q : Option ErrorKind) → first q None ≡ q
first-alone (Some e) = refl
first-alone None = refl

-- a in front of b, where b was put
pub puts_after : {R : Type 0} (k : Kind R) → IsKind k → (a b : List ℕ) (p q : Option ErrorKind) (done : Unit) (r : Result Unit Error) (old mid new : R) → Puts k b q (Ok done) old mid → Puts k a p r mid new → Puts k (a ++ b) (first q p) r old new
puts_after k h a b p q done (Ok u) old mid new s t = (first-nones q p s.0 t.0, h.further a b old mid new s.1 t.1)
puts_after k h a b p q done (Err e) old mid new s (inl m) = inl m
puts_after k h a b p q done (Err e) old mid new s (inr (inl o)) =
    let most : k.most old ≡ k.most mid = h.same_most b old mid s.1 in
    let long : k.most mid < length a + k.count mid = o.1 in
    let counted : k.count mid ≡ length b + k.count old = h.counted b old mid s.1 in
    inr (inl (o.0, omega (arith, most, long, counted, length-append a b)))
puts_after k h a b p q done (Err e) old mid new s (inr (inr d)) = inr (inr (first-none q p s.0 ∙ d))

-- a in front of b, where b was refused
pub puts_not : {R : Type 0} (k : Kind R) (a b : List ℕ) (p q : Option ErrorKind) (e : Error) (old new : R) → Puts k b q (Err e) old new → Puts k (a ++ b) (first q p) (Err e) old new
puts_not k a b p q e old new (inl m) = inl m
puts_not k a b p q e old new (inr (inl o)) =
    let long : k.most old < length b + k.count old = o.1 in
    inr (inl (o.0, omega (arith, long, length-append a b)))
puts_not k a b p q e old new (inr (inr d)) = inr (inr (first-some q p e.kind d))

-- nothing at all
pub puts_nothing : {R : Type 0} (k : Kind R) → IsKind k → (x : R) → Puts k [] None (Ok tt) x x
puts_nothing k h x = (refl, h.nothing x)

-- ---- elements

-- a header in front of the content whose length it says
pub puts_element : {R : Type 0} (k : Kind R) → IsKind k → (t : ℕ) (c : List ℕ) (n m : ℕ) (q : Option ErrorKind) (done : Unit) (r : Result Unit Error) (old mid new : R) → Puts k c q (Ok done) old mid → n ≡ k.count mid → m ≡ k.count old → Puts k (header t (n - m)) None r mid new → Puts k (element t c) q r old new
unfolding element
puts_element {R} k h t c n m q done r old mid new s e f u =
    let counted : k.count mid ≡ length c + k.count old = h.counted c old mid s.1 in
    let same : n - m ≡ length c = omega (arith, e, f, counted) in
    let v : Puts k (header t (length c)) None r mid new = rw (← same) u in
    rw (← first-alone q) (puts_after k h (header t (length c)) c None q done r old mid new s v)

pub puts_no_element : {R : Type 0} (k : Kind R) (t : ℕ) (c : List ℕ) (q : Option ErrorKind) (e : Error) (old new : R) → Puts k c q (Err e) old new → Puts k (element t c) q (Err e) old new
unfolding element
puts_no_element k t c q e old new s = rw (← first-alone q) (puts_not k (header t (length c)) c None q e old new s)

-- the same under an identifier octet that is known by an equation
pub puts_header : {R : Type 0} (k : Kind R) → IsKind k → (u t : ℕ) (c : List ℕ) (n m : ℕ) (q : Option ErrorKind) (done : Unit) (r : Result Unit Error) (old mid new : R) → u ≡ t → Puts k c q (Ok done) old mid → n ≡ k.count mid → m ≡ k.count old → Puts k (header u (n - m)) None r mid new → Puts k (element t c) q r old new
puts_header k h u t c n m q done r old mid new is s e f w = rw (← is) (puts_element k h u c n m q done r old mid new s e f w)

-- ---- counting

-- what a count from nothing says where it is refused
pub count_refused : (text : List ℕ) (q : Option ErrorKind) (e : Error) (old new : Counting) → old.count.octets ≡ 0 → Puts counting text q (Err e) old new → (q ≡ Some e.kind) ⊎ ((e.kind ≡ Overlength) × (limit < length text))
count_refused text q e old new zero (inl m) = absurd m.1
count_refused text q e old new zero (inr (inl o)) = let long : limit < length text + old.count.octets = o.1 in inr (o.0, omega (arith, long, zero))
count_refused text q e old new zero (inr (inr d)) = inl d

-- and where it is not
pub count_put : (text : List ℕ) (q : Option ErrorKind) (done : Unit) (old new : Counting) → old.count.octets ≡ 0 → Puts counting text q (Ok done) old new → (q ≡ None) × (length text ≤ limit) × (new.count.octets ≡ length text)
count_put text q done old new zero s =
    let counted : new.count.octets ≡ length text + old.count.octets = s.1 in
    let within : new.count.octets ≤ limit = new.count.within in
    (s.0, omega (arith, counted, zero, within), omega (arith, counted, zero))

pub count_header : (u t : ℕ) (c : List ℕ) (n : ℕ) (q : Option ErrorKind) (done : Unit) (r : Result Unit Error) (old mid new : Counting) → u ≡ t → old.count.octets ≡ 0 → Puts counting c q (Ok done) old mid → n ≡ mid.count.octets → Puts counting (header u n) None r mid new → Puts counting (element t c) q r old new
count_header u t c n q done r old mid new is zero s e w =
    let same : n - 0 ≡ n = omega arith in
    puts_header counting counting_lawful u t c n 0 q done r old mid new is s e (sym zero) (rw same w)
