-- Parts that are read one after the other: what is read of them, and which refusal comes first.
use Rattle.std.proofs.Common.{◌+◌, ◌≡◌, List, [], ◌∷◌, ◌++◌, map, refl, sym, ap, ◌∙◌, inl, inr, subst, append_assoc}
use Rattle.std.specs.List.{AllByRecursion, AllZip}
use Rattle.x509_der.specs.declared.error.ErrorKind.{ErrorKind}
use Rattle.x509_name.specs.Refusals.{FirstRefused}

-- ---- what is read

-- where each part reads as at most one value, parts read as at most one list of values
pub one_of_each : {X Y : Type 0} (reads : X → Y → Type 0) → ((x : X) (y z : Y) → reads x y → reads x z → y ≡ z) → (parts : List X) (ys zs : List Y)
    → AllZip reads parts ys → AllZip reads parts zs → ys ≡ zs
one_of_each reads one [] [] [] p q = refl
one_of_each reads one [] [] (z ∷ zs) p q = absurd q
one_of_each reads one [] (y ∷ ys) zs p q = absurd p
one_of_each reads one (x ∷ parts) [] zs p q = absurd p
one_of_each reads one (x ∷ parts) (y ∷ ys) [] p q = absurd q
one_of_each reads one (x ∷ parts) (y ∷ ys) (z ∷ zs) p q =
    let head = one x y z p.0 q.0 in
    let tail = one_of_each reads one parts ys zs p.1 q.1 in
    λ i. head i ∷ tail i

-- values that read again from what is written of them
pub zip_map : {X Y : Type 0} (reads : X → Y → Type 0) (P : Y → Type 0) (written : Y → X) → ((y : Y) → P y → reads (written y) y) → (ys : List Y) → AllByRecursion P ys → AllZip reads (map written ys) ys
zip_map reads P written again [] h = tt
zip_map reads P written again (y ∷ ys) h = (again y h.0, zip_map reads P written again ys h.1)

-- one part more
pub zip_push : {X Y : Type 0} (reads : X → Y → Type 0) (parts : List X) (ys : List Y) (part : X) (y : Y) → AllZip reads parts ys → reads part y → AllZip reads (parts ++ part ∷ []) (ys ++ y ∷ [])
zip_push reads [] [] part y p q = (q, tt)
zip_push reads [] (b ∷ ys) part y p q = absurd p
zip_push reads (a ∷ parts) [] part y p q = absurd p
zip_push reads (a ∷ parts) (b ∷ ys) part y p q = (p.0, zip_push reads parts ys part y p.1 q)

-- ---- what is refused

-- Where a part that reads is refused by no error, what reads is refused by none.
pub zip_apart : {X Y : Type 0} (reads : X → Y → Type 0) (refused : X → ErrorKind → Type 0) → ((x : X) (y : Y) (kind : ErrorKind) → reads x y → refused x kind → ⊥)
    → (parts : List X) (ys : List Y) (kind : ErrorKind) → AllZip reads parts ys → FirstRefused reads refused parts kind → ⊥
zip_apart reads refused apart [] ys kind p q = q
zip_apart reads refused apart (x ∷ parts) [] kind p q = p
zip_apart reads refused apart (x ∷ parts) (y ∷ ys) kind p (inl q) = apart x y kind p.0 q
zip_apart reads refused apart (x ∷ parts) (y ∷ ys) kind p (inr q) = zip_apart reads refused apart parts ys kind p.1 q.1

-- Where also a part is refused by at most one error, so are parts.
pub refused_once : {X Y : Type 0} (reads : X → Y → Type 0) (refused : X → ErrorKind → Type 0) → ((x : X) (y : Y) (kind : ErrorKind) → reads x y → refused x kind → ⊥)
    → ((x : X) (kind other : ErrorKind) → refused x kind → refused x other → kind ≡ other)
    → (parts : List X) (kind other : ErrorKind) → FirstRefused reads refused parts kind → FirstRefused reads refused parts other → kind ≡ other
refused_once reads refused apart once [] kind other p q = absurd p
refused_once reads refused apart once (x ∷ parts) kind other (inl p) (inl q) = once x kind other p q
refused_once reads refused apart once (x ∷ parts) kind other (inl p) (inr q) = absurd (apart x q.0.0 kind q.0.1 p)
refused_once reads refused apart once (x ∷ parts) kind other (inr p) (inl q) = absurd (apart x p.0.0 other p.0.1 q)
refused_once reads refused apart once (x ∷ parts) kind other (inr p) (inr q) = refused_once reads refused apart once parts kind other p.1 q.1

-- the parts in front read, and the next is refused
pub refused_behind : {X Y : Type 0} (reads : X → Y → Type 0) (refused : X → ErrorKind → Type 0) (done : List X) (ys : List Y) (part : X) (rest : List X) (kind : ErrorKind)
    → AllZip reads done ys → refused part kind → FirstRefused reads refused (done ++ part ∷ rest) kind
refused_behind reads refused [] ys part rest kind p q = inl q
refused_behind reads refused (a ∷ done) [] part rest kind p q = absurd p
refused_behind reads refused (a ∷ done) (b ∷ ys) part rest kind p q = inr ((b, p.0), refused_behind reads refused done ys part rest kind p.1 q)

-- ---- a loop over an iterator that gives the parts

-- the parts in front of those that are left read as the values
pub record ReadSoFar {X Y : Type 0} (reads : X → Y → Type 0) (all left : List X) (values : List Y) : Type 0 where
  pub done : List X
  pub parts : done ++ left ≡ all
  pub are : AllZip reads done values

module _ {X Y : Type 0} (reads : X → Y → Type 0) (all left rest : List X) (values : List Y) (part : X) (so_far : ReadSoFar reads all left values) (gives : left ≡ part ∷ rest) where
  opened : so_far.done ++ part ∷ rest ≡ all
  opened = ap (λ (t : List X). so_far.done ++ t) (sym gives) ∙ so_far.parts

  -- the next part reads
  pub read_more : (value : Y) → reads part value → ReadSoFar reads all rest (values ++ value ∷ [])
  read_more value q = record {
    done = so_far.done ++ part ∷ [];
    parts = append_assoc so_far.done (part ∷ []) rest ∙ opened;
    are = zip_push reads so_far.done values part value so_far.are q;
  }

  -- or is refused
  pub read_refused : (refused : X → ErrorKind → Type 0) (kind : ErrorKind) → refused part kind → FirstRefused reads refused all kind
  read_refused refused kind q =
      subst (λ (t : List X). FirstRefused reads refused t kind) opened (refused_behind reads refused so_far.done values part rest kind so_far.are q)
