-- What a step that may be refused says of its parts, and what joined octets say of theirs.
use Rattle.std.proofs.Common.{◌≡◌, ℕ, zero, suc, ◌⊎◌, inl, inr, List, [], ◌∷◌, ◌++◌, Result, Ok, Err, refl, subst, arith}
use Rattle.x509_sct.specs.declared.tls.error.TlsError.{TlsError}
use Rattle.x509_sct.specs.Outcome.{◌>>=◌}
use Rattle.x509_sct.specs.Form.{AreOctets}

abbrev pub made : {A : Type 0} → A → Result A TlsError
made x = Ok x

pub ok_is : {A : Type 0} (x y : A) → made x ≡ made y → x ≡ y
ok_is x y e = cc

pub err_is : {A : Type 0} (r : Result A TlsError) (d e : TlsError) → r ≡ Err d → r ≡ Err e → d ≡ e
err_is (Ok x) d e p q = absurd cc
err_is (Err c) d e p q = cc

-- a value is no refusal
pub not_refused : {A Q : Type 0} (x : A) (e : TlsError) → made x ≡ Err e → Q
not_refused x e h = absurd cc

pub bind_ok : {A B : Type 0} (r : Result A TlsError) (f : A → Result B TlsError) (y : B) → (r >>= f) ≡ Ok y → (x : A) × (r ≡ Ok x) × (f x ≡ Ok y)
bind_ok (Ok x) f y e = (x, refl, e)
bind_ok (Err d) f y e = absurd cc

pub bind_err : {A B : Type 0} (r : Result A TlsError) (f : A → Result B TlsError) (e : TlsError) → (r >>= f) ≡ Err e → (r ≡ Err e) ⊎ ((x : A) × (r ≡ Ok x) × (f x ≡ Err e))
bind_err (Ok x) f e h = inr (x, refl, h)
bind_err (Err d) f e h = inl (let k : d ≡ e = cc in rw k refl)

-- ---- octets

pub octets_behind : (a b : List ℕ) → AreOctets (a ++ b) → AreOctets b
octets_behind [] b h = h
octets_behind (x ∷ a) b h = octets_behind a b (λ i. h (suc i))

pub octets_after : (input a b : List ℕ) → input ≡ a ++ b → AreOctets input → AreOctets b
octets_after input a b e h = octets_behind a b (subst AreOctets e h)

pub octets_front : (a b : List ℕ) → AreOctets (a ++ b) → AreOctets a
octets_front [] b h = λ i. omega arith
octets_front (x ∷ a) b h = elim [ zero ↦ h zero | suc i ↦ octets_front a b (λ i. h (suc i)) i ]
