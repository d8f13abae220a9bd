-- What a step that may be refused says of its parts.
use Rattle.std.proofs.Common.{◌≡◌, ◌⊎◌, inl, inr, Bool, true, false, cond, Result, Ok, Err, refl, sym, ◌∙◌}
use Rattle.std.specs.Prelude.{IfOk, IfErr}
use Rattle.x509_der.specs.declared.error.Error.{Error}
use Rattle.x509_der.specs.declared.error.ErrorKind.TheVariants as errors
use Rattle.x509_der.specs.declared.error.ErrorKind.{ErrorKind}
use Rattle.x509_der.specs.Outcome.{◌>>=◌, Gives, IsRefusal}

abbrev pub made : {A : Type 0} → A → Result A ErrorKind
made x = Ok x

pub ok_is : {A : Type 0} (x y : A) → made x ≡ made y → x ≡ y
ok_is x y e = cc

pub bind_ok : {A B : Type 0} (r : Result A ErrorKind) (f : A → Result B ErrorKind) (y : B) → (r >>= f) ≡ Ok y → (x : A) × (r ≡ Ok x) × (f x ≡ Ok y)
bind_ok (Ok x) f y e = (x, refl, e)
bind_ok (Err d) f y e = absurd cc

pub bind_err : {A B : Type 0} (r : Result A ErrorKind) (f : A → Result B ErrorKind) (e : ErrorKind) → (r >>= f) ≡ Err e → (r ≡ Err e) ⊎ ((x : A) × (r ≡ Ok x) × (f x ≡ Err e))
bind_err (Ok x) f e h = inr (x, refl, h)
bind_err (Err d) f e h = inl (let k : d ≡ e = cc in rw k refl)

-- a refusal where the test holds
pub guard_ok : {A : Type 0} (b : Bool) (d : ErrorKind) (r : Result A ErrorKind) (y : A) → cond b (Err d) r ≡ Ok y → (b ≡ false) × (r ≡ Ok y)
guard_ok true d r y e = absurd cc
guard_ok false d r y e = (refl, e)

-- a refusal where the test does not hold
pub test_ok : {A : Type 0} (b : Bool) (d : ErrorKind) (r : Result A ErrorKind) (y : A) → cond b r (Err d) ≡ Ok y → (b ≡ true) × (r ≡ Ok y)
test_ok true d r y e = (refl, e)
test_ok false d r y e = absurd cc

pub test_err : {A : Type 0} (b : Bool) (d : ErrorKind) (r : Result A ErrorKind) (e : ErrorKind) → cond b r (Err d) ≡ Err e → (r ≡ Err e) ⊎ (d ≡ e)
test_err true d r e h = inl h
test_err false d r e h = inr cc

-- ---- what a call answers where reading gives a value

pub gives_value : {X : Type 0} (r : Result X Error) (reading : Result X ErrorKind) (v : X) → Gives r reading → reading ≡ Ok v → IfOk r (λ found. found ≡ v)
gives_value (Ok x) reading v g e = ok_is x v (sym g ∙ e)
gives_value (Err d) reading v g e = tt

refusal_only : {X : Type 0} (k : ErrorKind) (reading : Result X ErrorKind) (v : X) → IsRefusal k reading → reading ≡ Ok v → k ≡ errors.Memory
refusal_only errors.Memory reading v g e = refl
refusal_only errors.Overlength reading v g e = absurd (let x = sym g ∙ e in cc)
refusal_only errors.Malformed reading v g e = absurd (let x = sym g ∙ e in cc)
refusal_only errors.Failed reading v g e = absurd (let x = sym g ∙ e in cc)
refusal_only errors.SetDuplicate reading v g e = absurd (let x = sym g ∙ e in cc)
refusal_only errors.Value reading v g e = absurd (let x = sym g ∙ e in cc)

-- memory alone is refused, where W says that it may be wanted
pub gives_only : {X : Type 0} (W : Type 0) (r : Result X Error) (reading : Result X ErrorKind) (v : X) → Gives r reading → IfErr r (λ e. e.kind ≡ errors.Memory → W) → reading ≡ Ok v → IfErr r (λ e. (e.kind ≡ errors.Memory) × W)
gives_only W (Ok x) reading v g m e = tt
gives_only W (Err d) reading v g m e = let k = refusal_only d.kind reading v g e in (k, m k)

-- a value is no refusal
pub not_refused : {A Q : Type 0} (x : A) (e : ErrorKind) → made x ≡ Err e → Q
not_refused x e h = absurd cc
