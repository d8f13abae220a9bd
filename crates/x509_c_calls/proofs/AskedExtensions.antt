-- The one value of an attribute.
use Rattle.std.proofs.Common.{◌≡◌, ◌⊎◌, ◌≤◌, ◌<◌, ℕ, List, [], ◌∷◌, ◌++◌, length, get_or, inl, inr, sym, ap, ◌∙◌, arith}
use Rattle.std.proofs.lemmas.List.{append-nil}
use Rattle.x509_c_calls.specs.AskedExtensions.{AsksAt, AsksNothing, IsOf}
use Rattle.x509_c_calls.specs.Place.{IsAt}
use Rattle.x509_c_calls.specs.declared.place.span.Span.{Span}
use Rattle.x509_der.specs.Any.{any}
use Rattle.x509_der.specs.declared.any.Any.{Any}
use Rattle.x509_der.specs.declared.error.ErrorKind.{ErrorKind}
use Rattle.x509_der.specs.declared.error.ErrorKind.TheVariants.{Memory, Malformed}
use Rattle.x509_der.specs.List.{joined}
use Rattle.x509_der.specs.Form.{spelling}
use Rattle.x509_ext.specs.Extension.{extensions}
use Rattle.x509_ext.specs.declared.extension.Extension.{Extension}

pub asks_at : (bytes : List ℕ) (values : List Any) (value : Any) (asked : List Extension) (behind : List ℕ) (span : Span) → values ≡ value ∷ [] → IsOf value asked → IsAt (spelling extensions asked) behind bytes span → AsksAt bytes values behind span
asks_at bytes values value asked behind span alone is at = rw alone (asked, is, at)

pub asks_nothing : (values : List Any) (value : Any) (e : ErrorKind) → values ≡ value ∷ [] → (e ≡ Memory) ⊎ ((e ≡ Malformed) × ((asked : List Extension) → IsOf value asked → ⊥)) → AsksNothing values e
asks_nothing values value e alone why = rw alone why

-- octets that are those of the one value
pub alone_stands : (values : List Any) (value : Any) (text here behind : List ℕ) → values ≡ value ∷ [] → spelling any value ≡ text → here ≡ joined (spelling any) values ++ behind → here ≡ text ++ behind
unfolding joined
alone_stands values value text here behind alone is e = e ∙ rw alone (ap (λ (x : List ℕ). x ++ behind) (append-nil (spelling any value) ∙ is))

pub one_value : (values : List Any) (value other : Any) → 1 ≤ length values → length values < 2 → value ≡ get_or values 0 other → values ≡ value ∷ []
one_value [] value other some few is = absurd (omega arith)
one_value (first ∷ []) value other some few is = ap (λ x. x ∷ []) (sym is)
one_value (first ∷ second ∷ values) value other some few is = absurd (omega arith)

-- why it isn't decoded
pub why_nothing : {W : Type 0} (value : Any) (e kind : ErrorKind) → kind ≡ e → ((e ≡ Memory) × W) ⊎ ((e ≡ Malformed) ⊎ ⊥) → ((asked : List Extension) → IsOf value asked → (e ≡ Memory) × W)
    → (kind ≡ Memory) ⊎ ((kind ≡ Malformed) × ((asked : List Extension) → IsOf value asked → ⊥))
why_nothing value e kind same (inl memory) only = inl (same ∙ memory.0)
why_nothing value e kind same (inr (inl malformed)) only = inr (same ∙ malformed, λ asked is. absurd (let memory = (only asked is).0 in cc))
why_nothing value e kind same (inr (inr never)) only = absurd never
