-- Where a walk over the members of a list stands in the list's bytes, and what stands there (X.690 8.10, 8.12).
use Rattle.std.specs.Prelude.{◌≡◌, ◌<◌, ◌≤◌, ◌+◌, ◌⊎◌, ℕ, List, [], ◌++◌, length}
use Rattle.x509_c_calls.specs.Place.{IsAt}
use Rattle.x509_c_calls.specs.declared.place.span.Span.{Span}
use Rattle.x509_c_calls.specs.declared.status.status.Status.{Status}
use Rattle.x509_c_calls.specs.declared.status.status.Status.TheVariants.{Done, NoRoom, Absent, Repeated, Faulty, Limit, Refused}
use Rattle.x509_der.specs.Element.{element, limit}
use Rattle.x509_der.specs.Outcome.{IsRefusal}
use Rattle.x509_der.specs.declared.error.ErrorKind.{ErrorKind}
use Rattle.x509_der.specs.declared.error.ErrorKind.TheVariants.{Memory, Overlength, Malformed}
use Rattle.x509_der.specs.Frames.{required}
use Rattle.x509_der.specs.Form.{Form, spelling}

-- The bytes are one element with this identifier octet, and these octets are what is left of its content from a place in the bytes on. The place 0
-- is where the content begins.
pub record IsLeft (tag : ℕ) (bytes : List ℕ) (at : ℕ) (left : List ℕ) : Type 0 where
  pub passed : List ℕ
  pub whole : bytes ≡ element tag (passed ++ left)
  pub within : length bytes ≤ limit
  pub place : ((at ≡ 0) × (passed ≡ [])) ⊎ (at + length left ≡ length bytes)

-- there is no such element, or the place isn't in its content
abbrev pub IsNowhere : ℕ → List ℕ → ℕ → ErrorKind → Type 0
IsNowhere tag bytes at e =
    ((limit < length bytes) × (e ≡ Overlength))
    ⊎ ((length bytes ≤ limit) × (e ≡ Malformed) × ((left : List ℕ) → IsLeft tag bytes at left → ⊥))

-- nothing is left, and the place stays
abbrev pub IsEnd : ℕ → List ℕ → ℕ → ℕ → Type 0
IsEnd tag bytes was is = IsLeft tag bytes was [] × (is ≡ was)

-- A value's element stands at the place that was, the whole of it in the span, and more behind it; the place that is, is the one behind it.
pub record IsNext {X : Type 0} (form : Form X) (tag : ℕ) (bytes : List ℕ) (was is : ℕ) (value : X) (more : List ℕ) (span : Span) : Type 0 where
  pub good : form.good value
  pub left : IsLeft tag bytes was (spelling form value ++ more)
  pub stands : IsAt (spelling form value) more bytes span
  pub behind : is ≡ span.place + span.len

-- octets are left, and at their front stands no value's element: Malformed, or a refusal of the type's own, and which of them is said by reading
pub record IsNoMember {X : Type 0} (form : Form X) (refuses : ErrorKind → Type 0) (tag : ℕ) (bytes : List ℕ) (at : ℕ) (e : ErrorKind) : Type 0 where
  pub left : List ℕ
  pub is_left : IsLeft tag bytes at left
  pub some : left ≡ [] → ⊥
  pub none : (value : X) (more : List ℕ) → form.good value → left ≡ spelling form value ++ more → ⊥
  pub kind : (e ≡ Malformed) ⊎ refuses e
  pub which : IsRefusal e ((required form).reading left)

-- Why there is no next member, and no end: memory, where reading wants it; the bytes and the place; or what stands there
abbrev pub Stops : {X : Type 0} → Form X → (ErrorKind → Type 0) → Type 0 → ℕ → List ℕ → ℕ → ErrorKind → Type 0
Stops form refuses wants tag bytes at e = ((e ≡ Memory) × wants) ⊎ (IsNowhere tag bytes at e ⊎ IsNoMember form refuses tag bytes at e)

-- What a call leaves that asks for the next member, of which more may be said. Done: there is one. Absent: the list ends there. What isn't filled in stays as
-- it was.
unfoldable pub Steps : {X : Type 0} → Form X → (ErrorKind → Type 0) → Type 0 → ℕ → List ℕ → ℕ → ℕ → (X → List ℕ → Span → Type 0) → Type 0 → Status → Type 0
Steps {X} form refuses wants tag bytes was is holds unchanged Done =
    (value : X) × (more : List ℕ) × (span : Span) × IsNext form tag bytes was is value more span × holds value more span
Steps form refuses wants tag bytes was is holds unchanged Absent = IsEnd tag bytes was is × unchanged
Steps form refuses wants tag bytes was is holds unchanged (Refused e) = Stops form refuses wants tag bytes was e × (is ≡ was) × unchanged
Steps form refuses wants tag bytes was is holds unchanged NoRoom = ⊥
Steps form refuses wants tag bytes was is holds unchanged Repeated = ⊥
Steps form refuses wants tag bytes was is holds unchanged Faulty = ⊥
Steps form refuses wants tag bytes was is holds unchanged Limit = ⊥
