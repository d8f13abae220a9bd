-- The byte order of contents and of encodings, told from values without encoding them (X.690 11.6).
use Rattle.std.specs.Prelude.{◌≡◌, ℕ, ◌+◌, ◌≤◌, Bool, nat_le, List, length, Option, Some, None, if◌then◌else◌}
use Rattle.std.specs.Ordering.{nat_cmp, then_cmp, on}
use Rattle.std.specs.declared.cmp.Ordering.{Ordering}
use Rattle.std.specs.declared.cmp.Ordering.TheVariants.{Equal}
use Rattle.std.specs.Cmp.{IsTotalOrder}
use Rattle.std.specs.Cmp.Lexicographic.{slice_cmp}
use Rattle.x509_der.specs.declared.error.ErrorKind.{ErrorKind}
use Rattle.x509_der.specs.Element.{element, limit}
use Rattle.x509_der.specs.Form.{Form, spelling}
use Rattle.x509_der.specs.Writing.{Written, plain, writes}

-- the order of bytes: by the first that differ, and a list that begins another stands before it
abbrev pub bytes_cmp : List ℕ → List ℕ → Ordering
bytes_cmp = slice_cmp nat_cmp

-- there is an encoding: a spelling within the limit, which is what is written
abbrev pub HasEncoding : {X : Type 0} → Form X → (X → Written X) → X → Type 0
HasEncoding form write value = form.good value × (write value ≡ writes plain value) × (length (spelling form value) ≤ limit)

-- ---- contents

abbrev pub Order : Type 0 → Type 0
Order X = X → X → Ordering

-- An order of values by their contents. It is total; it is the byte order of the contents where there are encodings; and
-- no two values of one identifier octet are equal in it.
pub record IsOrder {X : Type 0} (form : Form X) (write : X → Written X) (order : Order X) : Type 0 where
  pub total : IsTotalOrder order
  pub agrees : (x y : X) → HasEncoding form write x → HasEncoding form write y → order x y ≡ bytes_cmp (form.content x) (form.content y)
  pub exact : (x y : X) → form.tag x ≡ form.tag y → order x y ≡ Equal → x ≡ y

-- ---- encodings

abbrev pub counted_or : Option ErrorKind → Bool → ℕ → ℕ
counted_or None fits count = if fits then count else limit + 1
counted_or (Some e) fits count = limit + 1

-- how many content octets are written; one more than the limit where the value can't be written
abbrev pub counted : {X : Type 0} → Form X → (X → Written X) → X → ℕ
counted form write value = counted_or (write value).refusal (nat_le (length (spelling form (write value).value)) limit) (length (form.content (write value).value))

-- by the identifier octet, then by how many content octets there are, then by the contents
abbrev pub der_order : {X : Type 0} → Form X → (X → Written X) → Order X → Order X
der_order form write order = then_cmp (on form.tag nat_cmp) (then_cmp (on (counted form write) nat_cmp) order)

pub record IsElement (bytes : List ℕ) : Type 0 where
  pub tag : ℕ
  pub content : List ℕ
  pub is : bytes ≡ element tag content

-- An order of values by texts that are elements. It is total, it is the byte order of the texts of the values that Has,
-- and no two values are equal in it.
pub record IsDerOrder {X : Type 0} (Has : X → Type 0) (text : X → List ℕ) (order : Order X) : Type 0 where
  pub elements : (x : X) → IsElement (text x)
  pub total : IsTotalOrder order
  pub agrees : (x y : X) → Has x → Has y → order x y ≡ bytes_cmp (text x) (text y)
  pub exact : (x y : X) → order x y ≡ Equal → x ≡ y
