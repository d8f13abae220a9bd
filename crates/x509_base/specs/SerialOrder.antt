-- The order of serial numbers: that of their encodings.
use Rattle.std.specs.Prelude.{◌≡◌, ◌↔◌, ℕ, true, List, Result, bytes_eq}
use Rattle.std.specs.Ordering.{eq_by_cmp}
use Rattle.std.specs.Cmp.{IsTotalOrder, Equal-is}
use Rattle.std.specs.declared.cmp.Ordering.TheVariants.{Equal}
use Rattle.std.proofs.Common.{sym, ◌∙◌}
use Rattle.std.specs.Cmp.Lexicographic.{bytes_decides}
use Rattle.x509_der.specs.declared.error.ErrorKind.{ErrorKind}
use Rattle.x509_der.specs.Writing.{Written, plain, writes}
use Rattle.x509_der.specs.Order.{Order, IsOrder, IsDerOrder, HasEncoding, der_order}
use Rattle.x509_der.specs.Ordered.{by_bytes, by_bytes_lawful, der_lawful}
use Rattle.x509_der.specs.OrderEquality.{order_ties}
use Rattle.x509_der.specs.Form.{spelling}
use Rattle.x509_base.specs.Serial.{serial_number}

pub serial_ordered : (check : List ℕ → Result Unit ErrorKind) (write : List ℕ → Written (List ℕ)) → IsOrder (serial_number check) write (by_bytes (serial_number check))
serial_ordered check write = by_bytes_lawful (serial_number check) write (λ x y p q. q)

-- by the encodings
abbrev pub serial_order : (List ℕ → Result Unit ErrorKind) → Order (List ℕ)
serial_order check = der_order (serial_number check) (writes plain) (by_bytes (serial_number check))

lawful : (check : List ℕ → Result Unit ErrorKind) → IsDerOrder (HasEncoding (serial_number check) (writes plain)) (spelling (serial_number check)) (serial_order check)
lawful check = der_lawful (serial_number check) (writes plain) (by_bytes (serial_number check)) (serial_ordered check (writes plain))

pub serial_total : (check : List ℕ → Result Unit ErrorKind) → IsTotalOrder (serial_order check)
serial_total check = (lawful check).total

-- equal in this order are equal numbers alone
pub serial_ties : (check : List ℕ → Result Unit ErrorKind) (x y : List ℕ) → bytes_eq x y ≡ eq_by_cmp (serial_order check) x y
serial_ties check = order_ties (lawful check) bytes_eq bytes_decides

-- neither of two numbers is before the other exactly where they are equal
pub equal_numbers_tie : (check : List ℕ → Result Unit ErrorKind) (x y : List ℕ) → (bytes_eq x y ≡ true) ↔ (serial_order check x y ≡ Equal)
equal_numbers_tie check x y =
    (λ e. (Equal-is (serial_order check x y)).0 (sym (serial_ties check x y) ∙ e), λ e. serial_ties check x y ∙ (Equal-is (serial_order check x y)).1 e)
