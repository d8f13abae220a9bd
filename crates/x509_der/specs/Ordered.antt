-- How the order of a type comes from its content, or from the orders of its parts.
use Rattle.std.specs.Prelude.{◌≡◌, ℕ, ◌≤◌, ◌<◌, false, nat_le, Bool, List, [], ◌∷◌, ◌++◌, length, Option, Some, None}
use Rattle.std.specs.List.{AllByRecursion}
use Rattle.std.specs.Ordering.{ordering_then, then_cmp, on}
use Rattle.std.specs.declared.cmp.Ordering.{Ordering}
use Rattle.std.specs.declared.cmp.Ordering.TheVariants.{Less, Equal, Greater}
use Rattle.std.specs.Cmp.{IsTotalOrder}
use Rattle.std.specs.Cmp.Lexicographic.{slice_cmp}
use Rattle.std.proofs.Common.{refl, sym, subst, arith}
use Rattle.std.proofs.lemmas.Bool.{le-leb}
use Rattle.std.proofs.lemmas.Bool.Decides.{nat_tests}
use Rattle.std.proofs.lemmas.Cmp.{tied_itself, nat_cmp_total, nat_list_cmp_total, lists_total, on_total, then_total}
use Rattle.std.proofs.lemmas.Map.Lookups.{exact_unsigned, exact_bytes}
use Rattle.x509_der.specs.declared.error.ErrorKind.{ErrorKind}
use Rattle.x509_der.specs.Element.{limit}
use Rattle.x509_der.specs.Form.{Form, spelling}
use Rattle.x509_der.specs.Writing.{Written, plain, writes}
use Rattle.x509_der.specs.Order.{bytes_cmp, HasEncoding, Order, IsOrder, counted_or, counted, der_order, IsDerOrder}
use Rattle.x509_der.specs.OrderLaws.{then_both, element_cmp, joined_cmp, nothing_first, nothing_last}

-- ---- from contents to encodings

pub counted_written : (refusal : Option ErrorKind) (size count : ℕ) → refusal ≡ None → size ≤ limit → counted_or refusal (nat_le size limit) count ≡ count
counted_written refusal size count none le = rw (none, le-leb size limit le) refl

pub counted_refused : (refusal : Option ErrorKind) (e : ErrorKind) (fits : Bool) (count : ℕ) → refusal ≡ Some e → counted_or refusal fits count ≡ 268435456
counted_refused refusal e fits count some = rw some refl

pub counted_too_long : (refusal : Option ErrorKind) (size count : ℕ) → limit < size → counted_or refusal (nat_le size limit) count ≡ 268435456
counted_too_long None size count lt = let no_fit : nat_le size limit ≡ false = grind (arith, nat_tests) in rw no_fit refl
counted_too_long (Some e) size count lt = refl

counted_there : {X : Type 0} (form : Form X) (write : X → Written X) (x : X) → HasEncoding form write x → counted form write x ≡ length (form.content x)
counted_there form write x h =
    let is : write x ≡ writes plain x = h.1 in
    rw is (counted_written None (length (spelling form x)) (length (form.content x)) refl h.2)

pub der_lawful : {X : Type 0} (form : Form X) (write : X → Written X) (order : Order X) → IsOrder form write order → IsDerOrder (HasEncoding form write) (spelling form) (der_order form write order)
der_lawful form write order h = record {
  elements = λ x. record { tag = form.tag x; content = form.content x; is = refl };
  total = then_total (on_total form.tag nat_cmp_total) (then_total (on_total (counted form write) nat_cmp_total) h.total);
  agrees = λ x y p q. rw (h.agrees x y p q, counted_there form write x p, counted_there form write y q) (sym (element_cmp (form.tag x) (form.tag y) (form.content x) (form.content y)));
  exact = λ x y e. let both = then_both _ _ e in h.exact x y (exact_unsigned (form.tag x) (form.tag y) both.0) (then_both _ _ both.1).1;
}

-- ---- contents as bytes

-- by the content octets
abbrev pub by_bytes : {X : Type 0} → Form X → Order X
by_bytes form = on form.content bytes_cmp

-- where no two values of one identifier octet share a content
pub by_bytes_lawful : {X : Type 0} (form : Form X) (write : X → Written X) → ((x y : X) → form.tag x ≡ form.tag y → form.content x ≡ form.content y → x ≡ y) → IsOrder form write (by_bytes form)
by_bytes_lawful form write one = record {
  total = on_total form.content nat_list_cmp_total;
  agrees = λ x y p q. refl;
  exact = λ x y p e. one x y p (exact_bytes (form.content x) (form.content y) e);
}

-- by the content octets, and then by a key: for values that have no encoding and share a content
abbrev pub by_key : {X K : Type 0} → Form X → (X → K) → (K → K → Ordering) → Order X
by_key form key cmp = then_cmp (on form.content bytes_cmp) (on key cmp)

pub by_key_lawful : {X K : Type 0} (form : Form X) (write : X → Written X) (key : X → K) (cmp : K → K → Ordering) → IsTotalOrder cmp
    → ((x y : X) → form.tag x ≡ form.tag y → form.content x ≡ form.content y → cmp (key x) (key y) ≡ Equal → x ≡ y)
    → ((x y : X) → HasEncoding form write x → HasEncoding form write y → form.content x ≡ form.content y → key x ≡ key y)
    → IsOrder form write (by_key form key cmp)
by_key_lawful {X} {K} form write key cmp t apart one = record {
  total = then_total (on_total form.content nat_list_cmp_total) (on_total key t);
  agrees = λ x y p q. elim (bytes_cmp (form.content x) (form.content y)) as (λ o. bytes_cmp (form.content x) (form.content y) ≡ o → ordering_then o (cmp (key x) (key y)) ≡ o) [
    | Less ↦ λ e. refl
    | Equal ↦ λ e. let same = one x y p q (exact_bytes (form.content x) (form.content y) e) in subst (λ (k : K). cmp (key x) k ≡ Equal) same (tied_itself t (key x))
    | Greater ↦ λ e. refl
  ] refl;
  exact = λ x y p e. let both = then_both _ _ e in apart x y p (exact_bytes (form.content x) (form.content y) both.0) both.1;
}

-- ---- two fields

-- by the first, then by the second
abbrev pub by_fields : {X A B : Type 0} → (X → A) → Order A → (X → B) → Order B → Order X
by_fields first order_first second order_second = then_cmp (on first order_first) (on second order_second)

module _ {X A B : Type 0} {HasA : A → Type 0} {HasB : B → Type 0} {text_a : A → List ℕ} {text_b : B → List ℕ} {order_a : Order A} {order_b : Order B} where
  pub by_fields_lawful : (form : Form X) (write : X → Written X) (first : X → A) (second : X → B) → ((x y : X) → first x ≡ first y → second x ≡ second y → x ≡ y)
      → ((x : X) → form.content x ≡ text_a (first x) ++ text_b (second x)) → ((x : X) → HasEncoding form write x → HasA (first x) × HasB (second x))
      → IsDerOrder HasA text_a order_a → IsDerOrder HasB text_b order_b → IsOrder form write (by_fields first order_a second order_b)
  by_fields_lawful form write first second one is has a b = record {
    total = then_total (on_total first a.total) (on_total second b.total);
    agrees = λ x y p q.
        rw (is x, is y, a.agrees (first x) (first y) (has x p).0 (has y q).0, b.agrees (second x) (second y) (has x p).1 (has y q).1)
        (sym (joined_cmp (text_a (first x)) (text_a (first y)) (a.elements (first x)) (a.elements (first y)) (text_b (second x)) (text_b (second y))));
    exact = λ x y _ e. let both = then_both _ _ e in one x y (a.exact (first x) (first y) both.0) (b.exact (second x) (second y) both.1);
  }

-- ---- members one after the other

-- by the first members that differ; members that begin others stand before them
abbrev pub by_members : {X : Type 0} → Order X → Order (List X)
by_members order = slice_cmp order

lists_exact : {X : Type 0} (R : X → X → Ordering) → ((x y : X) → R x y ≡ Equal → x ≡ y) → (xs ys : List X) → slice_cmp R xs ys ≡ Equal → xs ≡ ys
lists_exact R h [] [] e = refl
lists_exact R h [] (y ∷ ys) e = absurd cc
lists_exact R h (x ∷ xs) [] e = absurd cc
lists_exact R h (x ∷ xs) (y ∷ ys) e =
    let both = then_both (R x y) (slice_cmp R xs ys) e in
    let first = h x y both.0 in
    let rest = lists_exact R h xs ys both.1 in
    cc

module _ {X : Type 0} {Has : X → Type 0} {text : X → List ℕ} {order : Order X} (o : IsDerOrder Has text order) (joined : List X → List ℕ) (none : joined [] ≡ []) (more : (x : X) (xs : List X) → joined (x ∷ xs) ≡ text x ++ joined xs) where
  members_cmp : (xs ys : List X) → AllByRecursion Has xs → AllByRecursion Has ys → slice_cmp order xs ys ≡ bytes_cmp (joined xs) (joined ys)
  members_cmp [] [] p q = rw none refl
  members_cmp [] (y ∷ ys) p q = rw (none, more y ys) (sym (nothing_first (text y) (joined ys) (o.elements y)))
  members_cmp (x ∷ xs) [] p q = rw (none, more x xs) (sym (nothing_last (text x) (joined xs) (o.elements x)))
  members_cmp (x ∷ xs) (y ∷ ys) p q =
      rw (more x xs, more y ys, o.agrees x y p.0 q.0, members_cmp xs ys p.1 q.1)
      (sym (joined_cmp (text x) (text y) (o.elements x) (o.elements y) (joined xs) (joined ys)))

  -- the content is the texts of the members, one after the other
  pub by_members_lawful : (form : Form (List X)) (write : List X → Written (List X)) → ((xs : List X) → form.content xs ≡ joined xs) → ((xs : List X) → HasEncoding form write xs → AllByRecursion Has xs) → IsOrder form write (by_members order)
  by_members_lawful form write is has = record {
    total = lists_total o.total;
    agrees = λ xs ys p q. rw (is xs, is ys) (members_cmp xs ys (has xs p) (has ys q));
    exact = λ xs ys _ e. lists_exact order o.exact xs ys e;
  }
