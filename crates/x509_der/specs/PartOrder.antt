-- The byte order of sequences, field by field (X.690 8.9, 11.6). Where a field is left out of one of two values, what follows it there stands against
-- the field of the other, and their first octets decide.
use Rattle.std.specs.Prelude.{◌≡◌, ◌≤◌, ◌+◌, ℕ, true, false, List, [], ◌∷◌, ◌++◌, length, Option, Some, None, IfSome, if◌then◌else◌, refl}
use Rattle.std.specs.Option.{option_cmp, option_map}
use Rattle.std.specs.Ordering.{nat_cmp, ordering_then, then_cmp, on}
use Rattle.std.specs.declared.cmp.Ordering.{Ordering}
use Rattle.std.specs.declared.cmp.Ordering.TheVariants.{Less, Equal, Greater}
use Rattle.std.specs.Cmp.{IsTotalOrder}
use Rattle.std.specs.Cmp.Lexicographic.{options_total}
use Rattle.std.proofs.Common.{◌⊎◌, ap, sym, ◌∙◌, subst, append-nil, append_assoc, length-append, inl, inr, arith}
use Rattle.std.proofs.lemmas.Cmp.{nat_cmp_total, on_total, then_total}
use Rattle.std.proofs.lemmas.Map.Lookups.{exact_unsigned}
use Rattle.std.proofs.lemmas.Bool.{true≢false}
use Rattle.x509_der.specs.declared.error.ErrorKind.{ErrorKind}
use Rattle.x509_der.specs.declared.tag.Tag.{Tag}
use Rattle.x509_der.specs.Tag.{octet_of}
use Rattle.x509_der.specs.Element.{element, limit}
use Rattle.x509_der.specs.Form.{Form, HasTag, is_in, one_tag, spelling, universal}
use Rattle.x509_der.specs.Writing.{Writing, Written, plain, respelling, writes, in_option, first}
use Rattle.x509_der.specs.Order.{Order, IsOrder, bytes_cmp, counted, der_order}
use Rattle.x509_der.specs.OrderLaws.{content_length, then_assoc, then_equal, then_both, joined_cmp}
use Rattle.x509_der.specs.Ordered.{der_lawful}
use Rattle.x509_der.specs.Frames.{Part, BeginsIn, nothing, begins, IsClearOf, are_apart, implicit, implicit_tag, explicit, required, optional, optional_octets, Default, IsDefault, defaulted, default_octets, ◌⊗◌, fields, fields_octets, fields_good}
use Rattle.x509_der.specs.FrameLaws.{clear_left, clear_right, clear_before, begins_append}

-- ---- first octets

abbrev pub first_octet : List ℕ → Option ℕ
first_octet [] = None
first_octet (octet ∷ bytes) = Some octet

-- the first octet of bytes that are followed by others
abbrev pub octet_or : Option ℕ → Option ℕ → Option ℕ
octet_or None next = next
octet_or (Some octet) next = Some octet

-- nothing stands before any octet
abbrev pub octets_cmp : Order (Option ℕ)
octets_cmp = option_cmp nat_cmp

-- ---- an order on a part

-- A part of a sequence with an order of its values, told from each value and from the first octet of what follows it. front is the first octet of the
-- value's own text; writing is how the values are written.
pub record PartOrder (X : Type 0) : Type 1 where
  pub part : Part X
  pub writing : Writing X
  pub front : X → Option ℕ
  pub cmp : Order (X × Option ℕ)

-- there is an encoding of the value, which is what is written
abbrev pub IsEncoded : {X : Type 0} → PartOrder X → X → Type 0
IsEncoded o x = o.part.good x × (writes o.writing x ≡ writes plain x) × (length (o.part.text x) ≤ limit)

-- The order is total; it is the byte order of the texts where there are encodings, whatever follows them; and no two values are equal in it.
pub record IsPartOrder {X : Type 0} (o : PartOrder X) : Type 0 where
  pub fronts : (x : X) → first_octet (o.part.text x) ≡ o.front x
  pub starts : (x : X) → o.part.good x → BeginsIn o.part.starts (o.part.text x)
  pub total : IsTotalOrder o.cmp
  pub agrees : (x y : X) (u v : List ℕ) → IsEncoded o x → IsEncoded o y → IsClearOf o.part.avoids u → IsClearOf o.part.avoids v
      → bytes_cmp (o.part.text x ++ u) (o.part.text y ++ v) ≡ ordering_then (o.cmp (x, first_octet u) (y, first_octet v)) (bytes_cmp u v)
  pub exact : (x y : X) (m n : Option ℕ) → o.cmp (x, m) (y, n) ≡ Equal → x ≡ y

-- each value that has a spelling begins as the form says
abbrev pub BeginsSo : {X : Type 0} → Form X → Type 0
BeginsSo {X} form = (x : X) → form.good x → is_in (form.tag x) form.starts ≡ true

first_append : (a u : List ℕ) → first_octet (a ++ u) ≡ octet_or (first_octet a) (first_octet u)
first_append [] u = refl
first_append (octet ∷ a) u = refl

twice : (o r : Ordering) → ordering_then o (ordering_then o r) ≡ ordering_then o r
twice Less r = refl
twice Equal r = refl
twice Greater r = refl

by_first : (u v : List ℕ) → bytes_cmp u v ≡ ordering_then (octets_cmp (first_octet u) (first_octet v)) (bytes_cmp u v)
by_first [] [] = refl
by_first [] (b ∷ v) = refl
by_first (a ∷ u) [] = refl
by_first (a ∷ u) (b ∷ v) = sym (twice (nat_cmp a b) (bytes_cmp u v))

element_begins : (tag : ℕ) (content : List ℕ) → first_octet (element tag content) ≡ Some tag
unfolding element
element_begins tag content = refl

element_starts : (starts : List ℕ) (tag : ℕ) (content : List ℕ) → is_in tag starts ≡ true → BeginsIn starts (element tag content)
unfolding element
element_starts starts tag content i = begins tag _ i

-- ---- tags of the context-specific class

-- how many octets the element of the value has as the content of another; one more than the limit where that can't be written
abbrev pub counted_within : {X : Type 0} → Form X → (X → Written X) → X → ℕ
counted_within form write = counted (explicit 0 form) write

-- an element is as long under another identifier octet
pub counted_retagged : {X : Type 0} (n : ℕ) (form : Form X) (write : X → Written X) (x : X) → counted (implicit n form) write x ≡ counted form write x
unfolding element
counted_retagged n form write x = refl

pub counted_wrapped : {X : Type 0} (n : ℕ) (form : Form X) (write : X → Written X) (x : X) → counted (explicit n form) write x ≡ counted_within form write x
unfolding element
counted_wrapped n form write x = refl

-- elements under identifier octets, with the values that stand in them
abbrev pub retagged_order : {P X : Type 0} → (P → ℕ) → (P → X) → Form X → (X → Written X) → Order X → Order P
retagged_order tag value form write order = then_cmp (on tag nat_cmp) (on value (then_cmp (on (counted form write) nat_cmp) order))

-- elements with those of the values in them
abbrev pub wrapped_order : {P X : Type 0} → (P → ℕ) → (P → X) → Form X → (X → Written X) → Order X → Order P
wrapped_order tag value form write order = then_cmp (on tag nat_cmp) (on value (then_cmp (on (counted_within form write) nat_cmp) (der_order form write order)))

-- what may be absent, as it is seen: what it holds, and its identifier octet
abbrev pub Holds : {P X : Type 0} → (P → ℕ) → (P → X) → ℕ → Option P → Option X → Type 0
Holds tag value octet None None = Unit
Holds tag value octet None (Some x) = ⊥
Holds tag value octet (Some p) None = ⊥
Holds tag value octet (Some p) (Some x) = (tag p ≡ octet) × (value p ≡ x)

pub held_octet : {P X : Type 0} (tag : P → ℕ) (value : P → X) (octet : ℕ) (p : Option P) (x : Option X) → Holds tag value octet p x → option_map tag p ≡ option_map (λ _. octet) x
held_octet tag value octet None None h = refl
held_octet tag value octet None (Some x) h = absurd h
held_octet tag value octet (Some p) None h = absurd h
held_octet tag value octet (Some p) (Some x) h = ap Some h.0

-- references to what may be absent, as they are seen
pub seen_octet : {P X : Type 0} (value : P → X) (tag : X → ℕ) (p : Option P) (x : Option X) → option_map value p ≡ x → option_map (λ q. tag (value q)) p ≡ option_map tag x
seen_octet value tag None x e = ap (option_map tag) e
seen_octet value tag (Some p) x e = ap (option_map tag) e

pub seen_order : {P X : Type 0} (value : P → X) (order : Order X) (p q : Option P) (x y : Option X) → option_map value p ≡ x → option_map value q ≡ y → option_cmp (on value order) p q ≡ option_cmp order x y
seen_order value order None None x y e f = rw (← e, ← f) refl
seen_order value order None (Some q) x y e f = rw (← e, ← f) refl
seen_order value order (Some p) None x y e f = rw (← e, ← f) refl
seen_order value order (Some p) (Some q) x y e f = rw (← e, ← f) refl

module _ {P X : Type 0} (tag : P → ℕ) (value : P → X) (n : ℕ) (form : Form X) (write : X → Written X) (order : Order X) where
  pub held_retagged : (p q : Option P) (x y : Option X) → Holds tag value (implicit_tag n (one_tag form)) p x → Holds tag value (implicit_tag n (one_tag form)) q y
      → option_cmp (retagged_order tag value form write order) p q ≡ option_cmp (der_order (implicit n form) write order) x y
  held_retagged None None None None h k = refl
  held_retagged None (Some q) None (Some y) h k = refl
  held_retagged (Some p) None (Some x) None h k = refl
  held_retagged (Some p) (Some q) (Some x) (Some y) h k = rw (h.0, k.0, h.1, k.1, counted_retagged n form write x, counted_retagged n form write y) refl
  held_retagged None q (Some x) y h k = absurd h
  held_retagged (Some p) q None y h k = absurd h
  held_retagged p None x (Some y) h k = absurd k
  held_retagged p (Some q) x None h k = absurd k

  pub held_wrapped : (p q : Option P) (x y : Option X) → Holds tag value (160 + n) p x → Holds tag value (160 + n) q y
      → option_cmp (wrapped_order tag value form write order) p q ≡ option_cmp (der_order (explicit n form) write (der_order form write order)) x y
  held_wrapped None None None None h k = refl
  held_wrapped None (Some q) None (Some y) h k = refl
  held_wrapped (Some p) None (Some x) None h k = refl
  held_wrapped (Some p) (Some q) (Some x) (Some y) h k = rw (h.0, k.0, h.1, k.1, counted_wrapped n form write x, counted_wrapped n form write y) refl
  held_wrapped None q (Some x) y h k = absurd h
  held_wrapped (Some p) q None y h k = absurd h
  held_wrapped p None x (Some y) h k = absurd k
  held_wrapped p (Some q) x None h k = absurd k

as_long : (s t : ℕ) (content : List ℕ) (most : ℕ) → length (element s content) ≤ most → length (element t content) ≤ most
unfolding element
as_long s t content most h = h

pub implicit_ordered : {X : Type 0} (n : ℕ) (form : Form X) (w : Writing X) (order : Order X) → HasTag (one_tag form) form → IsOrder form (writes w) order → IsOrder (implicit n form) (writes w) order
implicit_ordered n form w order fixed h = record {
  total = h.total;
  agrees = λ x y p q. h.agrees x y (p.0, p.1, as_long _ (form.tag x) (form.content x) limit p.2) (q.0, q.1, as_long _ (form.tag y) (form.content y) limit q.2);
  exact = λ x y p e. h.exact x y (fixed x ∙ sym (fixed y)) e;
}

pub explicit_ordered : {X : Type 0} (n : ℕ) (form : Form X) (w : Writing X) (order : Order X) → IsOrder form (writes w) order → IsOrder (explicit n form) (writes w) (der_order form (writes w) order)
explicit_ordered n form w order h =
    let d = der_lawful form (writes w) order h in
    record {
      total = d.total;
      agrees = λ x y p q. d.agrees x y (p.0, p.1, content_length (160 + n) (spelling form x) limit p.2) (q.0, q.1, content_length (160 + n) (spelling form y) limit q.2);
      exact = λ x y p e. d.exact x y e;
    }

-- ---- x: a field that is required

abbrev pub by_required : {X : Type 0} → Form X → Writing X → Order X → PartOrder X
by_required form w order = record {
  part = required form;
  writing = w;
  front = λ x. Some (form.tag x);
  cmp = on (λ p. p.0) (der_order form (writes w) order);
}

pub required_ordered : {X : Type 0} (form : Form X) (w : Writing X) (order : Order X) → BeginsSo form → IsOrder form (writes w) order → IsPartOrder (by_required form w order)
required_ordered form w order so h =
    let d = der_lawful form (writes w) order h in
    record {
      fronts = λ x. element_begins (form.tag x) (form.content x);
      starts = λ x good. element_starts form.starts (form.tag x) (form.content x) (so x good);
      total = on_total (λ p. p.0) d.total;
      agrees = λ x y u v p q _ _. rw (d.agrees x y p q) (joined_cmp (spelling form x) (spelling form y) (d.elements x) (d.elements y) u v);
      exact = λ x y m n e. d.exact x y e;
    }

-- ---- x?: a field that may be absent

-- by the first octets of the fields or of what follows them, then by the fields
abbrev pub option_then : {X : Type 0} → (X → ℕ) → Order X → Order (Option X × Option ℕ)
option_then tag order = then_cmp (on (λ p. octet_or (option_map tag p.0) p.1) octets_cmp) (on (λ p. p.0) (option_cmp order))

abbrev pub by_optional : {X : Type 0} → Form X → Writing X → Order X → PartOrder (Option X)
by_optional form w order = record {
  part = optional form;
  writing = in_option w;
  front = option_map form.tag;
  cmp = option_then form.tag (der_order form (writes w) order);
}

option_total : {X : Type 0} (tag : X → ℕ) (order : Order X) → IsTotalOrder order → IsTotalOrder (option_then tag order)
option_total tag order total = then_total (on_total (λ p. octet_or (option_map tag p.0) p.1) (options_total nat_cmp_total)) (on_total (λ p. p.0) (options_total total))

options_exact : {X : Type 0} (order : Order X) → ((x y : X) → order x y ≡ Equal → x ≡ y) → (x y : Option X) → option_cmp order x y ≡ Equal → x ≡ y
options_exact order h None None e = refl
options_exact order h None (Some y) e = absurd cc
options_exact order h (Some x) None e = absurd cc
options_exact order h (Some x) (Some y) e = ap Some (h x y e)

option_exact : {X : Type 0} (tag : X → ℕ) (order : Order X) → ((x y : X) → order x y ≡ Equal → x ≡ y) → (x y : Option X) (m n : Option ℕ) → option_then tag order (x, m) (y, n) ≡ Equal → x ≡ y
option_exact tag order h x y m n e = options_exact order h x y (then_both _ _ e).1

-- an order that tells two apart settles what follows it
settled : (o a b c : Ordering) → (o ≡ Equal → ⊥) → ordering_then o a ≡ ordering_then (ordering_then o b) c
settled Less a b c p = refl
settled Equal a b c p = absurd (p refl)
settled Greater a b c p = refl

differ : (s t : ℕ) (starts : List ℕ) → is_in s starts ≡ false → is_in t starts ≡ true → nat_cmp s t ≡ Equal → ⊥
differ s t starts out in_ e = let same = exact_unsigned s t e in true≢false (sym in_ ∙ rw (← same) out)

differ_behind : (s t : ℕ) (starts : List ℕ) → is_in s starts ≡ false → is_in t starts ≡ true → nat_cmp t s ≡ Equal → ⊥
differ_behind s t starts out in_ e = let same = exact_unsigned t s e in true≢false (sym in_ ∙ rw same out)

against : (starts : List ℕ) (tag : ℕ) (content u v : List ℕ) → is_in tag starts ≡ true → IsClearOf starts u → bytes_cmp u (element tag content ++ v) ≡ ordering_then (ordering_then (octets_cmp (first_octet u) (Some tag)) Less) (bytes_cmp u v)
unfolding element
against starts tag content [] v i clear = refl
against starts tag content (s ∷ u) v i clear = settled (nat_cmp s tag) _ Less (bytes_cmp (s ∷ u) v) (differ s tag starts clear i)

behind : (starts : List ℕ) (tag : ℕ) (content u v : List ℕ) → is_in tag starts ≡ true → IsClearOf starts v → bytes_cmp (element tag content ++ u) v ≡ ordering_then (ordering_then (octets_cmp (Some tag) (first_octet v)) Greater) (bytes_cmp u v)
unfolding element
behind starts tag content u [] i clear = refl
behind starts tag content u (s ∷ v) i clear = settled (nat_cmp tag s) _ Greater (bytes_cmp u (s ∷ v)) (differ_behind s tag starts clear i)

der_by_tag : {X : Type 0} (form : Form X) (write : X → Written X) (order : Order X) (x y : X) → ordering_then (nat_cmp (form.tag x) (form.tag y)) (der_order form write order x y) ≡ der_order form write order x y
der_by_tag form write order x y = twice (nat_cmp (form.tag x) (form.tag y)) _

as_written : {X : Type 0} (w : Writing X) (x : X) → writes (in_option w) (Some x) ≡ writes plain (Some x) → writes w x ≡ writes plain x
as_written plain x e = refl
as_written (respelling by) x e =
    let value : Some (by x).value ≡ Some x = ap (λ written. written.value) e in
    let same : (by x).value ≡ x = cc in
    let refusal : (by x).refusal ≡ None = ap (λ written. written.refusal) e in
    λ i. record { value = same i; refusal = refusal i }

module _ {X : Type 0} (form : Form X) (w : Writing X) (order : Order X) (so : BeginsSo form) (h : IsOrder form (writes w) order) where
  optional_agrees : (x y : Option X) (u v : List ℕ) → IsEncoded (by_optional form w order) x → IsEncoded (by_optional form w order) y → IsClearOf form.starts u → IsClearOf form.starts v
      → bytes_cmp (optional_octets (spelling form) x ++ u) (optional_octets (spelling form) y ++ v) ≡ ordering_then (option_then form.tag (der_order form (writes w) order) (x, first_octet u) (y, first_octet v)) (bytes_cmp u v)
  optional_agrees None None u v p q c d = rw (then_equal (octets_cmp (first_octet u) (first_octet v))) (by_first u v)
  optional_agrees None (Some y) u v p q c d = against form.starts (form.tag y) (form.content y) u v (so y q.0) c
  optional_agrees (Some x) None u v p q c d = behind form.starts (form.tag x) (form.content x) u v (so x p.0) d
  optional_agrees (Some x) (Some y) u v p q c d =
      let l = der_lawful form (writes w) order h in
      rw (der_by_tag form (writes w) order x y, l.agrees x y (p.0, as_written w x p.1, p.2) (q.0, as_written w y q.1, q.2)) (joined_cmp (spelling form x) (spelling form y) (l.elements x) (l.elements y) u v)

  optional_fronts : (x : Option X) → first_octet (optional_octets (spelling form) x) ≡ option_map form.tag x
  optional_fronts None = refl
  optional_fronts (Some x) = element_begins (form.tag x) (form.content x)

  optional_starts : (x : Option X) → IfSome x form.good → BeginsIn form.starts (optional_octets (spelling form) x)
  optional_starts None good = nothing
  optional_starts (Some x) good = element_starts form.starts (form.tag x) (form.content x) (so x good)

  pub optional_ordered : IsPartOrder (by_optional form w order)
  optional_ordered = record {
    fronts = optional_fronts;
    starts = optional_starts;
    total = option_total form.tag (der_order form (writes w) order) (der_lawful form (writes w) order h).total;
    agrees = optional_agrees;
    exact = option_exact form.tag (der_order form (writes w) order) (der_lawful form (writes w) order h).exact;
  }

-- ---- x=d: a field with a default

-- the value where it isn't the default
abbrev pub other_than_default : {X : Type 0} → Default X → X → Option X
other_than_default default x = if default.is_default x then None else Some x

abbrev pub by_default : {X : Type 0} → Default X → Form X → Order X → PartOrder X
by_default default form order = record {
  part = defaulted default form;
  writing = plain;
  front = λ x. option_map form.tag (other_than_default default x);
  cmp = on (λ p. (other_than_default default p.0, p.1)) (option_then form.tag (der_order form (writes plain) order));
}

module _ {X : Type 0} (default : Default X) (form : Form X) (order : Order X) (lawful : IsDefault default) (so : BeginsSo form) (h : IsOrder form (writes plain) order) where
  default_text : (x : X) → default_octets default (spelling form) x ≡ optional_octets (spelling form) (other_than_default default x)
  unfolding default_octets
  default_text x = elim (default.is_default x) as (λ b. (if b then [] else spelling form x) ≡ optional_octets (spelling form) (if b then None else Some x)) [ true ↦ refl | false ↦ refl ]

  default_good : (x : X) → (default.is_default x ≡ true) ⊎ form.good x → IfSome (other_than_default default x) form.good
  default_good x (inl is) = rw is tt
  default_good x (inr good) = elim (default.is_default x) as (λ b. IfSome (if b then None else Some x) form.good) [ true ↦ tt | false ↦ good ]

  default_exact : (x y : X) → other_than_default default x ≡ other_than_default default y → x ≡ y
  default_exact x y = elim (default.is_default x) as (λ b. default.is_default x ≡ b → (if b then None else Some x) ≡ other_than_default default y → x ≡ y) [
    | true ↦ λ p. elim (default.is_default y) as (λ c. default.is_default y ≡ c → None ≡ (if c then None else Some y) → x ≡ y) [
      | true ↦ λ q e. lawful.only x p ∙ sym (lawful.only y q)
      | false ↦ λ q e. absurd cc
    ] refl
    | false ↦ λ p. elim (default.is_default y) as (λ c. default.is_default y ≡ c → Some x ≡ (if c then None else Some y) → x ≡ y) [
      | true ↦ λ q e. absurd cc
      | false ↦ λ q e. cc
    ] refl
  ] refl

  pub default_ordered : IsPartOrder (by_default default form order)
  default_ordered =
      let o = optional_ordered form plain order so h in
      record {
        fronts = λ x. rw (default_text x) (o.fronts (other_than_default default x));
        starts = λ x good. rw (default_text x) (o.starts (other_than_default default x) (default_good x good));
        total = on_total (λ p. (other_than_default default p.0, p.1)) o.total;
        agrees = λ x y u v p q c d.
            rw (default_text x, default_text y)
            (o.agrees (other_than_default default x) (other_than_default default y) u v (default_good x p.0, refl, subst (λ (text : List ℕ). length text ≤ limit) (default_text x) p.2) (default_good y q.0, refl, subst (λ (text : List ℕ). length text ≤ limit) (default_text y) q.2) c d);
        exact = λ x y m n e. default_exact x y (o.exact (other_than_default default x) (other_than_default default y) m n e);
      }

-- ---- one part and another behind it

-- values both of which are written by functions of their own
abbrev pub in_pair : {X Y : Type 0} → Writing X → Writing Y → Writing (X × Y)
in_pair plain plain = plain
in_pair plain (respelling g) = respelling (λ p. record { value = (p.0, (g p.1).value); refusal = (g p.1).refusal })
in_pair (respelling f) plain = respelling (λ p. record { value = ((f p.0).value, p.1); refusal = (f p.0).refusal })
in_pair (respelling f) (respelling g) = respelling (λ p. record { value = ((f p.0).value, (g p.1).value); refusal = first (g p.1).refusal (f p.0).refusal })

infixr 9 ◌⊕◌
abbrev pub ◌⊕◌ : {X Y : Type 0} → PartOrder X → PartOrder Y → PartOrder (X × Y)
p ⊕ q = record {
  part = p.part ⊗ q.part;
  writing = in_pair p.writing q.writing;
  front = λ x. octet_or (p.front x.0) (q.front x.1);
  cmp = then_cmp (on (λ x. (x.0.0, octet_or (q.front x.0.1) x.1)) p.cmp) (on (λ x. (x.0.1, x.1)) q.cmp);
}

is_plain : {X : Type 0} (f : X → Written X) (x : X) → (f x).value ≡ x → (f x).refusal ≡ None → f x ≡ writes plain x
is_plain f x value refusal = λ i. record { value = value i; refusal = refusal i }

none_of_two : (a b : Option ErrorKind) → first a b ≡ None → (a ≡ None) × (b ≡ None)
none_of_two None b e = (refl, e)
none_of_two (Some a) b e = absurd cc

both_plain : {X Y : Type 0} (f : Writing X) (g : Writing Y) (p : X × Y) → writes (in_pair f g) p ≡ writes plain p → (writes f p.0 ≡ writes plain p.0) × (writes g p.1 ≡ writes plain p.1)
both_plain plain plain p e = (refl, refl)
both_plain plain (respelling g) p e = (refl, is_plain g p.1 (λ i. (e i).value.1) (λ i. (e i).refusal))
both_plain (respelling f) plain p e = (is_plain f p.0 (λ i. (e i).value.0) (λ i. (e i).refusal), refl)
both_plain (respelling f) (respelling g) p e =
    let none = none_of_two (g p.1).refusal (f p.0).refusal (λ i. (e i).refusal) in
    (is_plain f p.0 (λ i. (e i).value.0) none.1, is_plain g p.1 (λ i. (e i).value.1) none.0)

no_longer : (a b : List ℕ) (most : ℕ) → length (a ++ b) ≤ most → (length a ≤ most) × (length b ≤ most)
no_longer a b most h = (omega (arith, h, length-append a b), omega (arith, h, length-append a b))

module _ {X Y : Type 0} (p : PartOrder X) (q : PartOrder Y) (hp : IsPartOrder p) (hq : IsPartOrder q) where
  pair_fronts : (x : X × Y) → first_octet (p.part.text x.0 ++ q.part.text x.1) ≡ octet_or (p.front x.0) (q.front x.1)
  pair_fronts x = first_append (p.part.text x.0) (q.part.text x.1) ∙ rw (hp.fronts x.0, hq.fronts x.1) refl

  next_octet : (y : Y) (u : List ℕ) → first_octet (q.part.text y ++ u) ≡ octet_or (q.front y) (first_octet u)
  next_octet y u = first_append (q.part.text y) u ∙ rw (hq.fronts y) refl

  pair_agrees : are_apart p.part.avoids q.part.starts ≡ true → (x y : X × Y) (u v : List ℕ) → IsEncoded (p ⊕ q) x → IsEncoded (p ⊕ q) y → IsClearOf (p.part.avoids ++ q.part.avoids) u → IsClearOf (p.part.avoids ++ q.part.avoids) v
      → bytes_cmp ((p.part.text x.0 ++ q.part.text x.1) ++ u) ((p.part.text y.0 ++ q.part.text y.1) ++ v) ≡ ordering_then ((p ⊕ q).cmp (x, first_octet u) (y, first_octet v)) (bytes_cmp u v)
  pair_agrees apart x y u v k l c d =
      let kw = both_plain p.writing q.writing x k.1 in
      let lw = both_plain p.writing q.writing y l.1 in
      let kl = no_longer (p.part.text x.0) (q.part.text x.1) limit k.2 in
      let ll = no_longer (p.part.text y.0) (q.part.text y.1) limit l.2 in
      let front = hp.agrees x.0 y.0 (q.part.text x.1 ++ u) (q.part.text y.1 ++ v) (k.0.0, kw.0, kl.0) (l.0.0, lw.0, ll.0)
      (clear_before p.part.avoids q.part.starts (q.part.text x.1) u apart (hq.starts x.1 k.0.1) (clear_left p.part.avoids q.part.avoids u c))
      (clear_before p.part.avoids q.part.starts (q.part.text y.1) v apart (hq.starts y.1 l.0.1) (clear_left p.part.avoids q.part.avoids v d)) in
      let rest = hq.agrees x.1 y.1 u v (k.0.1, kw.1, kl.1) (l.0.1, lw.1, ll.1) (clear_right p.part.avoids q.part.avoids u c) (clear_right p.part.avoids q.part.avoids v d) in
      rw (append_assoc (p.part.text x.0) (q.part.text x.1) u, append_assoc (p.part.text y.0) (q.part.text y.1) v, front, rest, next_octet x.1 u, next_octet y.1 v)
      (sym (then_assoc (p.cmp (x.0, octet_or (q.front x.1) (first_octet u)) (y.0, octet_or (q.front y.1) (first_octet v))) (q.cmp (x.1, first_octet u) (y.1, first_octet v)) (bytes_cmp u v)))

  pub pair_ordered : are_apart p.part.avoids q.part.starts ≡ true → IsPartOrder (p ⊕ q)
  pair_ordered apart = record {
    fronts = pair_fronts;
    starts = λ x good. begins_append p.part.starts q.part.starts (p.part.text x.0) (q.part.text x.1) (hp.starts x.0 good.0) (hq.starts x.1 good.1);
    total = then_total (on_total (λ x. (x.0.0, octet_or (q.front x.0.1) x.1)) hp.total) (on_total (λ x. (x.0.1, x.1)) hq.total);
    agrees = pair_agrees apart;
    exact = λ x y m n e.
        let ties = then_both _ _ e in
        let first = hp.exact x.0 y.0 _ _ ties.0 in
        let second = hq.exact x.1 y.1 m n ties.1 in
        λ i. (first i, second i);
  }

-- ---- the fields of a sequence

-- by the fields; nothing follows them
abbrev pub by_parts : {X Y : Type 0} → (Y → X) → PartOrder X → Order Y
by_parts to o = on (λ y. (to y, None)) o.cmp

pub parts_ordered : {X Y : Type 0} (tag : Tag) (to : Y → X) (from : X → Y) (o : PartOrder X) (w : Writing Y) → ((y : Y) → from (to y) ≡ y)
    → ((y : Y) → writes w y ≡ writes plain y → writes o.writing (to y) ≡ writes plain (to y)) → IsPartOrder o → IsOrder (universal tag (fields to from o.part)) (writes w) (by_parts to o)
unfolding fields_octets fields_good
parts_ordered tag to from o w back same h = record {
  total = on_total (λ y. (to y, None)) h.total;
  agrees = λ x y p q.
      let l = content_length (octet_of tag) (o.part.text (to x)) limit p.2 in
      let r = content_length (octet_of tag) (o.part.text (to y)) limit q.2 in
      let all = h.agrees (to x) (to y) [] [] (p.0, same x p.1, l) (q.0, same y q.1, r) tt tt in
      sym (rw (append-nil (o.part.text (to x)), append-nil (o.part.text (to y)), then_equal (o.cmp (to x, None) (to y, None))) at all);
  exact = λ x y _ e. sym (back x) ∙ ap from (h.exact (to x) (to y) None None e) ∙ back y;
}

-- of a type that is written as it is
pub plain_parts_ordered : {X Y : Type 0} (tag : Tag) (to : Y → X) (from : X → Y) (o : PartOrder X) → ((y : Y) → from (to y) ≡ y) → o.writing ≡ plain → IsPartOrder o
    → IsOrder (universal tag (fields to from o.part)) (writes plain) (by_parts to o)
plain_parts_ordered tag to from o back same h = parts_ordered tag to from o plain back (λ y e. ap (λ writing. writes writing (to y)) same) h
