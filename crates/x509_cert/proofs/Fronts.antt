-- What stands in front of what follows an element.
use Rattle.std.proofs.Common.{◌≡◌, ℕ, ◌+◌, ◌-◌, ◌≤◌, eqb, List, ◌++◌, length, take, Ok, refl, ap, ◌∙◌, arith, length-append}
use Rattle.std.proofs.lemmas.Bool.{eqb-true, eq-eqb}
use Rattle.std.proofs.lemmas.List.{append-nil, take_at}
use Rattle.x509_der.specs.Element.{element}
use Rattle.x509_der.specs.ElementLaws.{piece_at-sound}
use Rattle.x509_der.specs.ElementReading.{Piece, piece_at}
use Rattle.x509_der.specs.OutcomeLaws.{ok_is, bind_ok, test_ok}
use Rattle.x509_der.specs.declared.error.ErrorKind.TheVariants.{Malformed}
use Rattle.x509_der.specs.Form.{alone, is_empty, whole_reading}
use Rattle.x509_der.specs.FormLaws.{is_empty-true}
use Rattle.x509_der.specs.Frames.{field_at}
use Rattle.x509_cert.specs.ElementParts.{any_element, lent, lent_inside}

whole_is : (tag : ℕ) (bytes content : List ℕ) → whole_reading (any_element tag).reading bytes ≡ Ok content → bytes ≡ element tag content
unfolding whole_reading
whole_is tag bytes content e =
    let a = bind_ok (piece_at bytes) (alone (any_element tag).reading) content e in
    let g = test_ok (is_empty a.0.rest) Malformed ((any_element tag).reading a.0.tag a.0.content) content a.2 in
    let t = test_ok (eqb a.0.tag tag) Malformed (Ok a.0.content) content g.1 in
    (piece_at-sound bytes a.0 a.1).0 ∙ rw (eqb-true a.0.tag tag t.0, ok_is a.0.content content t.1, is_empty-true a.0.rest g.0) (append-nil (element tag content))

module _ (bytes : List ℕ) (p : Piece) (e : piece_at bytes ≡ Ok p) where
  is : bytes ≡ element p.tag p.content ++ p.rest
  is = (piece_at-sound bytes p e).0

  pub rest_fits : length p.rest ≤ length bytes
  rest_fits = omega (arith, ap length is, length-append (element p.tag p.content) p.rest)

  front_is : take (length bytes - length p.rest) bytes ≡ element p.tag p.content
  front_is = rw is (take_at (element p.tag p.content) p.rest (length (element p.tag p.content ++ p.rest) - length p.rest) (omega (arith, length-append (element p.tag p.content) p.rest)))

  pub taken : (tag : ℕ) → p.tag ≡ tag → (lent tag).reading bytes ≡ Ok (take (length bytes - length p.rest) bytes, p.rest)
  unfolding lent field_at
  taken tag same = rw (e, front_is, same, eq-eqb tag tag refl) refl

  -- inside an explicit tag
  pub taken_inside : (n tag : ℕ) (content : List ℕ) → p.tag ≡ 160 + n → whole_reading (any_element tag).reading p.content ≡ Ok content → (lent_inside n tag).reading bytes ≡ Ok (p.content, p.rest)
  unfolding lent_inside field_at
  taken_inside n tag content same whole =
      let inner : p.content ≡ element tag content = whole_is tag p.content content whole in
      rw (e, same, eq-eqb (160 + n) (160 + n) refl, whole, inner) refl
