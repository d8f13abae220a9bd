-- A type with one field: each of its values is one value within and nothing else.
use Rattle.std.specs.Prelude.{◌≡◌, Ok, refl}
use Rattle.std.proofs.Common.{sym, ◌∙◌, ap, inl, inr}
use Rattle.x509_der.specs.declared.error.ErrorKind.{ErrorKind}
use Rattle.x509_der.specs.Outcome.{◌>>=◌}
use Rattle.x509_der.specs.OutcomeLaws.{bind_ok, bind_err, ok_is, not_refused}
use Rattle.x509_der.specs.declared.tag.Tag.{Tag}
use Rattle.x509_der.specs.Tag.{octet_of}
use Rattle.x509_der.specs.Form.{Form, IsForm, HasTag, Contents, IsContents, contents_of, universal}
use Rattle.x509_der.specs.FormLaws.{contents_of_lawful, universal_lawful}
use Rattle.x509_der.specs.StableLaws.{with_field_stable}
use Rattle.x509_der.specs.Writing.{Writing, plain, respelling, writes, with_field, IsStable}

pub record Round (Y X : Type 0) : Type 0 where
  pub to : Y → X
  pub from : X → Y
  pub back : (y : Y) → from (to y) ≡ y
  pub there : (x : X) → to (from x) ≡ x

-- a type that contracts see as the value within
abbrev pub same : {X : Type 0} → Round X X
same = record { to = λ x. x; from = λ x. x; back = λ x. refl; there = λ x. refl }

-- the content octets are those of the value within
abbrev pub round_contents : {X Y : Type 0} → Round Y X → Contents X → Contents Y
round_contents round contents = record {
  octets = λ y. contents.octets (round.to y);
  good = λ y. contents.good (round.to y);
  reading = λ bytes. contents.reading bytes >>= λ x. Ok (round.from x);
}

-- the value within is written as it is written alone
abbrev pub round_writing : {X Y : Type 0} → Round Y X → Writing X → Writing Y
round_writing round writing = with_field round.to (λ y x. round.from x) writing

module _ {X Y : Type 0} (round : Round Y X) where
  pub round_lawful : {R : ErrorKind → Type 0} (contents : Contents X) → IsContents R contents → IsContents R (round_contents round contents)
  round_lawful contents h = record {
    sound = λ bytes y e.
        let a = bind_ok (contents.reading bytes) (λ x. Ok (round.from x)) y e in
        let is : round.to y ≡ a.0 = ap round.to (sym (ok_is (round.from a.0) y a.2)) ∙ round.there a.0 in
        rw is (h.sound bytes a.0 a.1);
    complete = λ y g. rw (h.complete (round.to y) g, round.back y) refl;
    refused = λ bytes e r. elim (bind_err (contents.reading bytes) (λ x. Ok (round.from x)) e r) [
      | inl k ↦ h.refused bytes e k
      | inr k ↦ not_refused (round.from k.0) e k.2
    ];
  }

  -- the element of the value within, as a value of the type
  abbrev pub rounded : Tag → Form X → Form Y
  rounded tag form = universal tag (round_contents round (contents_of (octet_of tag) form))

  pub rounded_lawful : {R : ErrorKind → Type 0} (tag : Tag) (form : Form X) → HasTag (octet_of tag) form → IsForm R form → IsForm R (rounded tag form)
  rounded_lawful tag form fixed h = universal_lawful tag _ (round_lawful (contents_of (octet_of tag) form) (contents_of_lawful (octet_of tag) form fixed h))

  -- what is written of the type is what is written of the value within
  pub round_within : (writing : Writing X) (y : Y) → round.to (writes (round_writing round writing) y).value ≡ (writes writing (round.to y)).value
  round_within plain y = refl
  round_within (respelling by) y = round.there (by (round.to y)).value

  pub round_refusal : (writing : Writing X) (y : Y) → (writes (round_writing round writing) y).refusal ≡ (writes writing (round.to y)).refusal
  round_refusal plain y = refl
  round_refusal (respelling by) y = refl

  -- what is written once more is as it was, where it is so of the value within
  pub round_stable : {good : X → Type 0} (writing : Writing X) → IsStable good writing → IsStable (λ (y : Y). good (round.to y)) (round_writing round writing)
  round_stable writing stable = with_field_stable round.to (λ y x. round.from x) writing (λ y x. round.there x) (λ y x z. refl) (λ y g. g) (λ y x g h. rw (round.there x) h) stable
