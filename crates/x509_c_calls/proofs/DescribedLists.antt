-- Lists of the members that are given.
use Rattle.std.proofs.Common.{◌≡◌, ◌∙◌, ℕ, List, [], Result, Ok, Err, ap, inr}
use Rattle.x509_c_calls.specs.Calls.{Encodes}
use Rattle.x509_c_calls.specs.DescribedParts.{EncodesList}
use Rattle.x509_c_calls.specs.Input.{SpellEach}
use Rattle.x509_der.specs.Form.{Form, spelling, universal}
use Rattle.x509_der.specs.List.{joined, list_of, members_writing}
use Rattle.x509_der.specs.Writing.{Writing, writes}
use Rattle.x509_der.specs.declared.error.ErrorKind.{ErrorKind}
use Rattle.x509_der.specs.declared.tag.Tag.TheVariants.{Sequence}

module _ {X : Type 0} (form : Form X) (bytes : List ℕ) (members : List X) (each : SpellEach form members bytes) (some : bytes ≡ [] → ⊥) where
  -- there is one where there is a byte
  pub some_members : members ≡ [] → ⊥
  unfolding joined
  some_members none = some (each.1 ∙ ap (joined (spelling form)) none)

  -- what is written of them is written of the bytes
  pub listed : (writing : Writing X) (refuses : ErrorKind → Type 0) (answer : Result (List ℕ) ErrorKind)
      → Encodes (universal Sequence (list_of form)) (writes (members_writing writing) members) answer → EncodesList form writing refuses bytes answer
  listed writing refuses (Ok made) encodes = (members, (each, some_members), encodes)
  listed writing refuses (Err e) encodes = inr (members, (each, some_members), encodes)
