-- Texts that are copied out of elements.
use Rattle.std.proofs.Common.{◌≡◌, ◌<◌, ℕ, Bool, true, List, length, Result, Ok, Err, IfOk, IfErr, inl}
use Rattle.x509_der.specs.declared.error.Error.{Error}
use Rattle.x509_der.specs.declared.error.ErrorKind.TheVariants.{Memory}
use Rattle.x509_der.specs.Tag.{octet_of}
use Rattle.x509_der.specs.declared.tag.Tag.{Tag}
use Rattle.x509_der.specs.declared.any.Any.{Any}
use Rattle.x509_prim.specs.Borrowed.{CopiesTextFrom}

-- a copy of the content, or why there is none, where the element is one of the type
pub copied_text : (wanted : Tag) (is_text : List ℕ → Bool) (any : Any) (answer : Result (List ℕ) Error) → octet_of any.tag ≡ octet_of wanted → is_text any.value ≡ true → IfOk answer (λ string. string ≡ any.value) → IfErr answer (λ e. (e.kind ≡ Memory) × (24 < length any.value)) → CopiesTextFrom wanted is_text any answer
copied_text wanted is_text any (Ok string) tag text ok err = (tag, text, ok)
copied_text wanted is_text any (Err e) tag text ok err = inl (err.0, tag, text, err.1)
