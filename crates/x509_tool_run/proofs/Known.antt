-- Calls of readers and writers whose bytes std knows.
use Rattle.std.proofs.Common.{◌≡◌, ◌<◌, ℕ, suc, zero, List, [], ◌++◌, length, Option, Some, None, refl, ap, sym, ◌∙◌, arith, subst, append_assoc, append-nil, length-append}
use Rattle.std.specs.Io.KnownBytes.{Consumes, Appends, IsAtEnd}
use Rattle.x509_tool_run.specs.Transfer.{Moves, ReadGives, WriteTakes}
use Rattle.x509_tool_run.specs.Input.{Whole, TooLong, IsRead, input_limit}
use Rattle.x509_tool_run.specs.Program.{IsWritten}

-- bytes that are consumed begin the known ones
pub consumes-known : (old new : Option (List ℕ)) (known piece : List ℕ) → old ≡ Some known → Consumes old new piece → (rest : List ℕ) × (new ≡ Some rest) × (known ≡ piece ++ rest)
consumes-known None new known piece is h = absurd (cc)
consumes-known (Some xs) None known piece is h = absurd h
consumes-known (Some xs) (Some rest) known piece is h = (rest, refl, let same : xs ≡ known = cc in sym same ∙ h)

-- bytes that are appended follow the known ones
pub appends-known : (old new : Option (List ℕ)) (known piece : List ℕ) → old ≡ Some known → Appends old new piece → new ≡ Some (known ++ piece)
appends-known None new known piece is h = absurd (cc)
appends-known (Some xs) None known piece is h = absurd h
appends-known (Some xs) (Some ys) known piece is h = let same : xs ≡ known = cc in ap (λ zs. Some zs) (h ∙ ap (λ zs. zs ++ piece) same)

-- reads in a row give the first of the known bytes
pub Moves-reads : {S : Type 0} (remaining : S → Option (List ℕ)) (s : S) (calls : ℕ) (bytes : List ℕ) (t : S) (known : List ℕ) → remaining s ≡ Some known → Moves (λ old piece new. ReadGives (remaining old) piece (remaining new)) s calls bytes t → (rest : List ℕ) × (remaining t ≡ Some rest) × (known ≡ bytes ++ rest)
Moves-reads remaining s zero bytes t known is h =
    (known, ap remaining h.1 ∙ is, sym (ap (λ xs. xs ++ known) h.0))
Moves-reads remaining s (suc calls) bytes t known is h =
    let before = Moves-reads remaining s calls h.1 h.0 known is h.3 in
    let after = consumes-known (remaining h.0) (remaining t) before.0 h.2 before.1 h.4.0 in (
      after.0,
      after.1,
      before.2 ∙ ap (λ xs. h.1 ++ xs) after.2 ∙ sym (append_assoc h.1 h.2 after.0) ∙ sym (ap (λ xs. xs ++ after.0) h.6),
    )

-- writes in a row put their bytes after the known ones
pub Moves-writes : {S : Type 0} (contents : S → Option (List ℕ)) (s : S) (calls : ℕ) (text : List ℕ) (t : S) (known : List ℕ) → contents s ≡ Some known → Moves (λ old piece new. WriteTakes (contents old) piece (contents new)) s calls text t → contents t ≡ Some (known ++ text)
Moves-writes contents s zero text t known is h =
    ap contents h.1 ∙ is ∙ ap (λ xs. Some xs) (sym (append-nil known) ∙ ap (λ xs. known ++ xs) (sym h.0))
Moves-writes contents s (suc calls) text t known is h =
    let before = Moves-writes contents s calls h.1 h.0 known is h.3 in
    let after = appends-known (contents h.0) (contents t) (known ++ h.1) h.2 before h.4 in
    after ∙ ap (λ xs. Some xs) (append_assoc known h.1 h.2 ∙ ap (λ xs. known ++ xs) (sym h.6))

-- an input that was read whole is the known bytes
pub whole-known : {S : Type 0} (remaining : S → Option (List ℕ)) (s t : S) (known bytes : List ℕ) → remaining s ≡ Some known → IsRead (λ old piece new. ReadGives (remaining old) piece (remaining new)) s (Whole bytes) t → bytes ≡ known
whole-known remaining s t known bytes is h =
    let came = Moves-reads remaining s h.1 bytes h.0 known is h.2 in
    let last = consumes-known (remaining h.0) (remaining t) came.0 [] came.1 h.3.0 in
    let end : IsAtEnd (Some last.0) = subst IsAtEnd last.1 (h.3.1 refl) in
    sym (came.2 ∙ ap (λ xs. bytes ++ xs) (last.2 ∙ end) ∙ append-nil bytes)

-- an input that is too long comes of more known bytes than the limit
pub too_long-known : {S : Type 0} (remaining : S → Option (List ℕ)) (s t : S) (known : List ℕ) → remaining s ≡ Some known → IsRead (λ old piece new. ReadGives (remaining old) piece (remaining new)) s TooLong t → input_limit < length known
too_long-known remaining s t known is h =
    let came = Moves-reads remaining s h.1 h.0 t known is h.2 in
    rw came.2 (rw length-append (omega (arith, h.3)))

-- a written text stands after the known bytes
pub written-known : {S : Type 0} (contents : S → Option (List ℕ)) (s t : S) (known text : List ℕ) → contents s ≡ Some known → IsWritten (λ old piece new. WriteTakes (contents old) piece (contents new)) s text t → contents t ≡ Some (known ++ text)
written-known contents s t known text is h = Moves-writes contents s h.0 text t known is h.1
