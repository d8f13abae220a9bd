-- What the program answers to a path of certificates and a moment.
use Rattle.std.specs.Prelude.{◌≡◌, ℕ, List, [], ◌∷◌, ◌++◌, codes, ◌==◌, Option, Some, None, Result, Ok, Err}
use Rattle.std.specs.List.{slice_split}
use Rattle.hex.specs.Hex.{decode_of}
use Rattle.x509_codec.specs.Answers.{PathStep}
use Rattle.x509_der.specs.declared.error.ErrorKind.{ErrorKind}
use Rattle.x509_der.specs.declared.error.ErrorKind.TheVariants.{Failed}
use Rattle.x509_tool_run.specs.declared.refusal.Refusal.{Refusal}
use Rattle.x509_tool_run.specs.declared.refusal.Refusal.TheVariants.{Because}
use Rattle.x509_tool_run.specs.Answer.{as_line, text_of}
use Rattle.x509_tool_run.specs.Pem.{in_front, pem_objects}

-- what is said of a path: nothing where it holds, else its first fault; or a refusal
abbrev pub Verdict : Type 0
Verdict = Result (Option (List ℕ)) Refusal

-- the texts between single spaces
abbrev pub texts_of : List ℕ → List (List ℕ)
texts_of line = slice_split (λ byte. byte == 32) line

-- the bytes that texts stand for, where each is hex text
abbrev pub decode_all : List (List ℕ) → Option (List (List ℕ))
decode_all [] = Some []
decode_all (text ∷ texts) = in_front (decode_of text) (decode_all texts)

-- the objects of PEM, or else what hex texts stand for
abbrev pub objects_or : List ℕ → Option (List (List ℕ)) → Option (List (List ℕ))
objects_or line None = None
objects_or line (Some []) = decode_all (texts_of line)
objects_or line (Some (object ∷ objects)) = Some (object ∷ objects)

-- the certificates that a line has, which may be lines of PEM
abbrev pub certificates_of : List ℕ → Option (List (List ℕ))
certificates_of line = objects_or line (pem_objects line)

-- what was said, as a verdict
abbrev pub said : Result (Option (List ℕ)) ErrorKind → Verdict
said (Ok fault) = Ok fault
said (Err kind) = Err (Because kind)

-- the verdict on certificates, the anchor's in front of one or more; fewer are refused
abbrev pub IsVerdict : PathStep → List ℕ → Option (List (List ℕ)) → Verdict → Type 0
IsVerdict checks moment (Some (anchor ∷ certificate ∷ others)) verdict =
    (given : Result (Option (List ℕ)) ErrorKind) × checks moment anchor (certificate ∷ others) given × (verdict ≡ said given)
IsVerdict checks moment (Some (anchor ∷ [])) verdict = verdict ≡ Err (Because Failed)
IsVerdict checks moment (Some []) verdict = verdict ≡ Err (Because Failed)
IsVerdict checks moment None verdict = verdict ≡ Err (Because Failed)

-- the verdict on a line with certificates
abbrev pub IsPathLine : PathStep → List ℕ → List ℕ → Verdict → Type 0
IsPathLine checks moment line verdict = IsVerdict checks moment (certificates_of line) verdict

-- how a fault reads
abbrev pub fault_text : List ℕ → List ℕ
fault_text fault = codes "fault " ++ fault

-- the line that tells of a fault, none where there is no fault
abbrev pub fault_line : Option (List ℕ) → Option (List ℕ)
fault_line None = None
fault_line (Some fault) = Some (as_line (fault_text fault))

-- how a verdict reads
abbrev pub verdict_text : Verdict → List ℕ
verdict_text (Ok None) = codes "ok"
verdict_text (Ok (Some fault)) = fault_text fault
verdict_text (Err refusal) = text_of (Err refusal)

-- the status that tells of a verdict
abbrev pub verdict_status : Verdict → ℕ
verdict_status (Ok None) = 0
verdict_status (Ok (Some fault)) = 1
verdict_status (Err refusal) = 1
