-- What a program over objects prints of an input.
use Rattle.std.specs.Prelude.{◌≡◌, ◌⊎◌, ◌||◌, ◌==◌, ℕ, Bool, List, [], ◌∷◌, ◌++◌, not, codes, filter, map, Option, Some, None, Result, Ok, Err}
use Rattle.std.specs.Char.{is_ascii_whitespace}
use Rattle.std.specs.Fmt.{decimal}
use Rattle.hex.specs.Hex.{decode_of}
use Rattle.hex.specs.declared.error.FromHexError.{FromHexError}
use Rattle.x509_der.specs.declared.error.ErrorKind.TheVariants as kinds
use Rattle.x509_object_run.specs.Faults.{looks_of}
use Rattle.x509_object_run.specs.declared.fault.Fault.{Fault}
use Rattle.x509_object_run.specs.declared.fault.Fault.TheVariants as faults
use Rattle.x509_object_run.specs.declared.heading.Headed.{Headed}
use Rattle.x509_object_run.specs.declared.heading.Headed.TheVariants.{Not, Line, Name}
use Rattle.x509_object_run.specs.declared.heading.Heading.{Heading}
use Rattle.x509_object_run.specs.SignedData.{objects_of}
use Rattle.x509_object_run.specs.declared.fault.PrintError.{PrintError}
use Rattle.x509_object_run.specs.declared.fault.PrintError.TheVariants.{NoObject, Unwritten, Memory}
use Rattle.x509_tool_run.specs.Input.{Input, Whole, TooLong, Unreadable, Unkept}
use Rattle.x509_tool_run.specs.Pem.{pem_objects}
use Rattle.x509_tool_run.specs.Program.{IsWritten, IsCutOff}
use Rattle.x509_tool_run.specs.Scan.{Text}
use Rattle.x509_tool_run.specs.declared.refusal.Refusal.{Refusal}
use Rattle.x509_tool_run.specs.declared.refusal.Refusal.TheVariants.{Read, Because}

-- the bytes that hex text stands for, or else these others
abbrev pub decoded_or : List ℕ → Result (List ℕ) FromHexError → List ℕ
decoded_or others (Ok bytes) = bytes
decoded_or others (Err e) = others

-- what may stand between the digits of hex text: white space, and colons
abbrev pub is_between : ℕ → Bool
is_between byte = is_ascii_whitespace byte || (byte == 58)

-- the bytes that are none of it
abbrev pub digits_of : List ℕ → List ℕ
digits_of input = filter (λ byte. not (is_between byte)) input

-- the one object, where there is one
abbrev pub one_of : Option (List (List ℕ)) → Option (List ℕ)
one_of None = None
one_of (Some []) = None
one_of (Some (object ∷ [])) = Some object
one_of (Some (object ∷ other ∷ objects)) = None

abbrev pub else_text : List ℕ → Option (List ℕ) → List ℕ
else_text input (Some object) = object
else_text input None = decoded_or input (decode_of (digits_of input))

-- The bytes that an input is of: those of its PEM, where it has one object; those of its hex digits where it is hex text, white space and colons aside; else
-- the input itself.
abbrev pub object_bytes : List ℕ → List ℕ
object_bytes input = else_text input (one_of (pem_objects input))

-- the bytes of an input that isn't PEM: those of its hex digits where it is hex text, else itself
abbrev pub text_bytes : List ℕ → List ℕ
text_bytes input = else_text input None

-- What is told of: the bytes of an object, or why there is none.
abbrev pub Item : Type 0
Item = Result (List ℕ) Fault

-- a text of PEM
abbrev pub item_of : Text → Item
item_of (Ok bytes) = Ok bytes
item_of (Err why) = Err (faults.Unarmoured why)

-- the objects that an item stands for
abbrev pub objects_of_item : Item → List Item
objects_of_item (Ok bytes) = map (λ object. Ok object) (objects_of bytes)
objects_of_item (Err fault) = Err fault ∷ []

-- what an object of an input of several is called
abbrev pub numbered : List ℕ → ℕ → List ℕ
numbered label number = label ++ (codes ", object " ++ decimal number)

-- the text of a heading: a name, and what ends the line behind it
abbrev pub heading_text : Heading → List ℕ
heading_text h = h.name.now ++ h.end.now

-- how a stream may go from one state to another: bytes are moved, or a call fails
abbrev pub Steps : Type 0 → Type 1
Steps S = S → Option (List ℕ) → S → Type 0

-- what may be printed under a heading of bytes: a text, with a status
abbrev pub Prints : Type 1
Prints = List ℕ → List ℕ → List ℕ → ℕ → Type 0

-- a front of a text that may be printed, or nothing
abbrev pub IsFront : (List ℕ → ℕ → Type 0) → List ℕ → Type 0
IsFront prints front = (front ≡ []) ⊎ ((rest : List ℕ) × (status : ℕ) × prints (front ++ rest) status)

-- What printing bytes comes to. A text is written, and its status answered; or the bytes are no object, and nothing is written; or the
-- output takes only a front of a text; or memory is refused behind such a front.
abbrev pub IsPrinted : {W : Type 0} → (List ℕ → ℕ → Type 0) → Type 0 → Steps W → W → W → Result ℕ PrintError → Type 0
IsPrinted prints is_none takes old new (Ok status) = (text : List ℕ) × prints text status × IsWritten takes old text new
IsPrinted prints is_none takes old new (Err NoObject) = is_none × (new ≡ old)
IsPrinted prints is_none takes old new (Err Unwritten) = (text : List ℕ) × (status : ℕ) × prints text status × IsCutOff takes old text new
IsPrinted prints is_none takes old new (Err Memory) = (front : List ℕ) × IsFront prints front × IsWritten takes old front new

-- that answer, where what the bytes look like is told besides
abbrev pub with_looks : List ℕ → Result ℕ PrintError → Result ℕ Fault
with_looks bytes (Ok status) = Ok status
with_looks bytes (Err NoObject) = Err (faults.NoObject (looks_of bytes))
with_looks bytes (Err Unwritten) = Err faults.Unwritten
with_looks bytes (Err Memory) = Err faults.Memory

-- the heading of an input, where one is wanted
abbrev pub heading_for : Headed → List ℕ → List ℕ
heading_for Not label = []
heading_for Line label = label ++ codes ":\n"
heading_for Name label = label

-- What a printer says of its object. That a heading and bytes give a text and a status; that bytes are no object of its kind; how that is
-- told, and what in them is wrong where they are one SEQUENCE; what stands above it, where there are several inputs or there is one; and what is printed where
-- nothing whole is, under a heading, of bytes, or none where none are read, and by why it isn't.
pub record Subject : Type 1 where
  pub prints : Prints
  pub is_none : List ℕ → Type 0
  pub no_object : List ℕ
  pub wrong : List ℕ → List ℕ
  pub headed : Bool → Headed
  pub refused : List ℕ → List ℕ → Fault → List ℕ

-- bytes are printed under a heading
abbrev pub AreShown : {W : Type 0} → Subject → List ℕ → List ℕ → Steps W → W → W → Result ℕ Fault → Type 0
AreShown subject heading bytes takes old new result =
    (printed : Result ℕ PrintError)
    × IsPrinted (subject.prints heading bytes) (subject.is_none bytes) takes old new printed × (result ≡ with_looks bytes printed)

-- why an input isn't shown: it isn't read whole, or memory is refused
abbrev pub unread_fault : Input → Fault
unread_fault (Whole input) = faults.Memory
unread_fault TooLong = faults.TooLong
unread_fault Unreadable = faults.Unreadable
unread_fault Unkept = faults.Memory

-- why reading ends that a refusal tells of
abbrev pub fault_of : Refusal → Fault
fault_of Read = faults.Unreadable
fault_of (Because kinds.Overlength) = faults.TooLong
fault_of (Because kinds.Memory) = faults.Memory
fault_of (Because kinds.Malformed) = faults.Memory
fault_of (Because kinds.Failed) = faults.Memory
fault_of (Because kinds.SetDuplicate) = faults.Memory
fault_of (Because kinds.Value) = faults.Memory
