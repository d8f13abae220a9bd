-- What the program prints of the bytes of an object, and what its words ask for.
use Rattle.std.specs.Prelude.{◌≡◌, ℕ, Bool, true, false, List, [], ◌∷◌, ◌++◌, Option, Some, None, bytes_eq, codes, if◌then◌else◌}
use Rattle.std.specs.Option.{option_map}
use Rattle.x509_object_run.specs.Object.{Subject}
use Rattle.x509_object_run.specs.Program.{Program}
use Rattle.x509_object_run.specs.declared.heading.Headed.{Headed}
use Rattle.x509_object_run.specs.declared.heading.Headed.TheVariants.{Not, Line}
use Rattle.x509_refusal.specs.Objects.{farthest, refusal_as}
use Rattle.x509_refusal.specs.Words.{wrong_text}
use Rattle.x509_refusal.specs.declared.place.Kind.TheVariants as objects
use Rattle.x509_refusal.specs.declared.place.Refusal.{Refusal}
use Rattle.x509_show.specs.declared.show.Show.{Show}
use Rattle.x509_text.specs.Objects.{shown, shown_as}
use Rattle.x509_text.specs.declared.line.Style.{Style}
use Rattle.x509_text.specs.declared.line.Style.TheVariants.{Text, Json}
use Rattle.x509_text.specs.declared.objects.Kind.{Kind}
use Rattle.x509_text.specs.declared.objects.Kind.TheVariants.{Certificate, Crl, Csr, Anchor}

-- ---- words

-- the kind of object that a word names
abbrev pub kind_of : List ℕ → Option Kind
kind_of word =
    if bytes_eq word (codes "certificate") then Some Certificate
    else if bytes_eq word (codes "crl") then Some Crl
    else if bytes_eq word (codes "csr") then Some Csr
    else if bytes_eq word (codes "anchor") then Some Anchor
    else None

abbrev pub of_kind : Style → Kind → Show
of_kind style kind = record { kind = Some kind; style = style }

abbrev pub of_any_kind : Style → Show
of_any_kind style = record { kind = None; style = style }

-- a text for people, or with `--json` JSON
abbrev pub style_of : List (List ℕ) → Option Style
style_of [] = Some Text
style_of (option ∷ []) = if bytes_eq option (codes "--json") then Some Json else None
style_of (first ∷ second ∷ options) = None

-- the first name, which may be a kind's, and the others
abbrev pub asked_with : Style → Option Kind → List ℕ → List (List ℕ) → Show × List (List ℕ)
asked_with style (Some kind) name names = (of_kind style kind, names)
asked_with style None name names = (of_any_kind style, name ∷ names)

-- a kind of object in front of the names of inputs, or objects of any kind
abbrev pub asked_of : Style → List (List ℕ) → Show × List (List ℕ)
asked_of style [] = (of_any_kind style, [])
asked_of style (name ∷ names) = asked_with style (kind_of name) name names

abbrev pub asked : List (List ℕ) → List (List ℕ) → Option (Show × List (List ℕ))
asked options names = option_map (λ style. asked_of style names) (style_of options)

-- nothing more is told of words that ask for nothing
abbrev pub misuse : List (List ℕ) → List (List ℕ) → List ℕ
misuse options names = []

-- ---- what the program says of itself

abbrev pub usage : List ℕ
usage = codes "usage: x509_show [certificate|crl|csr|anchor] [--json] [FILE..]\n       x509_show --sct-input ISSUER [FILE]"

abbrev pub help : List ℕ
help =
    codes "usage: x509_show [certificate|crl|csr|anchor] [--json] [FILE..]\n"
    ++ codes "       x509_show --sct-input ISSUER [FILE]\n\n"
    ++ codes "Prints certificates, CRLs, CSRs and trust anchors, in DER, PEM or hex: a line for\n"
    ++ codes "each thing in them. Of PEM, PKCS #7 or CMS each object is printed by itself. A FILE that\n"
    ++ codes "is a directory stands for the files in it. Without a FILE, and where FILE is -, it reads\n"
    ++ codes "standard input.\n\n"
    ++ codes "  certificate, crl, csr, anchor  what each input is; without such a word it is tried\n"
    ++ codes "                                 as each of them, in this order\n"
    ++ codes "  --json                         prints a JSON array for each object\n"
    ++ codes "  --sct-input                    prints of each SCT within a certificate the ID of its log,\n"
    ++ codes "                                 what its signature is over (RFC 6962 3.2), and the\n"
    ++ codes "                                 signature, in hex; ISSUER is the certificate of its issuer\n"
    ++ codes "  --                             ends the options\n"
    ++ codes "  --help                         prints this text\n"
    ++ codes "  --version                      prints the version\n\n"
    ++ codes "Status: 0 where each input is printed, 2 where one is refused or the words are wrong.\n"

abbrev pub program : Program
program = record { name = codes "x509_show"; usage = usage; help = help }

-- ---- what is printed

-- how it is told that bytes are no encoding of what was asked for
abbrev pub no_object : Option Kind → List ℕ
no_object None = codes "not a certificate, CRL, CSR or trust anchor in DER, PEM or hex"
no_object (Some Certificate) = codes "not a certificate in DER, PEM or hex"
no_object (Some Crl) = codes "not a CRL in DER, PEM or hex"
no_object (Some Csr) = codes "not a CSR in DER, PEM or hex"
no_object (Some Anchor) = codes "not a trust anchor in DER, PEM or hex"

-- the document of the object that was asked for
abbrev pub document_of : Option Kind → Style → List ℕ → Option (List ℕ)
document_of None style bytes = shown style bytes
document_of (Some kind) style bytes = shown_as kind style bytes

-- this document under a heading, with status 0
abbrev pub IsDocument : List ℕ → Option (List ℕ) → List ℕ → ℕ → Type 0
IsDocument heading (Some document) text status = (text ≡ heading ++ document) × (status ≡ 0)
IsDocument heading None text status = ⊥

-- the documents of several inputs stand under headings; JSON has none
abbrev pub headed : Style → Bool → Headed
headed Text true = Line
headed Text false = Not
headed Json is_several = Not

-- where bytes stop being an object of the kind that is asked for, or of the one that they are most like; of a trust anchor it isn't known
abbrev pub refusal_for : Option Kind → List ℕ → Option Refusal
refusal_for None bytes = farthest bytes
refusal_for (Some Certificate) bytes = refusal_as objects.Certificate bytes
refusal_for (Some Crl) bytes = refusal_as objects.Crl bytes
refusal_for (Some Csr) bytes = refusal_as objects.Csr bytes
refusal_for (Some Anchor) bytes = None

-- what in them is wrong
abbrev pub wrong : Option Kind → List ℕ → List ℕ
wrong kind bytes = wrong_text (refusal_for kind bytes)

abbrev pub subject : Show → Subject
subject show = record {
  prints = λ heading bytes text status. IsDocument heading (document_of show.kind show.style bytes) text status;
  is_none = λ bytes. document_of show.kind show.style bytes ≡ None;
  no_object = no_object show.kind;
  wrong = wrong show.kind;
  headed = headed show.style;
  refused = λ heading bytes fault. [];
}
