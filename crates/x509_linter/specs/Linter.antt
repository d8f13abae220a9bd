-- What the program prints of the bytes of an object, and what its words ask for.
use Rattle.std.specs.Prelude.{◌≡◌, ◌&&◌, ◌||◌, not, ℕ, Bool, true, false, List, [], ◌∷◌, ◌++◌, Option, Some, None, Result, Ok, Err, bytes_eq, codes, string_bytes, if◌then◌else◌}
use Rattle.std.specs.List.{list_all}
use Rattle.std.specs.Option.{option_map}
use Rattle.x509_base.specs.CivilTime.{CivilTime}
use Rattle.x509_base.specs.TimeReading.{is_date_time, named_by_text}
use Rattle.x509_base.specs.TimeText.{date_time_text}
use Rattle.x509_lint.specs.declared.report.Kind.{Kind}
use Rattle.x509_lint.specs.declared.report.Kind.TheVariants.{Certificate, Crl, Csr, Anchor}
use Rattle.x509_lint.specs.declared.report.Report.{Report}
use Rattle.x509_linter.specs.Choice.{are_mixed, is_choice, is_right, names_rules, takes_value}
use Rattle.x509_linter.specs.Said.{is_said_by}
use Rattle.x509_linter.specs.declared.linter.Linter.{Linter}
use Rattle.x509_linter.specs.declared.linter.Telling.{Telling}
use Rattle.x509_linter.specs.declared.linter.Telling.TheVariants.{Lines, Verbose, Json, VerboseJson}
use Rattle.x509_linter.specs.declared.said.Moment.{Moment}
use Rattle.x509_linter.specs.declared.said.Moment.TheVariants.{At, NotBefore}
use Rattle.x509_linter.specs.declared.said.Rules.{Rules}
use Rattle.x509_linter.specs.declared.said.Rules.TheVariants.{Rfc, Web, Both}
use Rattle.x509_object_run.specs.Faults.{told_text}
use Rattle.x509_object_run.specs.Labels.{word_label}
use Rattle.x509_object_run.specs.Object.{Steps, Subject}
use Rattle.x509_object_run.specs.Program.{Program}
use Rattle.x509_linter.specs.Wrong.{fault_members, wrong}
use Rattle.x509_object_run.specs.Words.{has_option}
use Rattle.x509_object_run.specs.declared.fault.Fault.{Fault}
use Rattle.x509_object_run.specs.declared.fault.Fault.TheVariants as faults
use Rattle.x509_object_run.specs.declared.fault.PrintError.{PrintError}
use Rattle.x509_object_run.specs.declared.fault.PrintError.TheVariants.{Memory, NoObject, Unwritten}
use Rattle.x509_object_run.specs.declared.heading.Headed.{Headed}
use Rattle.x509_object_run.specs.declared.heading.Headed.TheVariants.{Not, Line, Name}
use Rattle.x509_text.specs.Lines.{shown}
use Rattle.x509_text.specs.declared.line.Style.TheVariants as styles
use Rattle.x509_tool_run.specs.Answer.{as_line}
use Rattle.x509_tool_run.specs.Program.{IsCutOff, IsWritten}

-- ---- words

-- the kind of object that a word names
abbrev pub kind_of : List ℕ → Option Kind
kind_of word =
    if bytes_eq word (codes "certificate") then Some Certificate
    else if bytes_eq word (codes "crl") then Some Crl
    else if bytes_eq word (codes "csr") then Some Csr
    else if bytes_eq word (codes "anchor") then Some Anchor
    else None

-- an option that asks for the Baseline Requirements, and one that asks for the rules of RFC 5280 and the others beside these
abbrev pub is_web : List ℕ → Bool
is_web option = bytes_eq option (codes "--web")

abbrev pub is_rfc : List ℕ → Bool
is_rfc option = bytes_eq option (codes "--rfc")

-- `-v`: whether it is said of an object that nothing was found; `--json`: objects of JSON
abbrev pub is_verbose : List ℕ → Bool
is_verbose option = bytes_eq option (codes "-v")

abbrev pub is_json : List ℕ → Bool
is_json option = bytes_eq option (codes "--json")

-- one of these
abbrev pub asks_something : List ℕ → Bool
asks_something option = is_web option || (is_rfc option || (is_verbose option || is_json option))

-- whether each of these options stands once
abbrev pub are_single : List (List ℕ) → Bool
are_single [] = true
are_single (option ∷ options) = not (has_option option options) && are_single options

abbrev pub has_web : List (List ℕ) → Bool
has_web options = has_option (codes "--web") options

abbrev pub has_rfc : List (List ℕ) → Bool
has_rfc options = has_option (codes "--rfc") options

-- rules of RFC 5280 and the others are asked beside none
abbrev pub is_rfc_alone : List (List ℕ) → Bool
is_rfc_alone options = has_rfc options && not (has_web options)

-- options that ask for something, in any order
abbrev pub are_asking : List (List ℕ) → Bool
are_asking options = (list_all asks_something options && are_single options) && not (is_rfc_alone options)

abbrev pub telling_by : Bool → Bool → Telling
telling_by false false = Lines
telling_by true false = Verbose
telling_by false true = Json
telling_by true true = VerboseJson

abbrev pub telling_of : List (List ℕ) → Telling
telling_of options = telling_by (has_option (codes "-v") options) (has_option (codes "--json") options)

abbrev pub of_kind : Telling → Kind → Linter
of_kind telling kind = record { kind = Some kind; telling = telling; rules = Rfc }

abbrev pub of_any_kind : Telling → Linter
of_any_kind telling = record { kind = None; telling = telling; rules = Rfc }

-- the first name, which may be a kind's, and the others
abbrev pub asked_with : Telling → Option Kind → List ℕ → List (List ℕ) → Linter × List (List ℕ)
asked_with telling (Some kind) name names = (of_kind telling kind, names)
asked_with telling None name names = (of_any_kind telling, name ∷ names)

-- a kind of object in front of the names of inputs, or objects of any kind
abbrev pub asked_of : Telling → List (List ℕ) → Linter × List (List ℕ)
asked_of telling [] = (of_any_kind telling, [])
asked_of telling (name ∷ names) = asked_with telling (kind_of name) name names

-- the date-time with this text, `YYYY-MM-DDTHH:MM:SSZ`
abbrev pub date_time_with : List ℕ → CivilTime → Option CivilTime
date_time_with text m = if is_date_time m && bytes_eq (date_time_text m) text then Some m else None

abbrev pub date_time_named : List ℕ → Option CivilTime
date_time_named text = date_time_with text (named_by_text text)

abbrev pub is_not_before : List ℕ → Bool
is_not_before word = bytes_eq word (codes "not-before")

-- the moment that a word names: that of each certificate's notBefore, or a date-time
abbrev pub moment_of : List ℕ → Option Moment
moment_of word = if is_not_before word then Some NotBefore else option_map At (date_time_named word)

-- the rules of the Baseline Requirements at a moment, and those of RFC 5280 and the others where they are asked beside
abbrev pub rules_at : Bool → Moment → Rules
rules_at true moment = Both moment
rules_at false moment = Web moment

abbrev pub web_at : Bool → Telling → List (List ℕ) → Option Moment → Option (Linter × List (List ℕ))
web_at both telling names None = None
web_at both telling names (Some moment) = Some (record { kind = Some Certificate; telling = telling; rules = rules_at both moment }, names)

-- a moment in front of the names of inputs, which are certificates
abbrev pub web_of : Bool → Telling → List (List ℕ) → Option (Linter × List (List ℕ))
web_of both telling [] = None
web_of both telling (moment ∷ names) = web_at both telling names (moment_of moment)

abbrev pub asked_by : List (List ℕ) → List (List ℕ) → Option (Linter × List (List ℕ))
asked_by options names =
    if has_web options then web_of (has_rfc options) (telling_of options) names else Some (asked_of (telling_of options) names)

abbrev pub asked : List (List ℕ) → List (List ℕ) → Option (Linter × List (List ℕ))
asked options names = if are_asking options then asked_by options names else None

-- of a word that has to be a moment it is told that it is none
abbrev pub moment_misuse : List ℕ → Option Moment → List ℕ
moment_misuse word (Some moment) = []
moment_misuse word None = codes "x509_linter: not a moment, as 2026-03-15T00:00:00Z is one: " ++ (word_label word ++ codes "\n")

abbrev pub web_misuse : List (List ℕ) → List ℕ
web_misuse [] = codes "x509_linter: --web stands without a moment\n"
web_misuse (word ∷ names) = moment_misuse word (moment_of word)

-- an option that may stand among others
abbrev pub is_known : List ℕ → Bool
is_known option = asks_something option || is_right option

-- what is told in front of another
abbrev pub wrong_told : List ℕ → List ℕ
wrong_told option =
    if names_rules option then codes "x509_linter: no such rule: "
    else if is_choice option then codes "x509_linter: no such level, as error, warning and notice are: "
    else if takes_value option then codes "x509_linter: nothing stands behind "
    else codes "x509_linter: no such option: "

-- of the first option that stands again behind it that is told, or nothing
abbrev pub repeat_misuse : List (List ℕ) → List ℕ
repeat_misuse [] = []
repeat_misuse (option ∷ options) =
    if has_option option options then codes "x509_linter: stands twice: " ++ (word_label option ++ codes "\n") else repeat_misuse options

-- where each may stand among others, of a summary in JSON, of rules that are asked beside none, or of one that stands twice
abbrev pub end_misuse : List (List ℕ) → List ℕ
end_misuse options =
    if are_mixed options then codes "x509_linter: --count prints no JSON\n"
    else if is_rfc_alone options then codes "x509_linter: --rfc stands without --web\n"
    else repeat_misuse options

-- of the first option that may not stand among others it is told why
abbrev pub wrong_misuse : List (List ℕ) → List (List ℕ) → List ℕ
wrong_misuse all [] = end_misuse all
wrong_misuse all (option ∷ options) =
    if is_known option then wrong_misuse all options else wrong_told option ++ (word_label option ++ codes "\n")

abbrev pub option_misuse : List (List ℕ) → List ℕ
option_misuse options = wrong_misuse options options

-- what is told of words that ask for nothing
abbrev pub misuse : List (List ℕ) → List (List ℕ) → List ℕ
misuse options names = if are_asking options && has_web options then web_misuse names else option_misuse options

-- ---- what the program says of itself

abbrev pub usage : List ℕ
usage = codes "usage: x509_linter [certificate|crl|csr|anchor] [-v] [--json] [CHOICE..] [FILE..]\n       x509_linter --web [--rfc] [-v] [--json] [CHOICE..] MOMENT [FILE..]"

abbrev pub help : List ℕ
help =
    codes "usage: x509_linter [certificate|crl|csr|anchor] [-v] [--json] [CHOICE..] [FILE..]\n       x509_linter --web [--rfc] [-v] [--json] [CHOICE..] MOMENT [FILE..]\n\n"
    ++ codes "Tells which rules certificates, CRLs (RFC 5280), CSRs (RFC 2986, 2985) and trust anchors\n"
    ++ codes "(RFC 5914) break, in DER, PEM or hex: a line for each, with its section. Of PEM, PKCS #7 or CMS\n"
    ++ codes "each object is told of by itself. A FILE that is a directory stands for the files in it. Without\n"
    ++ codes "a FILE, and where FILE is -, it reads standard input.\n\n"
    ++ codes "  certificate, crl, csr, anchor  what each input is; without such a word it is tried as each\n"
    ++ codes "                                 of them, in this order\n"
    ++ codes "  --web                          tells which rules of the Baseline Requirements of the\n"
    ++ codes "                                 CA/Browser Forum certificates break, of those in force at\n"
    ++ codes "                                 MOMENT, as 2026-03-15T00:00:00Z, or 2026-03-15 for that, or\n"
    ++ codes "                                 not-before for the notBefore of each certificate\n"
    ++ codes "  --rfc                          with --web, tells of each certificate first which rules of RFC\n"
    ++ codes "                                 5280 and the others it breaks\n"
    ++ codes "  -v                             says so where nothing is found, or where no rule applies\n"
    ++ codes "  --json                         prints an object of JSON for each finding; with -v also where\n"
    ++ codes "                                 nothing is found or an input is refused\n"
    ++ codes "  --only RULE, --without RULE    reports findings of these rules alone, or none of these; each\n"
    ++ codes "                                 may stand several times, and RULE is a name as it is printed\n"
    ++ codes "  --level error|warning|notice   from which severity on a finding makes status 1: an error, a\n"
    ++ codes "                                 warning too, or also what isn't judged\n"
    ++ codes "  --count                        prints each line once for all inputs, behind how often it\n"
    ++ codes "                                 stands there\n"
    ++ codes "  --                             ends the options\n"
    ++ codes "  --help                         prints this text\n"
    ++ codes "  --version                      prints the version\n\n"
    ++ codes "CHOICE is one of the options --only, --without, --level and --count. Status: 0 where no rule is\n"
    ++ codes "broken that has to be kept, warnings aside; 1 where one is; 2 where an input is refused or the\n"
    ++ codes "words are wrong. With a CHOICE, 0 and 1 are of the findings that are reported.\n"

abbrev pub program : Program
program = record { name = codes "x509_linter"; usage = usage; help = help }

-- ---- what is printed

-- how it is told that bytes are no encoding of what was asked for
abbrev pub no_object : Option Kind → List ℕ
no_object None = codes "not a certificate, CRL, CSR or trust anchor in DER, PEM or hex"
no_object (Some Certificate) = codes "not a certificate in DER, PEM or hex"
no_object (Some Crl) = codes "not a CRL in DER, PEM or hex"
no_object (Some Csr) = codes "not a CSR in DER, PEM or hex"
no_object (Some Anchor) = codes "not a trust anchor in DER, PEM or hex"

-- 1 where a rule is broken that has to be kept
abbrev pub status_of : Bool → ℕ
status_of true = 1
status_of false = 0

-- of several inputs each has a heading; JSON has the name in each object
abbrev pub headed : Telling → Bool → Headed
headed Lines true = Line
headed Lines false = Not
headed Verbose true = Line
headed Verbose false = Not
headed Json is_several = Name
headed VerboseJson is_several = Name

-- the brace and the member `file` in front of the members of a finding
abbrev pub json_front : List ℕ → List ℕ
json_front name = codes "{\"file\": \"" ++ (shown styles.Json name ++ codes "\", ")

abbrev pub front_for : Telling → List ℕ → Option (List ℕ)
front_for Lines name = None
front_for Verbose name = None
front_for Json name = Some (json_front name)
front_for VerboseJson name = Some (json_front name)

-- what is said of an object of which nothing is found, where a rule was asked or none was
abbrev pub clean_words : Bool → List ℕ
clean_words true = codes "nothing found"
clean_words false = codes "no rule applies"

-- the same as an object of JSON in a line
abbrev pub clean_json : Bool → List ℕ → List ℕ
clean_json is_asked name = ((json_front name ++ codes "\"result\": \"") ++ clean_words is_asked) ++ codes "\"}\n"

abbrev pub clean : Telling → Bool → List ℕ → List ℕ
clean Lines is_asked heading = []
clean Verbose is_asked heading = heading ++ as_line (clean_words is_asked)
clean Json is_asked heading = []
clean VerboseJson is_asked heading = clean_json is_asked heading

-- whether it is printed too that an input is refused
abbrev pub tells_refusals : Telling → Bool
tells_refusals Lines = false
tells_refusals Verbose = false
tells_refusals Json = false
tells_refusals VerboseJson = true

-- whether it is the output that failed
abbrev pub is_unwritten : Fault → Bool
is_unwritten (faults.Unopened e) = false
is_unwritten faults.Unreadable = false
is_unwritten faults.TooLong = false
is_unwritten (faults.Unarmoured why) = false
is_unwritten (faults.NoObject looks) = false
is_unwritten faults.Unwritten = true
is_unwritten faults.Memory = false

-- an object of JSON that says why, with further members
abbrev pub refused_json : List ℕ → List ℕ → List ℕ → List ℕ
refused_json name reason members =
    ((((json_front name ++ codes "\"result\": \"refused\", \"reason\": \"") ++ reason) ++ codes "\"") ++ members) ++ codes "}\n"

abbrev pub refused : Telling → Option Kind → List ℕ → List ℕ → Fault → List ℕ
refused telling kind name bytes fault =
    if tells_refusals telling && not (is_unwritten fault) then refused_json name (told_text (no_object kind) (wrong kind bytes) fault) (fault_members kind bytes fault)
    else []

-- findings under a heading, which JSON doesn't have
abbrev pub found : Telling → List ℕ → List ℕ → List ℕ
found Lines heading findings = heading ++ findings
found Verbose heading findings = heading ++ findings
found Json heading findings = findings
found VerboseJson heading findings = findings

-- the lines of the findings under a heading; without findings no heading
abbrev pub told : Telling → Bool → List ℕ → List ℕ → List ℕ
told telling is_asked heading [] = clean telling is_asked heading
told telling is_asked heading (first ∷ others) = found telling heading (first ∷ others)

-- what writing a text comes to: it is written, or the output takes only a front of it, or memory is refused before
abbrev pub IsPut : {W : Type 0} → Steps W → W → List ℕ → W → Result Unit PrintError → Type 0
IsPut takes old text new (Ok done) = IsWritten takes old text new
IsPut takes old text new (Err Unwritten) = IsCutOff takes old text new
IsPut takes old text new (Err Memory) = new ≡ old
IsPut takes old text new (Err NoObject) = ⊥

-- what is told of the report on bytes
abbrev pub Tells : Linter → List ℕ → List ℕ → List ℕ → ℕ → Type 0
Tells linter heading bytes text status =
    (report : Report) × is_said_by linter.rules linter.kind (front_for linter.telling heading) bytes (Some report)
    × (text ≡ told linter.telling true heading (string_bytes report.text)) × (status ≡ status_of report.has_error)

abbrev pub IsNone : Linter → List ℕ → Type 0
IsNone linter bytes = is_said_by linter.rules linter.kind None bytes None

abbrev pub subject : Linter → Subject
subject linter = record {
  prints = Tells linter;
  is_none = IsNone linter;
  no_object = no_object linter.kind;
  wrong = wrong linter.kind;
  headed = headed linter.telling;
  refused = refused linter.telling linter.kind;
}
