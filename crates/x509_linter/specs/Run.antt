-- What the program does, from its words to its status.
use Rattle.std.specs.Prelude.{◌⊎◌, ◌&&◌, not, ℕ, Bool, true, false, List, [], ◌∷◌, ◌++◌, ◌==◌, Option, Some, None, codes, length, if◌then◌else◌}
use Rattle.x509_linter.specs.Choice.{choose, has_count, plain_options}
use Rattle.x509_linter.specs.Chosen.{chosen_subject}
use Rattle.x509_linter.specs.Count.{IsCounted}
use Rattle.x509_linter.specs.Linter.{asked, has_web, is_not_before, misuse, program, subject}
use Rattle.x509_linter.specs.declared.linter.Linter.{Linter}
use Rattle.x509_object_run.specs.Object.{Subject}
use Rattle.x509_object_run.specs.Program.{AreNamedDone, IsUnkept, Streams, World, call_from}
use Rattle.x509_object_run.specs.Program as runs
use Rattle.x509_object_run.specs.Words.{inputs_of, names_of, options_of}

-- what words ask for that choose among findings: what the others of their options ask for
abbrev pub chosen_of : List (List ℕ) → List (List ℕ) → Option (Linter × List (List ℕ))
chosen_of options names = if choose options then asked (plain_options options) names else None

-- the options of which the run over objects makes what it can: those that choose nothing, where each of the others is right
abbrev pub others_of : List (List ℕ) → List (List ℕ)
others_of options = if choose options then plain_options options else options

-- what is said of inputs is printed, or summed up
abbrev pub AreReported : {R F W E : Type 0} → World R F W E → Subject → Bool → List (List ℕ) → Streams R W E → Streams R W E → ℕ → Type 0
AreReported world subject true inputs old new status = IsCounted world subject inputs old new status
AreReported world subject false inputs old new status = AreNamedDone program subject world inputs old new status

-- the findings are reported that options choose, or the run over objects does what is asked for
abbrev pub IsAsked : {R F W E : Type 0} → World R F W E → List (List ℕ) → List (List ℕ) → Option (Linter × List (List ℕ)) → Streams R W E → Streams R W E → ℕ → Type 0
IsAsked world options names (Some found) old new status =
    AreReported world (chosen_subject found.0 options) (has_count options) (inputs_of found.1) old new status
IsAsked world options names None old new status = runs.IsRun program subject world (call_from asked misuse (others_of options) names) old new status

-- by options and names
abbrev pub IsObeyed : {R F W E : Type 0} → World R F W E → List (List ℕ) → List (List ℕ) → Streams R W E → Streams R W E → ℕ → Type 0
IsObeyed world options names old new status = IsAsked world options names (chosen_of options names) old new status

-- or there is no memory for the words
abbrev pub IsTried : {R F W E : Type 0} → World R F W E → List (List ℕ) → List (List ℕ) → Streams R W E → Streams R W E → ℕ → Type 0
IsTried world options names old new status = IsObeyed world options names old new status ⊎ IsUnkept program world.takes_errors old new status

-- whether a word has as many characters as a date, `YYYY-MM-DD`, and doesn't name notBefore
abbrev pub is_date : List ℕ → Bool
is_date word = (length word == 10) && not (is_not_before word)

-- the text of a moment: of a date alone that of midnight
abbrev pub moment_text : List ℕ → List ℕ
moment_text word = if is_date word then word ++ codes "T00:00:00Z" else word

abbrev pub with_moment : List (List ℕ) → List (List ℕ)
with_moment [] = []
with_moment (moment ∷ names) = moment_text moment ∷ names

-- the names, of which the first is a moment's where there is `--web`
abbrev pub dated : List (List ℕ) → List (List ℕ) → List (List ℕ)
dated options names = if has_web options then with_moment names else names

-- by words in which each value stands with its option
abbrev pub IsRun : {R F W E : Type 0} → World R F W E → List (List ℕ) → Streams R W E → Streams R W E → ℕ → Type 0
IsRun world words old new status = IsTried world (options_of words) (dated (options_of words) (names_of words)) old new status
