-- What a program over objects does, from its words to its status.
use Rattle.std.specs.Prelude.{◌≡◌, ◌⊎◌, ◌||◌, ◌<◌, ℕ, ◌+◌, ◌-◌, ◌^◌, max, min, Bool, true, false, List, [], ◌∷◌, ◌++◌, codes, length, map, Option, Some, None, Result, Ok, Err, ltb, if◌then◌else◌}
use Rattle.std.specs.Fmt.{decimal}
use Rattle.std.specs.List.{flat_map}
use Rattle.std.specs.Option.{option_to_list}
use Rattle.x509_object_run.specs.Below.{AreOfAll, Lists, Stands}
use Rattle.x509_object_run.specs.Faults.{complaint, fault_text, short_complaint, told_text}
use Rattle.x509_object_run.specs.Labels.{is_standard, label_of}
use Rattle.x509_object_run.specs.Object.{AreShown, Item, Steps, Subject, heading_for, item_of, numbered, object_bytes, objects_of_item, text_bytes, unread_fault}
use Rattle.x509_object_run.specs.Words.{has_option, inputs_of, names_of, options_of}
use Rattle.x509_object_run.specs.declared.fault.Fault.{Fault}
use Rattle.x509_object_run.specs.declared.fault.Fault.TheVariants.{Unopened, Unreadable, TooLong, Unarmoured, NoObject, Unwritten, Memory}
use Rattle.x509_object_run.specs.declared.fault.OpenError.{OpenError}
use Rattle.x509_object_run.specs.declared.heading.Headed.{Headed}
use Rattle.x509_tool_run.specs.Answer.{as_line}
use Rattle.x509_tool_run.specs.Input.{Input, IsRead, Whole, input_limit}
use Rattle.x509_tool_run.specs.Pem.{lines_of}
use Rattle.x509_tool_run.specs.Program.{IsWritten, IsCutOff}
use Rattle.x509_tool_run.specs.Scan.{Mark, Text, is_pem, last_text, mark_from, start, texts_from}
use Rattle.x509_tool_run.specs.Transfer.{Moves}
use Rattle.x509_tool_run.specs.declared.scan.Stage.{Stage}
use Rattle.x509_tool_run.specs.Version.{version_text}

-- how an object may be counted: from one state to another, where so many are told of or none
abbrev pub Counts : Type 0 → Type 1
Counts E = E → Option ℕ → E → Type 0

-- What a program works with: how standard input is read, which files may be opened and how they are read, how directories may be listed and what may stand
-- at a path, how standard output and standard error are written, and how objects are counted there.
pub record World (R F W E : Type 0) : Type 1 where
  pub gives : Steps R
  pub opens : List ℕ → Result F OpenError → Type 0
  pub lists : Lists
  pub stands : Stands
  pub file_gives : Steps F
  pub takes : Steps W
  pub takes_errors : Steps E
  pub counts : Counts E

abbrev pub world_of : {R F W E : Type 0} → Steps R → (List ℕ → Result F OpenError → Type 0) → Lists → Stands → Steps F → Steps W → Steps E → Counts E
    → World R F W E
world_of gives opens lists stands file_gives takes takes_errors counts = record {
  gives = gives;
  opens = opens;
  lists = lists;
  stands = stands;
  file_gives = file_gives;
  takes = takes;
  takes_errors = takes_errors;
  counts = counts;
}

-- the states of standard input, standard output and standard error
pub record Streams (R W E : Type 0) : Type 0 where
  pub input : R
  pub output : W
  pub errors : E

abbrev pub streams : {R W E : Type 0} → R → W → E → Streams R W E
streams input output errors = record { input = input; output = output; errors = errors }

-- a message is written, as far as it can be
abbrev pub IsTold : {E : Type 0} → Steps E → E → List ℕ → E → Type 0
IsTold takes old message new = IsWritten takes old message new ⊎ IsCutOff takes old message new

-- reads give an input, and what it is; or why there is none
abbrev pub IsSourceReadAs : {R A : Type 0} → (List ℕ → A) → Steps R → R → R → Result A Fault → Type 0
IsSourceReadAs what gives from to (Ok found) = (input : List ℕ) × IsRead gives from (Whole input) to × (found ≡ what input)
IsSourceReadAs what gives from to (Err fault) = (input : Input) × IsRead gives from input to × (fault ≡ unread_fault input)

-- the file of a name is read, if it can be opened
abbrev pub IsFileReadAs : {F A : Type 0} → (List ℕ → A) → Steps F → Result F OpenError → Result A Fault → Type 0
IsFileReadAs {F} what file_gives (Ok file) read = (to : F) × IsSourceReadAs what file_gives file to read
IsFileReadAs what file_gives (Err e) read = read ≡ Err (Unopened e)

-- the input of a name is read, which is standard input or a file
abbrev pub IsNamedReadAs : {R F A : Type 0} → (List ℕ → A) → Steps R → (List ℕ → Result F OpenError → Type 0) → Steps F → Bool → List ℕ → R → R → Result A Fault → Type 0
IsNamedReadAs what gives opens file_gives true name from to read = IsSourceReadAs what gives from to read
IsNamedReadAs {R} {F} what gives opens file_gives false name from to read =
    (to ≡ from) × (opened : Result F OpenError) × opens name opened × IsFileReadAs what file_gives opened read

-- as the bytes of one object
abbrev pub IsSourceRead : {R : Type 0} → Steps R → R → R → Result (List ℕ) Fault → Type 0
IsSourceRead gives from to read = IsSourceReadAs object_bytes gives from to read

abbrev pub IsFileRead : {F : Type 0} → Steps F → Result F OpenError → Result (List ℕ) Fault → Type 0
IsFileRead file_gives opened read = IsFileReadAs object_bytes file_gives opened read

abbrev pub IsNamedRead : {R F : Type 0} → Steps R → (List ℕ → Result F OpenError → Type 0) → Steps F → Bool → List ℕ → R → R → Result (List ℕ) Fault → Type 0
IsNamedRead gives opens file_gives standard name from to read = IsNamedReadAs object_bytes gives opens file_gives standard name from to read

-- the states of standard output and standard error
pub record Outputs (W E : Type 0) : Type 0 where
  pub output : W
  pub errors : E

abbrev pub outputs : {W E : Type 0} → W → E → Outputs W E
outputs output errors = record { output = output; errors = errors }

-- how they are written
pub record Writes (W E : Type 0) : Type 1 where
  pub takes : Steps W
  pub takes_errors : Steps E
  pub counts : Counts E

abbrev pub writes : {W E : Type 0} → Steps W → Steps E → Counts E → Writes W E
writes takes takes_errors counts = record { takes = takes; takes_errors = takes_errors; counts = counts }

-- as `x509_linter: 48211 objects so far`, and a line feed
abbrev pub progress : List ℕ → ℕ → List ℕ
progress program count = program ++ (codes ": " ++ (decimal count ++ codes " objects so far\n"))

-- so many are told of, unless there is no memory for that; or none are
abbrev pub IsCounted : {E : Type 0} → List ℕ → Steps E → Option ℕ → E → E → Type 0
IsCounted program takes_errors None old new = new ≡ old
IsCounted program takes_errors (Some count) old new = IsTold takes_errors old (progress program count) new ⊎ (new ≡ old)

-- an object is counted
abbrev pub IsNoted : {W E : Type 0} → List ℕ → Writes W E → Outputs W E → Outputs W E → Type 0
IsNoted {W} {E} program by old new =
    (middle : E) × (due : Option ℕ) × by.counts old.errors due middle × IsCounted program by.takes_errors due middle new.errors × (new.output ≡ old.output)

-- that there is no memory is told of what is called so
abbrev pub IsForgotten : {W E : Type 0} → List ℕ → Steps E → List ℕ → Outputs W E → Outputs W E → Type 0
IsForgotten program takes_errors label old new =
    (new.output ≡ old.output) × IsTold takes_errors old.errors (complaint program label (fault_text [] Memory)) new.errors

-- nothing whole is printed of bytes: that is printed and told, or there is no memory
abbrev pub IsRefused : {W E : Type 0} → List ℕ → Subject → Steps W → Steps E → Headed → List ℕ → List ℕ → Fault → Outputs W E → Outputs W E → Type 0
IsRefused program subject takes takes_errors headed label bytes fault old new =
    (IsTold takes old.output (subject.refused (heading_for headed label) bytes fault) new.output
    × IsTold takes_errors old.errors (complaint program label (told_text subject.no_object (subject.wrong bytes) fault)) new.errors)
    ⊎ IsForgotten program takes_errors label old new

-- what came of printing bytes ends it: with its status, or with a message and status 2
abbrev pub IsEnded : {W E : Type 0} → List ℕ → Subject → Writes W E → Headed → List ℕ → List ℕ → Result ℕ Fault → Outputs W E → Outputs W E → ℕ → Type 0
IsEnded program subject by headed label bytes (Ok shown) old new status = (new ≡ old) × (status ≡ shown)
IsEnded program subject by headed label bytes (Err fault) old new status = IsRefused program subject by.takes by.takes_errors headed label bytes fault old new × (status ≡ 2)

-- the bytes of an object are shown and ended
abbrev pub IsObjectDone : {W E : Type 0} → List ℕ → Subject → Writes W E → Headed → List ℕ → List ℕ → Outputs W E → Outputs W E → ℕ → Type 0
IsObjectDone {W} program subject by headed label bytes old new status =
    (result : Result ℕ Fault) × (middle : W)
    × AreShown subject (heading_for headed label) bytes by.takes old.output middle result
    × IsEnded program subject by headed label bytes result (outputs middle old.errors) new status

-- the bytes of an object are shown and ended, or it is told why there are none
abbrev pub IsItemShown : {W E : Type 0} → List ℕ → Subject → Writes W E → Headed → List ℕ → Item → Outputs W E → Outputs W E → ℕ → Type 0
IsItemShown program subject by headed label (Ok bytes) old new status = IsObjectDone program subject by headed label bytes old new status
IsItemShown program subject by headed label (Err fault) old new status = IsRefused program subject by.takes by.takes_errors headed label [] fault old new × (status ≡ 2)

-- and it is counted
abbrev pub IsItemDone : {W E : Type 0} → List ℕ → Subject → Writes W E → Headed → List ℕ → Item → Outputs W E → Outputs W E → ℕ → Type 0
IsItemDone {W} {E} program subject by headed label item old new status =
    (middle : Outputs W E) × IsItemShown program subject by headed label item old middle status × IsNoted program by middle new

-- the number of an item of several, which goes no further than a number of the machine
abbrev pub number_of : ℕ → ℕ
number_of count = min count (2 ^ 64 - 1)

-- an item that is called by this number, or there is no memory for what it is called
abbrev pub IsCalledDone : {W E : Type 0} → List ℕ → Subject → Writes W E → List ℕ → ℕ → Item → Outputs W E → Outputs W E → ℕ → Type 0
IsCalledDone program subject by label number item old new status =
    IsItemDone program subject by (subject.headed true) (numbered label number) item old new status
    ⊎ (IsForgotten program by.takes_errors label old new × (status ≡ 2))

-- that with this number of an input of several
abbrev pub IsNumberedDone : {W E : Type 0} → List ℕ → Subject → Writes W E → List ℕ → ℕ → Item → Outputs W E → Outputs W E → ℕ → Type 0
IsNumberedDone program subject by label number item old new status = IsCalledDone program subject by label (number_of number) item old new status

-- those behind the first so many, one after the other, and the greatest of their statuses
abbrev pub AreNumberedDone : {W E : Type 0} → List ℕ → Subject → Writes W E → List ℕ → ℕ → List Item → Outputs W E → Outputs W E → ℕ → Type 0
AreNumberedDone program subject by label before [] old new status = (new ≡ old) × (status ≡ 0)
AreNumberedDone {W} {E} program subject by label before (item ∷ others) old new status =
    (middle : Outputs W E) × (first : ℕ) × (rest : ℕ)
    × IsNumberedDone program subject by label (before + 1) item old middle first
    × AreNumberedDone program subject by label (before + 1) others middle new rest
    × (status ≡ max first rest)

-- the items of an input: one is called as the input, and of several each has its number
abbrev pub AreItemsDone : {W E : Type 0} → List ℕ → Subject → Writes W E → Headed → List ℕ → List Item → Outputs W E → Outputs W E → ℕ → Type 0
AreItemsDone program subject by headed label [] old new status = AreNumberedDone program subject by label 0 [] old new status
AreItemsDone program subject by headed label (item ∷ []) old new status = IsItemDone program subject by headed label item old new status
AreItemsDone program subject by headed label (item ∷ other ∷ items) old new status =
    AreNumberedDone program subject by label 0 (item ∷ other ∷ items) old new status

-- the objects that texts of PEM stand for
abbrev pub items_of : List Text → List Item
items_of texts = flat_map objects_of_item (map item_of texts)

-- the items of lines, where texts of PEM have ended in them
abbrev pub items_from : List (List ℕ) → List Item
items_from lines = items_of (texts_from start lines)

-- and where the last isn't ended
abbrev pub last_items : Stage → List Item
last_items stage = items_of (option_to_list (last_text stage))

-- What an input has that is read whole: the objects that its PEM stands for, or what its hex digits or the whole does.
abbrev pub whole_items : List ℕ → Mark → List Item → List Item
whole_items input m items = if is_pem m.stage then items ++ last_items m.stage else objects_of_item (Ok (text_bytes input))

abbrev pub input_items : List ℕ → List Item
input_items input = whole_items input (mark_from start (lines_of input)) (items_from (lines_of input))

-- Reads give bytes in so many calls, each of which gives some.
abbrev pub Gave : {R : Type 0} → Steps R → R → List ℕ → R → Type 0
Gave gives from bytes to = (reads : ℕ) × Moves gives from reads bytes to

-- more is held of an input than may be: of its bytes, of the base64 of a text in these lines, or of the line behind them
abbrev pub IsOver : List ℕ → List (List ℕ) → List (List ℕ) → Type 0
IsOver bytes lines others =
    (input_limit < length bytes) ⊎ ((input_limit < length (mark_from start lines).digits) ⊎ ((line : List ℕ) × (others ≡ line ∷ []) × (input_limit < length line)))

-- Why reading stops: a read fails, more is held than may be, or memory is refused, for the last line too.
abbrev pub IsStopped : {R : Type 0} → Steps R → R → List ℕ → List (List ℕ) → List (List ℕ) → R → Fault → Type 0
IsStopped {R} gives from bytes lines others to Unreadable = (middle : R) × Gave gives from bytes middle × gives middle None to
IsStopped gives from bytes lines others to TooLong = Gave gives from bytes to × IsOver bytes lines others
IsStopped {R} gives from bytes lines others to Memory = Gave gives from bytes to ⊎ ((middle : R) × Gave gives from bytes middle × gives middle (Some []) to)
IsStopped gives from bytes lines others to (Unopened e) = ⊥
IsStopped gives from bytes lines others to (Unarmoured why) = ⊥
IsStopped gives from bytes lines others to (NoObject looks) = ⊥
IsStopped gives from bytes lines others to Unwritten = ⊥

-- items are done, and then it is told why there are no more
abbrev pub AreCutShort : {W E : Type 0} → List ℕ → Subject → Writes W E → Headed → List ℕ → List Item → Fault → Outputs W E → Outputs W E → ℕ → Type 0
AreCutShort {W} {E} program subject by headed label items fault old new status =
    (middle : Outputs W E) × (worst : ℕ) × AreNumberedDone program subject by label 0 items old middle worst
    × IsRefused program subject by.takes by.takes_errors headed label [] fault middle new × (status ≡ 2)

-- An input is read to its end, and its items are done. Or reading stops before, or memory is refused at the end.
abbrev pub IsSourceDone : {R W E : Type 0} → List ℕ → Subject → Writes W E → Steps R → Headed → List ℕ → R → R → Outputs W E → Outputs W E → ℕ → Type 0
IsSourceDone {R} {W} {E} program subject by gives headed label from to old new status =
    ((bytes : List ℕ) × (middle : R) × Gave gives from bytes middle × gives middle (Some []) to
    × AreItemsDone program subject by headed label (input_items bytes) old new status)
    ⊎ ((bytes : List ℕ) × (lines : List (List ℕ)) × (others : List (List ℕ)) × (fault : Fault)
    × IsStopped gives from bytes lines others to fault
    × (lines_of bytes ≡ lines ++ others) × AreCutShort program subject by headed label (items_from lines) fault old new status)

-- the file of a name, if it can be opened
abbrev pub IsFileDone : {F W E : Type 0} → List ℕ → Subject → Writes W E → Steps F → Headed → List ℕ → Result F OpenError → Outputs W E → Outputs W E → ℕ → Type 0
IsFileDone {F} program subject by file_gives headed label (Ok file) old new status =
    (to : F) × IsSourceDone program subject by file_gives headed label file to old new status
IsFileDone program subject by file_gives headed label (Err e) old new status =
    IsItemDone program subject by headed label (Err (Unopened e)) old new status

-- the input of a name, which is standard input or a file
abbrev pub IsInputDone : {R F W E : Type 0} → List ℕ → Subject → World R F W E → Headed → Bool → List ℕ → Streams R W E → Streams R W E → ℕ → Type 0
IsInputDone program subject world headed true name old new status =
    IsSourceDone program subject (writes world.takes world.takes_errors world.counts) world.gives headed (label_of name) old.input new.input
    (outputs old.output old.errors) (outputs new.output new.errors) status
IsInputDone {R} {F} program subject world headed false name old new status =
    (new.input ≡ old.input) × (opened : Result F OpenError) × world.opens name opened
    × IsFileDone program subject (writes world.takes world.takes_errors world.counts) world.file_gives headed (label_of name) opened
    (outputs old.output old.errors) (outputs new.output new.errors) status

-- an input is read, shown and ended
abbrev pub IsDone : {R F W E : Type 0} → List ℕ → Subject → World R F W E → Headed → List ℕ → Streams R W E → Streams R W E → ℕ → Type 0
IsDone program subject world headed name old new status = IsInputDone program subject world headed (is_standard name) name old new status

-- inputs one after the other, and the greatest of their statuses
abbrev pub AreDone : {R F W E : Type 0} → List ℕ → Subject → World R F W E → Headed → List (List ℕ) → Streams R W E → Streams R W E → ℕ → Type 0
AreDone program subject world headed [] old new status = (new ≡ old) × (status ≡ 0)
AreDone {R} {F} {W} {E} program subject world headed (name ∷ names) old new status =
    (middle : Streams R W E) × (first : ℕ) × (rest : ℕ)
    × IsDone program subject world headed name old middle first × AreDone program subject world headed names middle new rest
    × (status ≡ max first rest)

-- what stands above each input, where a directory was named or wasn't
abbrev pub are_headed : Subject → Bool → List (List ℕ) → Headed
are_headed subject directory inputs = subject.headed (directory || ltb 1 (length inputs))

-- what a program is asked for
pub data Call (P : Type 0) : Type 0 where
  -- how it is called and what it does
  Help : Call P
  Version : Call P
  -- to print these inputs
  Over : (printer : P) (names : List (List ℕ)) → Call P
  -- its words ask for nothing that it knows, and this is told of them
  Misused : (told : List ℕ) → Call P

abbrev pub over : {P : Type 0} → List ℕ → Option (P × List (List ℕ)) → Call P
over told None = Misused told
over told (Some found) = Over found.0 found.1

-- `--help` and `--version` stand anywhere among the options; of other words the printer says what they ask for
abbrev pub call_from : {P : Type 0} → (List (List ℕ) → List (List ℕ) → Option (P × List (List ℕ))) → (List (List ℕ) → List (List ℕ) → List ℕ) → List (List ℕ) → List (List ℕ) → Call P
call_from asked misuse options names =
    if has_option (codes "--help") options then Help
    else if has_option (codes "--version") options then Version
    else over (misuse options names) (asked options names)

abbrev pub call_of : {P : Type 0} → (List (List ℕ) → List (List ℕ) → Option (P × List (List ℕ))) → (List (List ℕ) → List (List ℕ) → List ℕ) → List (List ℕ) → Call P
call_of asked misuse words = call_from asked misuse (options_of words) (names_of words)

-- a text is written with status 0; where it can't be, that is told, with status 2
abbrev pub Says : {W E : Type 0} → List ℕ → Steps W → Steps E → List ℕ → W → W → E → E → ℕ → Type 0
Says program takes takes_errors text old new errors_old errors_new status =
    (IsWritten takes old text new × (errors_new ≡ errors_old) × (status ≡ 0))
    ⊎ (IsCutOff takes old text new × IsTold takes_errors errors_old (short_complaint program (fault_text [] Unwritten)) errors_new × (status ≡ 2))

-- What a program says of itself: its name, how it is called, and what it does.
pub record Program : Type 0 where
  pub name : List ℕ
  pub usage : List ℕ
  pub help : List ℕ

-- there is no memory for its words, or for the names of its inputs, and it does nothing else than tell so
abbrev pub IsUnkept : {R W E : Type 0} → Program → Steps E → Streams R W E → Streams R W E → ℕ → Type 0
IsUnkept program takes_errors old new status =
    (new.input ≡ old.input) × (new.output ≡ old.output)
    × IsTold takes_errors old.errors (short_complaint program.name (fault_text [] Memory)) new.errors × (status ≡ 2)

-- The inputs of names are done: the files in directories, and the others themselves. Or there is no memory for what they are called.
abbrev pub AreNamedDone : {R F W E : Type 0} → Program → Subject → World R F W E → List (List ℕ) → Streams R W E → Streams R W E → ℕ → Type 0
AreNamedDone program subject world names old new status =
    ((inputs : List (List ℕ)) × (directory : Bool) × AreOfAll world.lists world.stands names inputs directory
    × AreDone program.name subject world (are_headed subject directory inputs) inputs old new status)
    ⊎ IsUnkept program world.takes_errors old new status

-- what a program does that is called so
abbrev pub IsRun : {P R F W E : Type 0} → Program → (P → Subject) → World R F W E → Call P → Streams R W E → Streams R W E → ℕ → Type 0
IsRun program subject world Help old new status =
    (new.input ≡ old.input) × Says program.name world.takes world.takes_errors program.help old.output new.output old.errors new.errors status
IsRun program subject world Version old new status =
    (new.input ≡ old.input)
    × Says program.name world.takes world.takes_errors (as_line (version_text program.name)) old.output new.output old.errors new.errors status
IsRun program subject world (Over printer names) old new status =
    AreNamedDone program (subject printer) world (inputs_of names) old new status
IsRun program subject world (Misused told) old new status =
    (new.input ≡ old.input) × (new.output ≡ old.output) × IsTold world.takes_errors old.errors (told ++ as_line program.usage) new.errors × (status ≡ 2)
