use Rattle.std.proofs.Common.{map, string_bytes, take}
use Rattle.std.specs.Cow.{cow_str_bytes}
use Rattle.x509_object_run.specs.Below.{AreAdded, AreEntries}
use Rattle.x509_object_run.proofs.below.add_entries.Given as goal

-- the inputs among the entries so far are added
abbrev pub invariant-loop-entry : goal.invariant-loop-entry
invariant-loop-entry g l =
    AreAdded (AreEntries (g.O.Opener.stands l.opener) l.directory (map string_bytes (take l.entry-index l.entries))) (map cow_str_bytes l.fn.inputs.items) (map cow_str_bytes l.inputs.items)
