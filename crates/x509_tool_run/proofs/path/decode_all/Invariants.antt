use Rattle.std.proofs.Common.{◌≡◌, take, map, Some}
use Rattle.x509_tool_run.specs.Path.{decode_all}
use Rattle.x509_tool_run.proofs.path.decode_all.Given as goal

-- the texts so far are hex text of what is decoded
abbrev pub invariant-loop-text : goal.invariant-loop-text
invariant-loop-text l = decode_all (map (λ text. text.now) (take l.text-index l.texts)) ≡ Some (map (λ bytes. bytes.items) l.decoded.items)
