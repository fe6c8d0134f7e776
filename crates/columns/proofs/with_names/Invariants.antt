-- Invariant: the names before this one are looked for.
use mathlib.Core.List.{map}
use lib.ListN.{take}
use Rattle.columns.specs.Given.{line_fields, NamesGiven}
use Rattle.columns.proofs.with_names.Given as goal

abbrev pub invariant-loop-name : goal.invariant-loop-name
invariant-loop-name l = NamesGiven (map (λ n. n.now) (take l.name-index l.names)) (line_fields l.text l.from) l.initial.next l.next
