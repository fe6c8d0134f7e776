-- What each call gives and what its buffer holds afterwards: check, walk, list and compare. Assumes nothing.
use Rattle.std.specs.Prelude.{Bool, cond, ◌&&◌, ℕ, zero, suc, ◌*◌, ℤ, ◌-ℤ◌, length, drop}
use mathlib.Core.List.{List, [], ◌∷◌, ◌++◌, map, flat_map}
use Rattle.std.proofs.Math.Option.{Option, none, some}
use Rattle.std.specs.Int.Signed.{le_z, lt_z}
use Rattle.integers.specs.Integers.{eq_z}
use Rattle.model.specs.declared.WalkKind.{WalkKind}
use Rattle.model.specs.Limits.{record_width, max_chain}
use Rattle.model.specs.Rows.{Node}
use Rattle.model.specs.Graph.{Graph, graph_of, node, first_bit, bit_offset}
use Rattle.model.specs.Bitmapping.{Record}
use Rattle.model.specs.Runs.{leaving, last_open, list_of}
use Rattle.model.specs.Compare.{Tables, Result, findings, result_of}
use Rattle.model.specs.Refusals.{Refusal}
use Rattle.model.specs.Checks.{check_graph, check_single, check_tables}

-- an answer: a refusal, or the full result
pub data Answer (A : Type 0) : Type 0 where
  refused : Refusal → Answer A
  full : A → Answer A

-- the refusal that a check gives, or else the result
unfoldable pub answer : {A : Type 0} → Option Refusal → A → Answer A
answer none a = full a
answer (some r) a = refused r

-- what a call with a lent buffer returns: how long its output is
unfoldable pub length_of : {A : Type 0} → Answer (List A) → Answer ℕ
length_of (refused r) = refused r
length_of (full out) = full (length out)

-- what the lent buffer holds afterwards: untouched on a refusal, else the output and past it what it held
unfoldable pub buffer_after : {A : Type 0} → Answer (List A) → List A → List A
buffer_after (refused r) buffer = buffer
buffer_after (full out) buffer = out ++ drop (length out) buffer

-- ---- check one graph: taken, or refused

-- the answer of the check
unfoldable pub check_answer : List ℤ → List ℤ → Answer (Unit {0})
check_answer ns es = answer (check_graph 0 ns es) tt

-- ---- walk

-- a walk of this kind may stand on the node with bit address a
unfoldable pub stands_on : WalkKind → Node → ℤ → Bool
stands_on kind n a = le_z (first_bit n) a && le_z a (last_open kind n)

-- the bit addresses at the leaf l that a at node v becomes by walks of this kind, over at most k edges
unfoldable pub arrivals : WalkKind → ℕ → Graph → ℤ → ℤ → ℤ → List ℤ
arrivals kind zero g v l a = cond (stands_on kind (node g v) a) (cond (eq_z v l) (a ∷ []) []) []
arrivals kind (suc k) g v l a =
    let onward = flat_map (λ e. arrivals kind k g e.to l (a -ℤ bit_offset g e)) (leaving g v) in
    let alive = cond (eq_z v l) (a ∷ []) onward in
    cond (stands_on kind (node g v) a) alive []

-- a number in its place in an ascending list that has each number once
unfoldable pub among : ℤ → List ℤ → List ℤ
among a [] = a ∷ []
among a (b ∷ t) = cond (eq_z a b) (b ∷ t) (cond (lt_z a b) (a ∷ b ∷ t) (b ∷ among a t))

-- the numbers of a list, ascending, each once
unfoldable pub ascending : List ℤ → List ℤ
ascending [] = []
ascending (a ∷ t) = among a (ascending t)

-- the distinct leaf bits that a root bit reaches by walks of this kind, ascending
unfoldable pub leaf_bits : WalkKind → Graph → ℤ → ℤ → ℤ → List ℤ
leaf_bits kind g r l x = ascending (map (λ b. b -ℤ first_bit (node g l)) (arrivals kind max_chain g r l x))

-- the walks of this kind of bit address x from root r to leaf l, into a buffer with room for so many numbers
unfoldable pub walk_answer : WalkKind → List ℤ → List ℤ → ℤ → ℤ → ℤ → ℕ → Answer (List ℤ)
walk_answer kind ns es r l x room = answer (check_single ns es r l (length (leaf_bits kind (graph_of ns es) r l x)) room) (leaf_bits kind (graph_of ns es) r l x)

-- what the call of walk returns, and what its buffer holds afterwards
unfoldable pub walk_gives : WalkKind → List ℤ → List ℤ → ℤ → ℤ → ℤ → List ℤ → Answer ℕ
walk_gives kind ns es r l x buffer = length_of (walk_answer kind ns es r l x (length buffer))

unfoldable pub walk_after : WalkKind → List ℤ → List ℤ → ℤ → ℤ → ℤ → List ℤ → List ℤ
walk_after kind ns es r l x buffer = buffer_after (walk_answer kind ns es r l x (length buffer)) buffer

-- ---- list

-- the numbers of records: three a record
unfoldable pub numbers_of : List Record → List ℤ
numbers_of [] = []
numbers_of (r ∷ t) = r.first ∷ r.last ∷ r.displacement ∷ numbers_of t

-- the bitmapping list of root r and leaf l for walks of this kind, whose numbers fit into a buffer with room for so many numbers
unfoldable pub list_answer : WalkKind → List ℤ → List ℤ → ℤ → ℤ → ℕ → Answer (List Record)
list_answer kind ns es r l room = answer (check_single ns es r l (length (numbers_of (list_of kind (graph_of ns es) r l))) room) (list_of kind (graph_of ns es) r l)

-- the numbers that are written into a buffer of numbers
unfoldable pub numbers_answer : Answer (List Record) → Answer (List ℤ)
numbers_answer (refused r) = refused r
numbers_answer (full records) = full (numbers_of records)

-- what the call of list returns, how many records, and what its buffer of numbers holds afterwards
unfoldable pub list_gives : WalkKind → List ℤ → List ℤ → ℤ → ℤ → List ℤ → Answer ℕ
list_gives kind ns es r l buffer = length_of (list_answer kind ns es r l (length buffer))

unfoldable pub list_after : WalkKind → List ℤ → List ℤ → ℤ → ℤ → List ℤ → List ℤ
list_after kind ns es r l buffer = buffer_after (numbers_answer (list_answer kind ns es r l (length buffer))) buffer

-- the same for a buffer of records, each of which is room for three numbers
unfoldable pub records_gives : WalkKind → List ℤ → List ℤ → ℤ → ℤ → List Record → Answer ℕ
records_gives kind ns es r l buffer = length_of (list_answer kind ns es r l (record_width * length buffer))

unfoldable pub records_after : WalkKind → List ℤ → List ℤ → ℤ → ℤ → List Record → List Record
records_after kind ns es r l buffer = buffer_after (list_answer kind ns es r l (record_width * length buffer)) buffer

-- ---- compare

-- the comparison of two graphs
unfoldable pub compare_answer : Tables → Answer Result
compare_answer t = answer (check_tables t) (result_of (findings t))
