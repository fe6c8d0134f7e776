-- The edges of a graph in the order from the leaves up, by rounds, and what stands in the way of it. Assumes nothing.
use Rattle.std.specs.Prelude.{◌≡◌, not, cond, List, [], ◌∷◌, ◌++◌, map, ℕ, zero, suc, length}
use Rattle.std.proofs.Math.Option.{Option, none, some}
use Rattle.integers.specs.Integers.{eq_z}
use Rattle.lists.specs.Lists.{◌∈◌, keep, any, is_nil}
use Rattle.model.specs.Limits.{max_chain}
use Rattle.model.specs.Rows.{Edge}
use Rattle.model.specs.Refusals.{Refusal}
use Rattle.model.specs.Checks.{each, followed, begins}
use Rattle.depth.specs.declared.Chained.{Chained}
use Rattle.depth.specs.declared.Chained.TheVariants as chained

-- the edges of the list that no edge of the list follows
unfoldable pub lasts : List Edge → List Edge
lasts es = keep (λ e. not (any (eq_z e.to) (each (map (λ c. c.from) es)))) es

-- the edges that k rounds remove, in order: each round removes those that no edge left over follows
unfoldable pub peeled : ℕ → List Edge → List Edge
peeled zero es = []
peeled (suc k) es = lasts es ++ peeled k (followed es)

-- the edges from the leaves up: a round removes an edge at least, or none where cycles alone are left over
unfoldable pub edge_order : List Edge → List Edge
edge_order es = peeled (length es) es

-- said of an order of edges, with those that stand before it: before each edge stand all edges of the graph that leave the node it enters
abbrev pub Backward : List Edge → List Edge → List Edge → Type 0
Backward graph before [] = Unit {0}
Backward graph before (e ∷ order) = ((f : Edge) → f ∈ graph → f.from ≡ e.to → f ∈ before) × Backward graph (e ∷ before) order

-- what the edges of a graph are: a cycle, where some chain has more edges than there are and so goes over one of them twice; else a long
-- chain, where some chain has more than 64 edges; else ordered
unfoldable pub chains_of : List Edge → Chained
chains_of es = cond (not (is_nil (begins (length es) es))) chained.Cycle (cond (not (is_nil (begins max_chain es))) chained.LongChain chained.Ordered)

-- the refusal of a graph whose node table is t, if any: 5 a cycle, 6 some chain of more than 64 edges
unfoldable pub chain_refusal : ℕ → Chained → Option Refusal
chain_refusal t chained.Cycle = some (record { number = 5; table = t; row = 0 })
chain_refusal t chained.LongChain = some (record { number = 6; table = t; row = 0 })
chain_refusal t chained.Ordered = none
