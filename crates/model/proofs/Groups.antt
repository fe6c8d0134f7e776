-- The list of a group is the list of its banks' joined sets; that of one bank which begins at 0 is the list of its leaf; and it has no more records than paths
-- lead to the banks.
use mathlib.Core.Path.{◌≡◌, refl, sym, ap, ap₂, ◌∙◌, subst}
use mathlib.Core.List.Memᴰ
use mathlib.Core.List.{List, [], ◌∷◌, ◌++◌, map, flat_map, append-nil}
use mathlib.Core.Logic.Iff
use mathlib.Core.Logic.{◌↔◌, ◌⊎◌, inl, inr, ⊎_elim}
use Prim.Native.Nat.{◌+◌, ◌≤◌}
use native.Mathlib.Omega.{arith}
use lib.IntN.{ℤ, pos, ◌-ℤ◌}
use lib.Signed.{◌≤ℤ◌}
use lib.ListN.{length, length-append, length-map}
use Rattle.integers.proofs.Linear.{ints, sum, diff}
use Rattle.lists.specs.Lists.{◌∈◌}
use Rattle.lists.proofs.Membership.{map_in, map_out, flat_map_in, flat_map_out}
use Rattle.model.specs.declared.WalkKind.{WalkKind}
use Rattle.model.specs.Rows.{Edge}
use Rattle.model.specs.Graph.{Graph, node}
use Rattle.model.specs.Walk.{Reached}
use Rattle.model.specs.Bitmapping.{Record, Has, IsListOf}
use Rattle.model.specs.Runs.{paths, runs, record_of, normal, list_of}
use Rattle.model.specs.Groups.{Bank, BankReached, GroupReached, raised_by, bank_records, group_list, group_paths}
use Rattle.model.specs.Taken.{AllOpen}
use Rattle.model.proofs.Paths.{Fit}
use Rattle.model.proofs.Records.{record_path}
use Rattle.model.proofs.Walks.{reached-any, runs-reached, runs-full, runs-within-paths}
use Rattle.model.proofs.Uniqueness.{list_of_same, list_unique}
use Rattle.model.proofs.Normalisation.{normal-list, normal_length}
use Rattle.model.proofs.Lowest.{HasSome}

-- ---- raised records

-- a raised record has a leaf bit exactly where the record has the bit that much lower
raised_has : (at : ℤ) (s : Record) (x y : ℤ) → Has (raised_by at s) x y ↔ Has s x (y -ℤ at)
unfolding raised_by
raised_has at s x y =
    let moved = diff s.displacement at in
    let high = diff x y in
    let low = diff x (y -ℤ at) in
    let bit = diff y at in (
      λ h. record { above = h.above; below = h.below; apart = omega (arith, ints, h.apart, moved, high, low, bit) },
      λ h. record { above = h.above; below = h.below; apart = omega (arith, ints, h.apart, moved, high, low, bit) },
    )

-- so do raised records
pub raised-some : (at : ℤ) (l : List Record) (x y : ℤ) → HasSome (map (raised_by at) l) x y ↔ HasSome l x (y -ℤ at)
raised-some at l x y = (
  λ (t, m, h).
      let (s, n, e) = map_out (raised_by at) l m in
      (s, n, (raised_has at s x y).0 (subst (λ (z : Record). Has z x y) e h)),
  λ (s, m, h). (raised_by at s, map_in (raised_by at) m, (raised_has at s x y).1 h),
)

-- no raised record is empty where no record is
pub raised-full : (at : ℤ) (l : List Record) → ((s : Record) → s ∈ l → s.first ≤ℤ s.last) → (s : Record) → s ∈ map (raised_by at) l → s.first ≤ℤ s.last
unfolding raised_by
raised-full at l full s m =
    let (t, n, e) = map_out (raised_by at) l m in
    subst (λ (z : Record). z.first ≤ℤ z.last) (sym e) (full t n)

-- raised by 0 a record is the same
pub raised_zero : (s : Record) → raised_by (pos 0) s ≡ s
unfolding raised_by
raised_zero s = record_path refl refl (omega (arith, ints, diff s.displacement (pos 0)))

-- so are records
raised-none : (l : List Record) → map (raised_by (pos 0)) l ≡ l
raised-none [] = refl
raised-none (s ∷ l) = ap₂ (λ (x : Record) (z : List Record). x ∷ z) (raised_zero s) (raised-none l)

-- ---- what is reached

-- a leaf bit of the group is reached in a bank exactly where the bank's leaf bit that much lower is
pub bank_lower : {kind : WalkKind} {g : Graph} {r : ℤ} (b : Bank) (x y : ℤ) → Reached kind g r b.leaf x (y -ℤ b.at) ↔ BankReached kind g r b x y
bank_lower {kind} {g} {r} b x y = (
  λ h. record { bit = y -ℤ b.at; reached = h; raised = omega (arith, ints, diff y b.at, sum (y -ℤ b.at) b.at) },
  λ h.
      let e : h.bit ≡ y -ℤ b.at = omega (arith, ints, h.raised, sum h.bit b.at, diff y b.at) in
      subst (λ (z : ℤ). Reached kind g r b.leaf x z) e h.reached,
)

-- with one more bank, what is reached in the banks so far and what is reached in it
pub group-more : {kind : WalkKind} {g : Graph} {r : ℤ} (bs : List Bank) (b : Bank) (x y : ℤ) → (GroupReached kind g r bs x y ⊎ BankReached kind g r b x y) ↔ GroupReached kind g r (bs ++ (b ∷ [])) x y
group-more {kind} {g} {r} bs b x y = (
  ⊎_elim (λ (c, m, h). (c, Memᴰ.append_left (b ∷ []) m, h)) (λ h. (b, Memᴰ.append_right bs (Memᴰ.head refl), h)),
  λ (c, m, h). ⊎_elim (λ k. inl (c, k, h)) (λ k. inr (subst (λ (d : Bank). BankReached kind g r d x y) (Memᴰ.eq_of_singleton k) h)) (Memᴰ.append_cases bs m),
)

-- the records of a bank have exactly what is reached there
bank_reached : {kind : WalkKind} {g : Graph} {r : ℤ} (b : Bank) → Fit g b.leaf → (x y : ℤ) → HasSome (bank_records kind g r b) x y ↔ BankReached kind g r b x y
unfolding bank_records
bank_reached {kind} {g} {r} b f x y =
    Iff.trans (raised-some b.at (map (record_of (node g b.leaf)) (runs kind g r b.leaf)) x y)
    (Iff.trans (Iff.symm (runs-reached f x (y -ℤ b.at))) (bank_lower b x y))

-- those of the banks have exactly what is reached in the group
group-reached : {kind : WalkKind} {g : Graph} {r : ℤ} (bs : List Bank) → ((b : Bank) → b ∈ bs → Fit g b.leaf) → (x y : ℤ)
    → HasSome (flat_map (bank_records kind g r) bs) x y ↔ GroupReached kind g r bs x y
group-reached {kind} {g} {r} bs f x y = (
  λ (s, m, h). let (b, n, k) = flat_map_out (bank_records kind g r) bs m in (b, n, (bank_reached b (f b n) x y).0 (s, k, h)),
  λ (b, m, h). let (s, n, k) = (bank_reached b (f b m) x y).1 h in (s, flat_map_in (bank_records kind g r) m n, k),
)

-- none of them is empty
banks-full : (kind : WalkKind) (g : Graph) (r : ℤ) (bs : List Bank) (s : Record) → s ∈ flat_map (bank_records kind g r) bs → s.first ≤ℤ s.last
unfolding bank_records
banks-full kind g r bs s m =
    let (b, n, k) = flat_map_out (bank_records kind g r) bs m in
    raised-full b.at (map (record_of (node g b.leaf)) (runs kind g r b.leaf)) (runs-full kind g r b.leaf) s k

-- ---- the list of a group

-- it is the list of the joined sets
pub group-list : {kind : WalkKind} {g : Graph} {r : ℤ} (bs : List Bank) → ((b : Bank) → b ∈ bs → Fit g b.leaf) → IsListOf (GroupReached kind g r bs) (group_list kind g r bs)
unfolding group_list
group-list {kind} {g} {r} bs f = list_of_same (group-reached bs f) (normal-list (flat_map (bank_records kind g r) bs) (banks-full kind g r bs))

-- there is no other
pub group_only : {kind : WalkKind} {g : Graph} {r : ℤ} (bs : List Bank) → ((b : Bank) → b ∈ bs → Fit g b.leaf) → {l : List Record} → IsListOf (GroupReached kind g r bs) l
    → l ≡ group_list kind g r bs
group_only bs f h = list_unique h (group-list bs f)

-- where every node may be read and written, both kinds have one list
pub group-any : (kind other : WalkKind) {g : Graph} (r : ℤ) (bs : List Bank) → ((b : Bank) → b ∈ bs → Fit g b.leaf) → AllOpen g
    → group_list kind g r bs ≡ group_list other g r bs
group-any kind other {g} r bs f all = list_unique (list_of_same (λ x y. (over other x y, over kind x y)) (group-list bs f)) (group-list bs f)
  where
    over : {from : WalkKind} (to : WalkKind) (x y : ℤ) → GroupReached from g r bs x y → GroupReached to g r bs x y
    over to x y (b, m, h) = (b, m, record { bit = h.bit; reached = reached-any to all h.reached; raised = h.raised })

-- that of one bank which begins at 0 is the list of its leaf
pub group_one : (kind : WalkKind) (g : Graph) (r l : ℤ) → group_list kind g r (record { leaf = l; at = pos 0 } ∷ []) ≡ list_of kind g r l
unfolding group_list bank_records flat_map list_of
group_one kind g r l =
    let records = map (record_of (node g l)) (runs kind g r l) in
    ap normal (append-nil (map (raised_by (pos 0)) records) ∙ raised-none records)

-- ---- paths

-- those to one bank
pub group-paths_one : (g : Graph) (r : ℤ) (b : Bank) → group_paths g r (b ∷ []) ≡ length (paths g r b.leaf)
unfolding group_paths flat_map
group-paths_one g r b = ap length (append-nil (paths g r b.leaf))

-- the paths to one more bank are added
pub group-paths-more : (g : Graph) (r : ℤ) (bs : List Bank) (b : Bank) → group_paths g r (bs ++ (b ∷ [])) ≡ group_paths g r bs + length (paths g r b.leaf)
unfolding group_paths flat_map
group-paths-more g r [] b = omega (arith, group-paths_one g r b)
group-paths-more g r (c ∷ bs) b =
    let to : List Bank → List (List Edge) = λ ds. flat_map (paths g r) (map (λ (d : Bank). d.leaf) ds) in
    omega (arith, length-append (paths g r c.leaf) (to (bs ++ (b ∷ []))), length-append (paths g r c.leaf) (to bs), group-paths-more g r bs b)

-- the banks have no more records than paths lead to them
banks-within-paths : (kind : WalkKind) (g : Graph) (r : ℤ) (bs : List Bank) → length (flat_map (bank_records kind g r) bs) ≤ group_paths g r bs
unfolding group_paths flat_map bank_records
banks-within-paths kind g r [] = omega arith
banks-within-paths kind g r (b ∷ bs) =
    let records = map (record_of (node g b.leaf)) (runs kind g r b.leaf) in
    omega (
      arith,
      length-append (bank_records kind g r b) (flat_map (bank_records kind g r) bs),
      length-append (paths g r b.leaf) (flat_map (paths g r) (map (λ (d : Bank). d.leaf) bs)),
      length-map records (raised_by b.at),
      length-map (runs kind g r b.leaf) (record_of (node g b.leaf)),
      runs-within-paths kind g r b.leaf,
      banks-within-paths kind g r bs,
    )

-- the list of a group has no more records than paths lead to its banks
pub group-list-few : (kind : WalkKind) (g : Graph) (r : ℤ) (bs : List Bank) → length (group_list kind g r bs) ≤ group_paths g r bs
unfolding group_list
group-list-few kind g r bs = omega (arith, normal_length (flat_map (bank_records kind g r) bs), banks-within-paths kind g r bs)
