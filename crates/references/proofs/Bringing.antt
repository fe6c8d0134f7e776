-- What a reference takes of a record, as runs; what it brings: over an edge, shifted, and all that arrives at a node; and where a reference lies.
use Rattle.std.specs.Cmp.{signed_Decides}
use Rattle.std.specs.Ordering.{int_eq}
use Rattle.std.specs.Prelude.{Option}
use Rattle.std.proofs.lemmas.Bool.Decides.{same_from_decides}
use mathlib.Core.Path.{◌≡◌, refl, ap, subst, ◌∙◌}
use mathlib.Core.Bool.{not, ◌&&◌}
use mathlib.Core.List.{List}
use mathlib.Core.Logic.{◌↔◌}
use mathlib.Core.Option.{none, some}
use Prim.Native.Nat.{◌^◌}
use native.Mathlib.Omega.{arith}
use lib.Dec.{T, T_not, eqb}
use lib.IntN.{ℤ, pos, ◌+ℤ◌, ◌-ℤ◌}
use lib.Signed.{◌≤ℤ◌}
use Rattle.integers.specs.Integers.{eq_z}
use Rattle.integers.proofs.Linear.{ints, sum, diff, neg}
use Rattle.integers.proofs.Tests.{T_true, is_true, is_false, and_in, and_out, eq_z→eq, eq_z_refl}
use Rattle.model.specs.declared.WalkKind.{WalkKind}
use Rattle.model.specs.Rows.{Node}
use Rattle.model.specs.Graph.{Graph, graph_of, NodeRow, node, first_bit, last_bit}
use Rattle.model.specs.Walk.{Open, StandsOn, Walk}
use Rattle.model.specs.Runs.{Run, InRun, Joins, Between, empty, shift, clip}
use Rattle.model.specs.Taken.{TakenTables}
use Rattle.model.proofs.Walks.{walk_end}
use Rattle.model.proofs.Steps.{empty-none, shift-joins, shift-empty, shift-full, full-shift, clip-joins}
use Rattle.runs.specs.Clipping.{living, living_of, SmallRun, SmallOffset, SmallExtent}
use Rattle.runs.proofs.Runs.{living-none, living-some, left_exact, shift_clippable, shift-last, clip-read, clip-small, clip-inside, clip-roots}
use Rattle.extents.specs.Extents.{bits_of}
use Rattle.extents.proofs.Bounds.{bits_small}
use Rattle.references.specs.References.{Reference, reference_of, own, Brings, last_root, through, narrowed, NarrowedBy, shifted, is_none, unless_none, InOwner, same_reference}
use Rattle.references.specs.declared.Reference.{Reference as HeldReference}
use Rattle.runs.specs.declared.Run.{Run as Held}

-- ---- what a part takes of a run

-- the root bit that a run joins to bit address b
abbrev root_bit : Run → ℤ → ℤ
root_bit r b = r.root +ℤ (b -ℤ r.low)

root-bit : (r : Run) (b : ℤ) → InRun r b → Joins r (root_bit r b) b
root-bit r b h = record { inside = h; level = omega (arith, ints, diff b r.low, sum r.root (b -ℤ r.low), diff (root_bit r b) r.root) }

-- it joins root bit x to b exactly where the run joins x to a bit address that the part joins to b
pub narrowed-joins : (part r : Run) (x b : ℤ) → Joins (narrowed part r) x b ↔ ((y : ℤ) × Joins r x y × Joins part y b)
unfolding narrowed
narrowed-joins part r x b =
    let o = part.root -ℤ part.low in
    let y = b +ℤ o in
    let cut = clip-joins part.low part.high (shift o r) x b in
    let moved = shift-joins o r x b in
    let offset = diff part.root part.low in
    let at = sum b o in
    let above = diff y part.root in
    let here = diff b part.low in (
      λ j.
          let k = cut.0 j in
          (y, moved.0 k.0, record { inside = record { above = k.1.above; below = k.1.below }; level = omega (arith, ints) }),
      λ (z, j, k).
          let level = k.level in
          let same : z ≡ y = omega (arith, ints, diff z part.root) in
          cut.1 (moved.1 (subst (λ (a : ℤ). Joins r x a) same j), record { above = k.inside.above; below = k.inside.below }),
    )

-- it has bit b exactly where the run has a bit address that the part joins to b
narrowed-bits : (part r : Run) (b : ℤ) → InRun (narrowed part r) b ↔ ((y : ℤ) × InRun r y × Joins part y b)
narrowed-bits part r b = (
  λ h. let (y, j, k) = (narrowed-joins part r (root_bit (narrowed part r) b) b).0 (root-bit (narrowed part r) b h) in (y, j.inside, k),
  λ (y, h, k). ((narrowed-joins part r (root_bit r y) b).1 (y, root-bit r y h, k)).inside,
)

-- what is left of the run, shifted and then clipped at the part's ends, is what is left of what it takes: exactly the bits that it should, each with its root bit
pub narrowed_returns : (part r : Run) (c : Option Held) (s : Run) (first last : ℤ) → living_of c ≡ living (clip first last s) → first ≡ part.low → last ≡ part.high
    → s ≡ shift (part.root -ℤ part.low) r → (living_of c ≡ living (narrowed part r)) × NarrowedBy part r c
unfolding narrowed
narrowed_returns part r c s first last q f l p =
    let left : living_of c ≡ living (narrowed part r) = q ∙ ap living (clip-read f l p) in
    (left, left_exact (narrowed part r) c (narrowed-bits part r) (narrowed-joins part r) left)

-- the part's bits lie below those of the node by a small number
pub part_offset : {part : Run} → SmallRun part → SmallOffset (part.root -ℤ part.low)
part_offset {part} small =
    let apart = diff part.root part.low in
    let size = diff part.high part.low in
    let end = sum part.root (part.high -ℤ part.low) in
    record {
      low = omega (arith, ints, small.root, small.full, small.high, neg (pos (2 ^ 62)));
      high = omega (arith, ints, small.low, small.full, small.last);
    }

-- what it takes of a small run is small
pub narrowed-small : {part r : Run} → SmallRun part → SmallRun r → T (not (empty (narrowed part r))) → SmallRun (narrowed part r)
unfolding narrowed
narrowed-small {part} {r} small s t =
    clip-small part.low part.high (shift_clippable s (part_offset small)) (record { low = small.low; high = small.high }) t

-- ---- what is brought

-- over an edge: what u brought to the node left, less the bit offset, and f joins to b
pub through_brings : (kind : WalkKind) (g : Graph) (r o : ℤ) (f u : Reference) (x b : ℤ)
    → Brings kind g r (through o f u) x b ↔ ((y : ℤ) × Joins f.run y b × Brings kind g r u x (y +ℤ o))
through_brings kind g r o f u x b =
    let p = f.run in
    let d = p.root -ℤ p.low in
    let y = b +ℤ d in
    let offset = diff p.root p.low in
    let at = sum b d in
    let above = diff y p.root in
    let here = diff b p.low in
    let size = diff p.high p.low in
    let last = sum p.root (p.high -ℤ p.low) in (
      λ h.
          let j = (shift-joins d (clip p.root (last_root p) (shift o u.run)) h.at b).0 h.joins in
          let k = (clip-joins p.root (last_root p) (shift o u.run) h.at y).0 j in (
            y,
            record { inside = record { above = omega (arith, ints, k.1.above); below = omega (arith, ints, k.1.below) }; level = omega (arith, ints) },
            record { at = h.at; walk = h.walk; joins = (shift-joins o u.run h.at y).0 k.0 },
          ),
      λ (z, k, h).
          let level = k.level in
          let same : z ≡ y = omega (arith, ints, diff z p.root) in
          let j = (shift-joins o u.run h.at y).1 (subst (λ (a : ℤ). Joins u.run h.at (a +ℤ o)) same h.joins) in
          let cut = (clip-joins p.root (last_root p) (shift o u.run) h.at y).1 (j, record { above = omega (arith, ints, k.inside.above); below = omega (arith, ints, k.inside.below) }) in
          record { at = h.at; walk = h.walk; joins = (shift-joins d (clip p.root (last_root p) (shift o u.run)) h.at b).1 cut },
    )

-- shifted by o, it brings with b what it brought with b + o
pub shifted_brings : (kind : WalkKind) (g : Graph) (r : ℤ) (o : ℤ) (f : Reference) (x b : ℤ) → Brings kind g r (shifted o f) x b ↔ Brings kind g r f x (b +ℤ o)
shifted_brings kind g r o f x b = (
  λ h. record { at = h.at; walk = h.walk; joins = (shift-joins o f.run h.at b).0 h.joins },
  λ h. record { at = h.at; walk = h.walk; joins = (shift-joins o f.run h.at b).1 h.joins },
)

-- a reference that has no bit address brings nothing
pub none_brings : (kind : WalkKind) (g : Graph) (r : ℤ) (f : Reference) (x b : ℤ) → T (is_none f) → Brings kind g r f x b → ⊥
none_brings kind g r f x b t h = empty-none f.run b t h.joins.inside

-- all bits of a node, each with itself
pub bits-joins : (n : Node) (x b : ℤ) → Joins (bits_of n) x b ↔ ((x ≡ b) × Between (first_bit n) (last_bit n) b)
unfolding bits_of
bits-joins n x b =
    let over = diff x (first_bit n) in
    let under = diff b (first_bit n) in (
      λ j. (omega (arith, ints), record { above = j.inside.above; below = j.inside.below }),
      λ h. record { inside = record { above = h.1.above; below = h.1.below }; level = omega (arith, ints) },
    )

-- that to all that arrives at v brings what walks to v
pub own_brings : (kind : WalkKind) (g : Graph) (r v x b : ℤ) → Brings kind g r (own g v) x b ↔ Walk kind g r x v b
own_brings kind g r v x b = (
  λ h. subst (λ (y : ℤ). Walk kind g r x v y) ((bits-joins (node g v) h.at b).0 h.joins).0 h.walk,
  λ w. let s = walk_end w in record { at = b; walk = w; joins = (bits-joins (node g v) b b).1 (refl, record { above = s.above; below = s.below }) },
)

-- ---- where references lie

-- the bit addresses of the owner that a run joins lie from its first to its last root bit
pub joins-roots : (r : Run) {y b : ℤ} → Joins r y b → (r.root ≤ℤ y) × (y ≤ℤ last_root r)
joins-roots r {y} {b} j =
    let size = diff r.high r.low in
    let end = sum r.root (r.high -ℤ r.low) in
    let over = diff y r.root in
    let under = diff b r.low in
    let level = j.level in
    (omega (arith, ints, j.inside.above), omega (arith, ints, j.inside.below))

-- so those that the bits of a reference stand for are bits of the owner, on which a walk may stand where it is open to it
pub lying_stands : {kind : WalkKind} {g : Graph} {f : Reference} → Open kind (node g f.owner).access → InOwner g f → (y b : ℤ) → Joins f.run y b → StandsOn kind (node g f.owner) y
lying_stands {f = f} o l y b j =
    let roots = joins-roots f.run j in
    record { access = o; above = omega (arith, ints, l.above, roots.0); below = omega (arith, ints, l.below, roots.1) }

-- all that arrives at a node lies there
pub own_lying : {ns es : List ℤ} {v : ℤ} → TakenTables ns es → NodeRow (graph_of ns es) v → InOwner (graph_of ns es) (own (graph_of ns es) v)
unfolding bits_of
own_lying {ns} {es} {v} tables row =
    let n = node (graph_of ns es) v in
    record {
      row = row;
      small = bits_small n (tables.graph.good v row);
      above = omega (arith, ints);
      below = omega (arith, ints, diff (last_bit n) (first_bit n), sum (first_bit n) (last_bit n -ℤ first_bit n));
    }

-- what comes over an edge lies where u does, unless it has no bit address: its root bits are some of those of u
pub through_lying : {g : Graph} {o : ℤ} (f : Reference) {u : Reference} → SmallOffset o → SmallRun f.run → InOwner g u → T (not (is_none (through o f u)))
    → InOwner g (through o f u)
unfolding shift
through_lying {g} {o} f {u} offset small l t =
    let p = f.run in
    let d = p.root -ℤ p.low in
    let r = clip p.root (last_root p) (shift o u.run) in
    let extent : SmallExtent p.root (last_root p) = record { low = small.root; high = small.last } in
    let left = clip-small p.root (last_root p) (shift_clippable l.small offset) extent (shift-full d r t) in
    let roots = clip-roots p.root (last_root p) (shift o u.run) in
    let inside = clip-inside p.root (last_root p) (shift o u.run) in
    let apart = diff p.root p.low in
    let size = diff p.high p.low in
    let end = sum p.root (p.high -ℤ p.low) in
    let low = diff r.low d in
    let high = diff r.high d in
    record {
      row = l.row;
      small = record {
        root = left.root;
        low = omega (arith, ints, inside.0, small.low);
        full = omega (arith, ints, left.full);
        high = omega (arith, ints, inside.1, small.high);
        last = omega (arith, ints, shift-last d r, left.last);
      };
      above = omega (arith, ints, l.above, roots.0);
      below = omega (arith, ints, l.below, roots.1, shift-last o u.run, shift-last d r);
    }

-- its bit addresses are some of f's
pub through-inside : (o : ℤ) (f u : Reference) → (f.run.low ≤ℤ (through o f u).run.low) × ((through o f u).run.high ≤ℤ f.run.high)
unfolding shift
through-inside o f u =
    let p = f.run in
    let d = p.root -ℤ p.low in
    let r = clip p.root (last_root p) (shift o u.run) in
    let inside = clip-inside p.root (last_root p) (shift o u.run) in
    let apart = diff p.root p.low in
    let size = diff p.high p.low in
    let end = sum p.root (p.high -ℤ p.low) in
    (omega (arith, ints, inside.0, diff r.low d), omega (arith, ints, inside.1, diff r.high d))

-- ---- what the code says comes over an edge

module _ (o : ℤ) (f u : Reference) where
  -- the shifted run, clipped at the bits of the node entered that f takes
  abbrev pub cut : Run
  cut = clip f.run.root (last_root f.run) (shift o u.run)

  -- nothing where nothing is left
  pub through_nothing : none ≡ living cut → none ≡ unless_none (through o f u)
  through_nothing q =
      rw (is_true (is_none (through o f u)) (shift-empty (f.run.root -ℤ f.run.low) cut (living-none cut q))) refl

  -- else what is left, shifted
  pub through_left : {r s : Run} → some r ≡ living cut → s ≡ shift (f.run.root -ℤ f.run.low) r → some (record { owner = u.owner; run = s }) ≡ unless_none (through o f u)
  through_left {r} {s} q e =
      let w = living-some cut r q in
      let same : s ≡ (through o f u).run = e ∙ ap (shift (f.run.root -ℤ f.run.low)) w.0 in
      let full = full-shift (f.run.root -ℤ f.run.low) cut w.1 in
      rw (is_false (is_none (through o f u)) (T_not (is_none (through o f u)) full)) (ap (λ (z : Run). some (record { owner = u.owner; run = z })) same)

-- ---- the same reference

-- the test whether two references are the same says so exactly where they are
pub same-reference-is : (a b : Reference) → T (same_reference a b) ↔ (a ≡ b)
same-reference-is a b = (same, λ e. subst (λ (c : Reference). T (same_reference a c)) e itself)
  where
    same : T (same_reference a b) → a ≡ b
    same t =
        let lows = eq_z a.run.low b.run.low in
        let highs = eq_z a.run.high b.run.high in
        let (owner, rest) = and_out (eq_z a.owner b.owner) (eq_z a.run.root b.run.root && (lows && highs)) t in
        let (root, ends) = and_out (eq_z a.run.root b.run.root) (lows && highs) rest in
        let (low, high) = and_out lows highs ends in
        let p : a.owner ≡ b.owner = eq_z→eq a.owner b.owner owner in
        let q : a.run.root ≡ b.run.root = eq_z→eq a.run.root b.run.root root in
        let r : a.run.low ≡ b.run.low = eq_z→eq a.run.low b.run.low low in
        let s : a.run.high ≡ b.run.high = eq_z→eq a.run.high b.run.high high in
        let e : ◌≡◌ {A = Reference} (record { owner = a.owner; run = record { root = a.run.root; low = a.run.low; high = a.run.high } })
        (record { owner = b.owner; run = record { root = b.run.root; low = b.run.low; high = b.run.high } }) = cc in
        e

    itself : T (same_reference a a)
    itself =
        let roots = eq_z a.run.root a.run.root in
        let lows = eq_z a.run.low a.run.low in
        let highs = eq_z a.run.high a.run.high in
        and_in (eq_z a.owner a.owner) (roots && (lows && highs)) (eq_z_refl a.owner)
        (and_in roots (lows && highs) (eq_z_refl a.run.root) (and_in lows highs (eq_z_refl a.run.low) (eq_z_refl a.run.high)))

-- the library's test of two numbers is that of the definitions
int_eq-eq_z : (a b : ℤ) → int_eq a b ≡ eq_z a b
int_eq-eq_z a b =
    same_from_decides (int_eq a b) (eq_z a b) (signed_Decides a b) (λ t. eq_z→eq a b (T_true (eq_z a b) t), λ e. is_true (eq_z a b) (rw e (eq_z_refl b)))

-- and so is the derived test of two references
pub same_reference-derived : (a b : HeldReference)
    → eqb a.owner b.owner && (int_eq a.run.root.0 b.run.root.0 && (int_eq a.run.low.0 b.run.low.0 && int_eq a.run.high.0 b.run.high.0))
    ≡ same_reference (reference_of a) (reference_of b)
same_reference-derived a b =
    rw (int_eq-eq_z a.run.root.0 b.run.root.0, int_eq-eq_z a.run.low.0 b.run.low.0, int_eq-eq_z a.run.high.0 b.run.high.0) refl
