-- The computed list is the bitmapping list: it is the only one, it has exactly what is reached, and it depends on the graph only through the
-- rows on paths from root to leaf.
use mathlib.Core.Path.{◌≡◌, refl, sym, subst}
use mathlib.Core.List.Memᴰ
use mathlib.Core.List.{List, map}
use mathlib.Core.Logic.Iff
use mathlib.Core.Logic.{◌↔◌}
use lib.IntN.{ℤ, ◌-ℤ◌, ◌*ℤ◌}
use Rattle.lists.specs.Lists.{◌∈◌}
use Rattle.model.specs.declared.WalkKind.{WalkKind}
use Rattle.model.specs.Rows.{Node, Edge}
use Rattle.model.specs.Graph.{Graph, node, first_bit, bit_offset}
use Rattle.model.specs.Walk.{StandsOn, Reached}
use Rattle.model.specs.Paths.{Way, stay, over}
use Rattle.model.specs.Bitmapping.{Record, IsListOf, IsBitmappingList}
use Rattle.model.specs.Runs.{runs, record_of, list_of}
use Rattle.model.specs.Taken.{AllOpen}
use Rattle.model.proofs.Paths.{Fit}
use Rattle.model.proofs.Walks.{Along, halt, pass, walk_route, route_walk, reached-any, runs-reached, runs-full}
use Rattle.model.proofs.Uniqueness.{list_of_same, list_unique}
use Rattle.model.proofs.Normalisation.{normal-list}
use Rattle.model.proofs.Lowest.{HasSome}

-- ---- the list of a set

-- its records have exactly what is in the set
pub list_has : {S : ℤ → ℤ → Type 0} {l : List Record} → IsListOf S l → (x y : ℤ) → S x y ↔ HasSome l x y
list_has h x y = (h.complete x y, λ w. h.sound w.0 w.1 x y w.2)

-- the lists of two sets are equal exactly where the sets are the same
pub lists-same : {S S' : ℤ → ℤ → Type 0} {l m : List Record} → IsListOf S l → IsListOf S' m → (l ≡ m) ↔ ((x y : ℤ) → S x y ↔ S' x y)
lists-same {S} {S'} {l} {m} h k = (
  λ e x y. Iff.trans (subst (λ (n : List Record). S x y ↔ HasSome n x y) e (list_has h x y)) (Iff.symm (list_has k x y)),
  λ e. list_unique (list_of_same e h) k,
)

-- ---- the list of a root and a leaf

-- the computed list is the bitmapping list
pub list_of_reached : {kind : WalkKind} {g : Graph} {r l : ℤ} → Fit g l → IsBitmappingList kind g r l (list_of kind g r l)
unfolding list_of
list_of_reached {kind} {g} {r} {l} f =
    list_of_same (λ x y. Iff.symm (runs-reached f x y)) (normal-list (map (record_of (node g l)) (runs kind g r l)) (runs-full kind g r l))

-- there is no other
pub list_only : {kind : WalkKind} {g : Graph} {r l : ℤ} {m : List Record} → Fit g l → IsBitmappingList kind g r l m → m ≡ list_of kind g r l
list_only f h = list_unique h (list_of_reached f)

-- its records have exactly what is reached
pub list-reached : {kind : WalkKind} {g : Graph} {r l : ℤ} → Fit g l → (x y : ℤ) → Reached kind g r l x y ↔ HasSome (list_of kind g r l) x y
list-reached f = list_has (list_of_reached f)

-- two lists are equal exactly where the same is reached
pub list_same : {kind other : WalkKind} {g h : Graph} {r s l m : ℤ} → Fit g l → Fit h m
    → (list_of kind g r l ≡ list_of other h s m) ↔ ((x y : ℤ) → Reached kind g r l x y ↔ Reached other h s m x y)
list_same f k = lists-same (list_of_reached f) (list_of_reached k)

-- where every node may be read and written, both kinds have one list: the second need not be made
pub list_any : (kind other : WalkKind) {g : Graph} (r : ℤ) {l : ℤ} → Fit g l → AllOpen g → list_of kind g r l ≡ list_of other g r l
list_any kind other r f all = (list_same f f).1 (λ x y. (reached-any other all, reached-any kind all))

-- ---- the rows that it depends on

-- two graphs have the same paths from r to l, and the same node rows on them
pub record SamePaths (g h : Graph) (r l : ℤ) : Type 0 where
  pub ways : (p : List Edge) → Way g r p l ↔ Way h r p l
  pub root : (p : List Edge) → Way g r p l → node g r ≡ node h r
  pub nodes : (p : List Edge) → Way g r p l → (e : Edge) → e ∈ p → node g e.to ≡ node h e.to

-- the two graphs may change places
pub same-paths_sym : {g h : Graph} {r l : ℤ} → SamePaths g h r l → SamePaths h g r l
same-paths_sym s =
    record {
      ways = λ p. ((s.ways p).1, (s.ways p).0);
      root = λ p w. sym (s.root p ((s.ways p).1 w));
      nodes = λ p w e m. sym (s.nodes p ((s.ways p).1 w) e m);
    }

module _ {g : Graph} (h : Graph) where
  -- what walks along a path in one graph does so in another that has the same node rows on the path
  along-same : {kind : WalkKind} {v a b : ℤ} {p : List Edge} → node g v ≡ node h v → ((e : Edge) → e ∈ p → node g e.to ≡ node h e.to) → Along kind g v p a b
      → Along kind h v p a b
  unfolding bit_offset
  along-same {kind} {a} q k (halt s) = halt (subst (λ (n : Node). StandsOn kind n a) q s)
  along-same {kind} {a} {b} q k (pass {p} e s w) =
      let n = k e (Memᴰ.head refl) in
      let t = along-same n (λ d m. k d (Memᴰ.tail m)) w in
      pass e (subst (λ (n : Node). StandsOn kind n a) q s) (subst (λ (n : Node). Along kind h e.to p (a -ℤ (e.offset *ℤ n.unit)) b) n t)

  -- the end of a path has the same node row where all its node rows are the same
  end_same : {v w : ℤ} {p : List Edge} → node g v ≡ node h v → ((e : Edge) → e ∈ p → node g e.to ≡ node h e.to) → Way g v p w
      → node g w ≡ node h w
  end_same q k stay = q
  end_same q k (over e m f w) = end_same (k e (Memᴰ.head refl)) (λ d n. k d (Memᴰ.tail n)) w

  -- the same is reached over the same paths
  reached-same : {kind : WalkKind} {r l x y : ℤ} → SamePaths g h r l → Reached kind g r l x y → Reached kind h r l x y
  reached-same {y} s w =
      let t = walk_route w.walk in
      let start = s.root t.path t.way in
      let nodes = s.nodes t.path t.way in
      record {
        arrival = w.arrival;
        walk = route_walk ((s.ways t.path).0 t.way) (along-same start nodes t.along);
        leaf_bit = subst (λ (n : Node). y ≡ w.arrival -ℤ first_bit n) (end_same start nodes t.way) w.leaf_bit;
      }

-- graphs with the same paths from r to l and the same node rows on them have the same list: no other row counts
pub list_frame : (kind : WalkKind) {g h : Graph} {r l : ℤ} → Fit g l → Fit h l → SamePaths g h r l → list_of kind g r l ≡ list_of kind h r l
list_frame kind {g} {h} f k s = (list_same f k).1 (λ x y. (reached-same h s, reached-same g (same-paths_sym s)))
