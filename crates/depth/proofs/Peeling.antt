-- One round over an edge table, by its two passes, is one round on its edges; and what the rounds have done before each.
use mathlib.Core.Path.{◌≡◌, refl, sym, ap, subst, ◌∙◌}
use mathlib.Core.Bool.{Bool, true, false, not}
use mathlib.Core.Logic.{◌≢◌, ⊎_elim}
use mathlib.Core.List.Memᴰ
use mathlib.Core.List.{List, [], ◌∷◌, ◌++◌, map, map-append}
use Prim.Native.Nat.{ℕ, ◌+◌, ◌-◌, ◌*◌, ◌/◌, ◌≤◌, ◌<◌}
use native.Mathlib.Nat.{eq-or-lt_of_le}
use native.Mathlib.Numerals.{add-one}
use native.Mathlib.Omega.{arith}
use lib.Dec.{T, eqb, eqb→eq}
use lib.IntN.{ℤ, pos, nat_abs}
use lib.Signed.{yes_non_neg, pos-nat_abs}
use lib.ListN.{length, get_or, take, length-map, get_or-map}
use lib.Seq.{sets, ext_get_or, length-take-le, length-sets}
use borrow.Author.Count.{below_more}
use borrow.Author.Tests.{eq-eqb}
use Rattle.integers.specs.Integers.{eq_z}
use Rattle.integers.proofs.Linear.{ints}
use Rattle.integers.proofs.Tests.{T_true}
use Rattle.lists.specs.Lists.{◌∈◌, keep, any, is_nil}
use Rattle.lists.proofs.Membership.{map_in, map_out}
use Rattle.lists.proofs.Kept.{keep_length}
use Rattle.model.specs.Limits.{edge_width, max_nodes, max_chain}
use Rattle.model.specs.Rows.{Edge, edge_rows}
use Rattle.model.specs.Checks.{each, ending_at, followed, begins}
use Rattle.model.proofs.Chains.{number-any, any-number, each_in, each_out}
use Rattle.tables.specs.Tables.{edge_at}
use Rattle.tables.proofs.Rows.{edges_length, edges_at, edge_own}
use Rattle.depth.specs.declared.Chained.TheVariants as chained
use Rattle.depth.specs.Order.{lasts, peeled, edge_order, chains_of}
use Rattle.depth.specs.Passes.{up_to, Within, EndsWithin, stamped, enters_stamped, SplitInto, order_of, Orderable, Unpeeled, OrderedInto}
use Rattle.depth.proofs.Keeping.{length_none, keep_agree, keep_map}
use Rattle.depth.proofs.Rounds.{followed-none, round_stuck, begins-start, begins-last, begins_sum, begins-over, begins_stuck, begins_out, peeled-last, peeled_length, order-reached}
use Rattle.depth.proofs.Stores.{sets_append, sets_front, sets_take, up_to_length, up_to_at}
use Rattle.depth.proofs.Stamps.{start_of, Starts, stamped_length, stamped-below, stamped_out, stamped_in}

-- ---- rows and edges

-- the rows of edges are their numbers
pub rows-own : (es : List ℤ) (rows : List ℕ) → map (λ e. e.row) (map (edge_at es) rows) ≡ rows
rows-own es [] = refl
rows-own es (r ∷ rows) = ap (λ l. r ∷ l) (rows-own es rows)

-- the edges of a table, by the numbers of their rows
pub edges-numbered : (es : List ℤ) → edge_rows es ≡ map (edge_at es) (up_to (length es / edge_width))
edges-numbered es =
    let n = length es / edge_width in
    ext_get_or (edge_at es 0) (edge_rows es) (map (edge_at es) (up_to n)) (edges_length es ∙ sym (length-map (up_to n) (edge_at es) ∙ up_to_length n))
    (λ i h.
    let k : i < n = omega (arith, edges_length es) in
    edges_at es i (edge_at es 0) (omega arith) ∙ ap (edge_at es) (sym (up_to_at n i k)) ∙ sym (get_or-map (edge_at es) (up_to n) i 0))

bool_same : (a b : Bool) → (T a → T b) → (T b → T a) → a ≡ b
bool_same true true f g = refl
bool_same true false f g = absurd (f tt)
bool_same false true f g = absurd (g tt)
bool_same false false f g = refl

within_same : {n : ℕ} {v : ℤ} → Within n v → pos (nat_abs v) ≡ v
within_same {v = v} w = pos-nat_abs v (yes_non_neg w.low)

-- ---- the two passes of a round

module _ (es : List ℤ) (stamp : ℕ) (rows marks : List ℕ) (within : EndsWithin es (length marks) rows) (fresh : (v : ℕ) → get_or marks v 0 < stamp) where
  -- the nodes that the rows leave are places among the marks
  pub within-starts : Starts es stamp rows marks
  within-starts e m = let w = within.from e m in omega (arith, ints, w.high, within_same w)

  -- an edge row enters a stamped node exactly where an edge of the rows follows it
  pub round-test : (e : ℕ) → e ∈ rows
      → any (eq_z (edge_at es e).to) (each (map (λ c. c.from) (map (edge_at es) rows))) ≡ enters_stamped es stamp (stamped es stamp rows marks) e
  unfolding enters_stamped
  round-test e m = bool_same (any (eq_z v) (each starts)) (eqb (get_or (stamped es stamp rows marks) (nat_abs v) 0) stamp) follows enters
    where
      v : ℤ
      v = (edge_at es e).to

      starts : List ℤ
      starts = map (λ c. c.from) (map (edge_at es) rows)

      follows : T (any (eq_z v) (each starts)) → T (eqb (get_or (stamped es stamp rows marks) (nat_abs v) 0) stamp)
      follows t =
          let c = map_out (λ c. c.from) (map (edge_at es) rows) (each_out starts (any-number v (each starts) t)) in
          let r = map_out (edge_at es) rows c.1 in
          let place : nat_abs v ≡ start_of es r.0 = ap nat_abs (c.2 ∙ ap (λ d. d.from) r.2) in
          let stamped-v = stamped_in es stamp rows marks within-starts (nat_abs v) (Memᴰ.cast place (map_in (start_of es) r.1)) in
          T_true (eqb (get_or (stamped es stamp rows marks) (nat_abs v) 0) stamp) (eq-eqb (get_or (stamped es stamp rows marks) (nat_abs v) 0) stamp stamped-v)

      enters : T (eqb (get_or (stamped es stamp rows marks) (nat_abs v) 0) stamp) → T (any (eq_z v) (each starts))
      enters t =
          ⊎_elim (λ q. absurd (omega (arith, fresh (nat_abs v))))
          (λ n.
          let r = map_out (start_of es) rows n in
          let same : v ≡ (edge_at es r.0).from = sym (within_same (within.to e m)) ∙ ap pos r.2 ∙ within_same (within.from r.0 r.1) in
          number-any (each_in (Memᴰ.cast same (map_in (λ c. c.from) (map_in (edge_at es) r.1)))))
          (stamped_out es stamp rows marks within-starts (nat_abs v) (eqb→eq (get_or (stamped es stamp rows marks) (nat_abs v) 0) stamp t))

  -- the edges that the split keeps are those that the round leaves over
  pub kept-edges : map (edge_at es) (keep (enters_stamped es stamp (stamped es stamp rows marks)) rows) ≡ followed (map (edge_at es) rows)
  unfolding followed ending_at
  kept-edges =
      let test : Edge → Bool = λ e. any (eq_z e.to) (each (map (λ c. c.from) (map (edge_at es) rows))) in
      ap (map (edge_at es)) (sym (keep_agree (λ e. test (edge_at es e)) (enters_stamped es stamp (stamped es stamp rows marks)) rows round-test))
      ∙ sym (keep_map test (edge_at es) rows)

  -- and those that it moves are those that the round removes
  pub moved_edges : map (edge_at es) (keep (λ e. not (enters_stamped es stamp (stamped es stamp rows marks) e)) rows) ≡ lasts (map (edge_at es) rows)
  unfolding lasts
  moved_edges =
      let test : Edge → Bool = λ e. not (any (eq_z e.to) (each (map (λ c. c.from) (map (edge_at es) rows)))) in
      ap (map (edge_at es))
      (sym (keep_agree (λ e. test (edge_at es e)) (λ e. not (enters_stamped es stamp (stamped es stamp rows marks) e)) rows (λ e m. ap not (round-test e m))))
      ∙ sym (keep_map test (edge_at es) rows)

-- ---- what the edges are

nil_false : {A : Type 0} (l : List A) → l ≢ [] → not (is_nil l) ≡ true
unfolding is_nil
nil_false [] n = absurd (n refl)
nil_false (x ∷ l) n = refl

nil_true : {A : Type 0} {l : List A} → l ≡ [] → not (is_nil l) ≡ false
unfolding is_nil
nil_true e = ap (λ k. not (is_nil k)) e

-- a cycle, where as many rounds as there are edges leave some over
pub chains_cycle : (es : List Edge) → begins (length es) es ≢ [] → chains_of es ≡ chained.Cycle
unfolding chains_of
chains_cycle es n = rw (nil_false (begins (length es) es) n)

-- else a long chain, where 64 rounds leave some over
pub chains-long : (es : List Edge) → begins (length es) es ≡ [] → begins max_chain es ≢ [] → chains_of es ≡ chained.LongChain
unfolding chains_of
chains-long es e n = rw (nil_true e, nil_false (begins max_chain es) n)

-- else ordered
pub chains-ordered : (es : List Edge) → begins (length es) es ≡ [] → begins max_chain es ≡ [] → chains_of es ≡ chained.Ordered
unfolding chains_of
chains-ordered es e d = rw (nil_true e, nil_true d)

-- ---- the rounds

-- the marks after the first pass of a round, behind so many rounds
abbrev pub round_marks : List ℤ → List ℕ → List ℕ → ℕ → ℕ → List ℕ
round_marks es rest marks left round = stamped es (round + 1) (take left rest) marks

-- the test of its second pass, and what that pass leaves
abbrev pub round_test : List ℤ → List ℕ → List ℕ → ℕ → ℕ → ℕ → Bool
round_test es rest marks left round = enters_stamped es (round + 1) (round_marks es rest marks left round)

abbrev pub RoundSplit : List ℤ → List ℕ → List ℕ → List ℕ → ℕ → ℕ → ℕ → List ℕ → List ℕ → Type 0
RoundSplit es rest marks order left round =
    SplitInto (round_test es rest marks left round) left rest order (length es / edge_width - left)

module _ (es : List ℤ) (old : List ℕ) where
  -- before a round: how many rounds are done, what they leave over and what they have moved
  pub record Peeling (rest marks order : List ℕ) (left round : ℕ) : Type 0 where
    pub over : map (edge_at es) (take left rest) ≡ begins round (edge_rows es)
    pub long : left ≤ length rest
    pub bound : round + left ≤ length es / edge_width
    pub some : (k : ℕ) → k < round → begins k (edge_rows es) ≢ []
    pub nodes : length marks ≡ max_nodes
    pub below : (v : ℕ) → get_or marks v 0 ≤ round
    pub moved : order ≡ sets old 0 (map (λ e. e.row) (peeled round (edge_rows es)))

  -- the buffer, once the rounds have removed all that they can
  order-written : (k : ℕ) {order : List ℕ} → length es ≤ edge_width * length old → k ≤ length es / edge_width
      → followed (begins k (edge_rows es)) ≡ begins k (edge_rows es)
      → order ≡ sets old 0 (map (λ e. e.row) (peeled k (edge_rows es))) → order ≡ order_of es old
  unfolding order_of
  order-written k fits h stuck moved =
      let reached = order-reached k (edge_rows es) (omega (arith, edges_length es)) stuck in
      let rows = map (λ (e : Edge). e.row) (edge_order (edge_rows es)) in
      let short : length rows ≤ length old =
      omega (arith, length-map (edge_order (edge_rows es)) (λ (e : Edge). e.row), ap length reached, peeled_length k (edge_rows es), edges_length es) in
      moved ∙ ap (λ l. sets old 0 (map (λ e. e.row) l)) (sym reached) ∙ sets_front old rows short

  module _ (table : Orderable es (length old)) where
    -- before the first round
    pub peeling_start : {rest marks : List ℕ} → Unpeeled es rest marks (length old) → Peeling rest marks old (length es / edge_width) 0
    unfolding peeled
    peeling_start {rest} u = record {
      over = ap (map (edge_at es)) u.rows ∙ sym (edges-numbered es) ∙ sym (begins-start (edge_rows es));
      long = u.long;
      bound = omega arith;
      some = λ k h. absurd (omega arith);
      nodes = u.nodes;
      below = λ v. omega (arith, u.blank v);
      moved = refl;
    }

    module _ {rest marks order : List ℕ} {left round : ℕ} (p : Peeling rest marks order left round) where
      -- the edges that are left over are as many as the rows
      left_length : length (begins round (edge_rows es)) ≡ left
      left_length = ap length (sym p.over) ∙ length-map (take left rest) (edge_at es) ∙ length-take-le left rest p.long

      -- the rows that are left over can be passed
      pub peeling_within : EndsWithin es (length marks) (take left rest)
      peeling_within = record {
        there = λ e m. omega (arith, (edge_own es (member e m)).0);
        from = λ e m. within (table.ends (edge_at es e) (member e m)).0;
        to = λ e m. within (table.ends (edge_at es e) (member e m)).1;
      }
        where
          member : (e : ℕ) → e ∈ take left rest → edge_at es e ∈ edge_rows es
          member e m = begins_out round (edge_rows es) (subst (λ (l : List Edge). edge_at es e ∈ l) p.over (map_in (edge_at es) m))

          within : {v : ℤ} → Within max_nodes v → Within (length marks) v
          within w = record { low = w.low; high = omega (arith, ints, w.high, p.nodes) }

      module _ (e : left ≡ 0) where
        over_none : begins round (edge_rows es) ≡ []
        over_none = length_none (begins round (edge_rows es)) (omega (arith, left_length))

        all_none : begins (length (edge_rows es)) (edge_rows es) ≡ []
        all_none = begins-over round (length (edge_rows es)) (edge_rows es) (omega (arith, p.bound, edges_length es)) over_none

        none_written : order ≡ order_of es old
        none_written = order-written round table.fits (omega (arith, p.bound)) (ap followed over_none ∙ followed-none ∙ sym over_none) p.moved

        -- where none are left over after 64 rounds at most, the edges are ordered
        pub peeling_ordered : round ≤ max_chain → OrderedInto es old chained.Ordered order
        peeling_ordered h = record {
          chains = sym (chains-ordered (edge_rows es) all_none (begins-over round max_chain (edge_rows es) h over_none));
          order = none_written;
        }

        -- where it took more rounds, there is a long chain
        pub peeling_long : max_chain < round → OrderedInto es old chained.LongChain order
        peeling_long h = record { chains = sym (chains-long (edge_rows es) all_none (p.some max_chain h)); order = none_written }

      module _ {rest' order' : List ℕ} {kept : ℕ} (some_left : 0 < left) (s : RoundSplit es rest marks order left round kept rest' order')
        where
          abbrev kept-rows : List ℕ
          kept-rows = keep (round_test es rest marks left round) (take left rest)

          abbrev moved_rows : List ℕ
          moved_rows = keep (λ e. not (round_test es rest marks left round e)) (take left rest)

          fresh : (v : ℕ) → get_or marks v 0 < round + 1
          fresh v = omega (arith, p.below v)

          few-kept : kept ≤ left
          few-kept =
              omega (
                arith,
                s.count,
                keep_length (round_test es rest marks left round) (take left rest),
                length-take-le left rest p.long,
              )

          -- the rows that are kept are those of the edges that one round more leaves over
          next-over : map (edge_at es) kept-rows ≡ begins (round + 1) (edge_rows es)
          next-over =
              kept-edges es (round + 1) (take left rest) marks peeling_within fresh
              ∙ ap followed p.over
              ∙ sym (begins-last round (edge_rows es))
              ∙ ap (λ n. begins n (edge_rows es)) (sym (add-one round))

          -- the rows that are moved come behind those that were moved before
          next_moved : order' ≡ sets old 0 (map (λ e. e.row) (peeled (round + 1) (edge_rows es)))
          next_moved =
              let before = map (λ (e : Edge). e.row) (peeled round (edge_rows es)) in
              let removed : moved_rows ≡ map (λ e. e.row) (lasts (begins round (edge_rows es))) =
              sym (rows-own es moved_rows)
              ∙ ap (map (λ e. e.row)) (moved_edges es (round + 1) (take left rest) marks peeling_within fresh ∙ ap lasts p.over) in
              let grown : before ++ moved_rows ≡ map (λ e. e.row) (peeled (round + 1) (edge_rows es)) =
              ap (λ l. before ++ l) removed
              ∙ sym (map-append (λ (e : Edge). e.row) (peeled round (edge_rows es)) (lasts (begins round (edge_rows es))))
              ∙ ap (map (λ e. e.row)) (sym (peeled-last round (edge_rows es)) ∙ ap (λ n. peeled n (edge_rows es)) (sym (add-one round))) in
              let place : length es / edge_width - left ≡ 0 + length before =
              omega (
                arith,
                length-map (peeled round (edge_rows es)) (λ (e : Edge). e.row),
                peeled_length round (edge_rows es),
                left_length,
                edges_length es,
              ) in
              s.behind
              ∙ ap (λ o. sets o (length es / edge_width - left) moved_rows) p.moved
              ∙ ap (λ k. sets (sets old 0 before) k moved_rows) place
              ∙ sets_append old 0 before moved_rows
              ∙ ap (sets old 0) grown

          -- a round that moves none has come to a cycle
          pub peeling_cycle : kept ≡ left → OrderedInto es old chained.Cycle order'
          peeling_cycle e =
              let E = edge_rows es in
              let last : begins (round + 1) E ≡ followed (begins round E) = ap (λ n. begins n E) (add-one round) ∙ begins-last round E in
              let stuck : followed (begins round E) ≡ begins round E =
              round_stuck (begins round E)
              (omega (arith, left_length, s.count, length-map kept-rows (edge_at es), ap length next-over, ap length last)) in
              let same : begins (length E) E ≡ begins round E =
              ap (λ n. begins n E) (split_off (length E) (omega (arith, p.bound, edges_length es)))
              ∙ begins_sum round (length E - round) E
              ∙ begins_stuck (length E - round) (begins round E) stuck in
              record {
                chains = sym (chains_cycle E (λ none. omega (arith, left_length, ap length (sym same ∙ none))));
                order =
                    order-written (round + 1) table.fits (omega (arith, p.bound)) (ap followed (last ∙ stuck) ∙ stuck ∙ sym (last ∙ stuck))
                    next_moved;
              }
            where
              split_off : (n : ℕ) → round ≤ n → n ≡ round + (n - round)
              split_off n h = omega arith

          -- a round that moves some leaves fewer over
          pub peeling_fewer : kept ≢ left → kept < left
          peeling_fewer n = ⊎_elim (λ e. absurd (n e)) (λ h. h) (eq-or-lt_of_le few-kept)

          -- such a round is done
          pub peeling_next : kept ≢ left → Peeling rest' (round_marks es rest marks left round) order' kept (round + 1)
          peeling_next n =
              let front : take kept rest' ≡ kept-rows =
              ap (take kept) s.front
              ∙ ap (λ k. take k (sets rest 0 kept-rows)) s.count
              ∙ sets_take rest kept-rows (omega (arith, s.count, few-kept, p.long)) in
              record {
                over = ap (map (edge_at es)) front ∙ next-over;
                long = omega (arith, few-kept, p.long, ap length s.front, length-sets rest 0 kept-rows);
                bound = omega (arith, p.bound, peeling_fewer n);
                some = below_more (λ k. begins k (edge_rows es) ≢ []) round p.some (λ none. omega (arith, left_length, ap length none));
                nodes = stamped_length es (round + 1) (take left rest) marks ∙ p.nodes;
                below =
                    stamped-below es (round + 1) (take left rest) marks (within-starts es (round + 1) (take left rest) marks peeling_within fresh)
                    (λ v. omega (arith, fresh v));
                moved = next_moved;
              }
