-- Words: texts of a–z, 0–9 and minus, as names and shown values are. The tables have words for names, each once.
use mathlib.Core.Path.{◌≡◌, refl, sym}
use mathlib.Core.Bool.{Bool, true, false, not, cond, ◌&&◌}
use mathlib.Core.Logic.{◌≢◌, ◌⊎◌, inl, inr, ⊎_elim}
use mathlib.Core.List.{List, [], ◌∷◌, nil≢cons, cons-eq-cons}
use Prim.Native.Nat.{ℕ, ◌≤◌}
use native.Mathlib.Omega.{arith}
use lib.Dec.{T, T_not, leb, eqb, leb→le}
use lib.IntN.{ℤ}
use Rattle.integers.proofs.Tests.{Test, passed, failed, eq?, and_out}
use Rattle.lists.specs.Lists.{◌∈◌, any, all, Distinct, none, more}
use Rattle.lists.proofs.Membership.{all_out, any_in}
use Rattle.lists.proofs.Decisions.{Decides, decides_iff}
use Rattle.model.specs.Bytes.{Bytes, bytes, blank, dash, line_feed, shown, same}
use Rattle.model.specs.MapFile.{Table, all_names, node_table, edge_table, pair_table, Allowed}
use Rattle.model.specs.SheetFile.{sheet_table}
use Rattle.filerules.proofs.Splits.{Lacks}
use Rattle.filerules.proofs.Numerals.{Digit, shown_are}

-- same decides whether two texts are the same
pub same? : (a b : Bytes) → Decides (a ≡ b) (same a b)
unfolding same
same? [] [] = passed refl
same? [] (y ∷ ys) = failed nil≢cons
same? (x ∷ xs) [] = failed (λ e. nil≢cons (sym e))
same? (x ∷ xs) (y ∷ ys) = go (eqb x y) (eq? x y) (same xs ys) (same? xs ys)
  where
    go : (b : Bool) → Test (x ≡ y) (x ≢ y) b → (r : Bool) → Decides (xs ≡ ys) r → Decides (x ∷ xs ≡ y ∷ ys) (cond b r false)
    go true (passed e) r (passed es) = passed (cc)
    go true (passed e) r (failed n) = failed (λ q. n (cons-eq-cons.0 q).1)
    go false (failed n) r d = failed (λ q. n (cons-eq-cons.0 q).0)

-- ---- words

-- a–z, 0–9 or minus
abbrev pub Plain : ℕ → Type 0
Plain c = ((97 ≤ c) × (c ≤ 122)) ⊎ Digit c ⊎ (c ≡ dash)

-- every byte is one of these
abbrev pub Word : Bytes → Type 0
Word b = (c : ℕ) → c ∈ b → Plain c

-- such a byte is neither space nor line feed
pub plain_apart : (c : ℕ) → Plain c → (c ≢ blank) × (c ≢ line_feed)
plain_apart c (inl h) = omega arith
plain_apart c (inr (inl h)) = omega arith
plain_apart c (inr (inr h)) = omega arith

-- it is allowed
pub plain_allowed : {c : ℕ} → Plain c → Allowed c
plain_allowed (inl h) = inl h
plain_allowed (inr (inl h)) = inr (inl h)
plain_allowed (inr (inr h)) = inr (inr (inl h))

-- a word has no space
pub word_lacks_blank : {b : Bytes} → Word b → Lacks blank b
word_lacks_blank w m = (plain_apart blank (w blank m)).0 refl

-- a word has no line feed
pub word_lacks_feed : {b : Bytes} → Word b → Lacks line_feed b
word_lacks_feed w m = (plain_apart line_feed (w line_feed m)).1 refl

-- what shows a value is a word
pub shown_word : (v : ℤ) → Word (shown v)
shown_word v c m = ⊎_elim (λ e. inr (inr e)) (λ d. inr (inl d)) (shown_are v c m)

-- ---- the tables of the file

-- a table that has names, which are words, optional or not, each once
pub record Regular (t : Table) : Type 0 where
  pub some : t.names ≢ []
  pub words : (n : Bytes) → n ∈ all_names t → Word n
  pub once : Distinct (all_names t)

-- the tests by which names are found to be such
is_letter : ℕ → Bool
is_letter c = leb 97 c && leb c 122

apart : List Bytes → Bool
apart [] = true
apart (n ∷ ns) = not (any (same n) ns) && apart ns

letters_word : (ns : List Bytes) → T (all (all is_letter) ns) → (n : Bytes) → n ∈ ns → Word n
unfolding is_letter
letters_word ns h n m c k =
    let t = and_out (leb 97 c) (leb c 122) (all_out is_letter (all_out (all is_letter) h m) k) in
    inl (leb→le 97 c t.0, leb→le c 122 t.1)

apart_distinct : (ns : List Bytes) → T (apart ns) → Distinct ns
unfolding apart
apart_distinct [] h = none
apart_distinct (n ∷ ns) h =
    let t = and_out (not (any (same n) ns)) (apart ns) h in
    more (λ m. T_not (any (same n) ns) t.0 (any_in (same n) m ((decides_iff (same? n n)).1 refl))) (apart_distinct ns t.1)

-- the node table
pub node_regular : Regular node_table
unfolding node_table bytes all is_letter apart any same
node_regular = record { some = λ e. nil≢cons (sym e); words = letters_word (all_names node_table) tt; once = apart_distinct (all_names node_table) tt }

-- the edge table
pub edge_regular : Regular edge_table
unfolding edge_table bytes all is_letter apart any same
edge_regular = record { some = λ e. nil≢cons (sym e); words = letters_word (all_names edge_table) tt; once = apart_distinct (all_names edge_table) tt }

-- the pair table
pub pair_regular : Regular pair_table
unfolding pair_table bytes all is_letter apart any same
pair_regular = record { some = λ e. nil≢cons (sym e); words = letters_word (all_names pair_table) tt; once = apart_distinct (all_names pair_table) tt }

-- the table of a sheet
pub sheet_regular : Regular sheet_table
unfolding sheet_table bytes all is_letter apart any same
sheet_regular = record { some = λ e. nil≢cons (sym e); words = letters_word (all_names sheet_table) tt; once = apart_distinct (all_names sheet_table) tt }
