-- The lines of a text and the text that has them: a text that does not break off is its lines, each with its line feed.
use mathlib.Core.Path.{◌≡◌, refl, sym, ap, subst, ◌∙◌}
use mathlib.Core.Logic.{◌≢◌, ◌⊎◌, inl, inr, ⊎_elim}
use mathlib.Core.List.Memᴰ
use mathlib.Core.List.{List, [], ◌∷◌, ◌++◌, append-nil, append_assoc, flat_map, nil≢cons, head-eq_of_cons-eq, tail-eq_of_cons-eq, concat-ne-nil}
use Prim.Native.Nat.{ℕ}
use Rattle.integers.proofs.Tests.{failed, eq?}
use Rattle.lists.specs.Lists.{◌∈◌}
use Rattle.lists.proofs.Membership.{flat_map_out}
use Rattle.lists.proofs.Decisions.{Decides, test_map, decides_not, decides_as}
use Rattle.model.specs.Bytes.{Bytes, line_feed}
use Rattle.model.specs.MapFile.{onto, lines, BrokenOff}
use Rattle.model.specs.Reader.{broken_off}
use Rattle.filerules.proofs.Splits.{Lacks, AllLack, Part, ends, goes, part, Parted, parted, part_parted, split_lack, split_behind}

-- the text of these lines, each with its line feed
unfoldable pub ended : List Bytes → Bytes
ended ls = flat_map (λ l. l ++ (line_feed ∷ [])) ls

-- the first line, its line feed, and the text of the others
pub ended_cons : (l : Bytes) (ls : List Bytes) → ended (l ∷ ls) ≡ l ++ line_feed ∷ ended ls
unfolding ended flat_map
ended_cons l ls = append_assoc l (line_feed ∷ []) (ended ls)

-- the text of lines, and of more lines behind them
pub ended_append : (ks ls : List Bytes) → ended (ks ++ ls) ≡ ended ks ++ ended ls
unfolding ended flat_map
ended_append [] ls = refl
ended_append (k ∷ ks) ls = rw (ended_append ks ls) (sym (append_assoc (k ++ (line_feed ∷ [])) (ended ks) (ended ls)))

lines_step : (c : ℕ) (t : Bytes) → Part line_feed c (lines t) (lines (c ∷ t))
unfolding lines
lines_step c t = part line_feed c (lines t)

-- no line has a line feed
pub lines_lack : (text : Bytes) → AllLack line_feed (lines text)
unfolding lines
lines_lack text = split_lack line_feed lines lines_step (λ l m k. Memᴰ.not-nil m) text

-- ---- from lines to the text

-- a line without line feed, with its line feed before a text, is one line more
lines_cons : (l t : Bytes) → Lacks line_feed l → lines (l ++ line_feed ∷ t) ≡ l ∷ lines t
unfolding lines
lines_cons l t n = rw append-nil at (split_behind line_feed lines lines_step l (line_feed ∷ t) [] (lines t) n refl)

-- the lines of the text of lines are these
pub lines-ended : (ls : List Bytes) → AllLack line_feed ls → lines (ended ls) ≡ ls
unfolding ended flat_map lines
lines-ended [] h = refl
lines-ended (l ∷ ls) h =
    let rec = lines-ended ls (λ k m. h k (Memᴰ.tail m)) in
    ap lines (ended_cons l ls) ∙ lines_cons l (ended ls) (h l (Memᴰ.head refl)) ∙ ap {B = List Bytes} (λ r. l ∷ r) rec

-- ---- from the text to lines

-- a byte before the first line is a byte before the text
ended-onto : (c : ℕ) (ls : List Bytes) → Parted ls → ended (onto c ls) ≡ c ∷ ended ls
unfolding ended flat_map onto
ended-onto c ls (parted {p} {ps}) = refl

-- a text of two bytes or more breaks off exactly where it does without the first
broken_cons : (c d : ℕ) (t : Bytes) → BrokenOff (d ∷ t) → BrokenOff (c ∷ d ∷ t)
broken_cons c d t b = record { front = c ∷ b.front; last = b.last; ends = ap {B = Bytes} (λ r. c ∷ r) b.ends; no_feed = b.no_feed }

broken-rest : (c d : ℕ) (t : Bytes) → BrokenOff (c ∷ d ∷ t) → BrokenOff (d ∷ t)
broken-rest c d t b = go b.front b.ends
  where
    go : (f : Bytes) → c ∷ d ∷ t ≡ f ++ (b.last ∷ []) → BrokenOff (d ∷ t)
    go [] e = absurd (nil≢cons (sym (tail-eq_of_cons-eq e)))
    go (x ∷ f) e = record { front = f; last = b.last; ends = tail-eq_of_cons-eq e; no_feed = b.no_feed }

-- a text of one byte breaks off where that is no line feed
broken-single : (c : ℕ) → BrokenOff (c ∷ []) → c ≢ line_feed
broken-single c b = go b.front b.ends
  where
    go : (f : Bytes) → c ∷ [] ≡ f ++ (b.last ∷ []) → c ≢ line_feed
    go [] e q = b.no_feed (sym (head-eq_of_cons-eq e) ∙ q)
    go (x ∷ f) e q = concat-ne-nil b.last f (sym (tail-eq_of_cons-eq e))

single-broken : (c : ℕ) → c ≢ line_feed → BrokenOff (c ∷ [])
single-broken c n = record { front = []; last = c; ends = refl; no_feed = n }

-- broken_off decides whether the last line has no line feed
pub broken_off? : (text : Bytes) → Decides (BrokenOff text) (broken_off text)
unfolding broken_off
broken_off? [] = failed (λ b. concat-ne-nil b.last b.front (sym b.ends))
broken_off? (c ∷ []) = decides_as (single-broken c, broken-single c) (decides_not (eq? c line_feed))
broken_off? (c ∷ d ∷ t) = test_map (broken_cons c d t) (λ n b. n (broken-rest c d t b)) (broken_off? (d ∷ t))

-- a text whose last line has its line feed is the text of its lines
pub ended-lines : (text : Bytes) → (BrokenOff text → ⊥) → ended (lines text) ≡ text
unfolding ended flat_map lines
ended-lines [] n = refl
ended-lines (c ∷ []) n = go (lines (c ∷ [])) (lines_step c [])
  where
    go : (ls : List Bytes) → Part line_feed c (lines []) ls → ended ls ≡ c ∷ []
    go ls (ends e) = rw e
    go ls (goes q) = absurd (n (single-broken c q))
ended-lines (c ∷ d ∷ t) n = go (lines (c ∷ d ∷ t)) (lines_step c (d ∷ t)) (ended-lines (d ∷ t) (λ b. n (broken_cons c d t b)))
  where
    go : (ls : List Bytes) → Part line_feed c (lines (d ∷ t)) ls → ended (lines (d ∷ t)) ≡ d ∷ t → ended ls ≡ c ∷ d ∷ t
    go ls (ends e) rec = rw (e, rec)
    go ls (goes q) rec = ended-onto c (lines (d ∷ t)) (part_parted (lines_step d t)) ∙ ap {B = Bytes} (λ r. c ∷ r) rec

broken-behind : (f : Bytes) (d : ℕ) (t : Bytes) → BrokenOff (f ++ d ∷ t) → BrokenOff (d ∷ t)
broken-behind [] d t b = b
broken-behind (c ∷ []) d t b = broken-rest c d t b
broken-behind (c ∷ e ∷ f) d t b = broken-behind (e ∷ f) d t (broken-rest c e (f ++ d ∷ t) b)

-- the text of lines does not break off
pub ended-whole : (ls : List Bytes) → BrokenOff (ended ls) → ⊥
unfolding ended flat_map
ended-whole [] b = concat-ne-nil b.last b.front (sym b.ends)
ended-whole (l ∷ ls) b = go (ended ls) (ended-whole ls) (broken-behind l line_feed (ended ls) (subst BrokenOff (ended_cons l ls) b))
  where
    go : (t : Bytes) → (BrokenOff t → ⊥) → BrokenOff (line_feed ∷ t) → ⊥
    go [] n k = broken-single line_feed k refl
    go (d ∷ t) n k = n (broken-rest line_feed d t k)

-- a byte of the text of lines is a line feed, or in one of the lines
pub ended_out : (c : ℕ) (ls : List Bytes) → c ∈ ended ls → (c ≡ line_feed) ⊎ ((l : Bytes) × (l ∈ ls) × (c ∈ l))
unfolding ended
ended_out c ls m = go (flat_map_out (λ l. l ++ (line_feed ∷ [])) ls m)
  where
    go : (l : Bytes) × (l ∈ ls) × (c ∈ l ++ (line_feed ∷ [])) → (c ≡ line_feed) ⊎ ((l : Bytes) × (l ∈ ls) × (c ∈ l))
    go w = ⊎_elim (λ k. inr (w.0, w.1, k)) (λ k. inl (Memᴰ.eq_of_singleton k)) (Memᴰ.append_cases w.0 w.2)
