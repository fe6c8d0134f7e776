-- What is found of a pair, and what is kept of the pairs so far. Assumes nothing.
use Rattle.std.specs.Prelude.{◌≡◌, Bool, true, not, cond, ◌&&◌, ℕ, suc, ◌+◌, ◌≤◌, max, eqb, pos, length, take}
use mathlib.Core.List.{List, [], ◌∷◌, ◌++◌, flat_map}
use Rattle.std.specs.Int.Signed.{lt_z}
use Rattle.lists.specs.Lists.{◌∈◌}
use Rattle.model.specs.declared.WalkKind.{WalkKind}
use Rattle.model.specs.declared.WalkKind.TheVariants.{Reading, Writing}
use Rattle.model.specs.Answers.{verdict_number, comparison_result}
use Rattle.model.specs.Compare.{Finding, kind_verdict, Place, Result, result_of}
use Rattle.model.specs.Report.{finding_line}
use Rattle.model.specs.Verdicts.{lowest}
use Rattle.reporting.specs.Lines.{lines_of, max_visits, SmallPlace, SmallLengths}
use Rattle.totals.specs.declared.Found.{Found}
use Rattle.totals.specs.declared.Kept.{Kept}
use Rattle.totals.specs.declared.Place as declared

-- ---- one pair

-- what is found of a pair for a kind of walk is the verdict of its finding for this kind, the lengths of its lists and, where the address is asked for, the lowest
-- bit address at which they differ, or −1
pub record IsFinding (kind : WalkKind) (f : Finding) (asked : Bool) (r : Found) : Type 0 where
  pub verdict : verdict_number r.verdict ≡ kind_verdict f kind
  pub spec : r.lengths.spec ≡ length (f.spec kind)
  pub impl : r.lengths.implementation ≡ length (f.impl kind)
  pub address : asked ≡ true → r.address ≡ lowest (f.spec kind) (f.impl kind)

-- no list of either kind has a record
pub record Bare (f : Finding) : Type 0 where
  pub spec : (kind : WalkKind) → f.spec kind ≡ []
  pub impl : (kind : WalkKind) → f.impl kind ≡ []

-- ---- the full result with one more pair

-- how often a verdict was given, with one more verdict v
abbrev pub counted : ℕ → ℕ → ℕ → ℕ
counted verdict v n = cond (eqb v verdict) (suc n) n

-- the place that the code holds
abbrev pub as_place : declared.Place → Place
as_place p = record { root = p.root; leaf = p.leaf; address = p.address }

-- the place of the first unequal pair, with one more pair of verdict v
abbrev pub first_place : ℕ → Place → Place → Place
first_place v place first = cond (not (eqb v 0) && lt_z first.root (pos 0)) place first

-- the full result, with one more pair of verdict v
unfoldable pub result_with : ℕ → Place → Result → Result
result_with v place r =
    record {
      equal = counted 0 v r.equal;
      partial = counted 1 v r.partial;
      different = counted 2 v r.different;
      verdict = max r.verdict v;
      place = first_place v place r.place;
    }

-- ---- what is kept

-- what is kept of these findings: their full result, how many bytes their lines have and, where no more lines are counted than there is room for, the
-- numbers of their lines
pub record KeptOf (fs : List Finding) (lines : List ℕ) (k : Kept) : Type 0 where
  pub result : comparison_result k.result ≡ result_of fs
  pub count : k.count ≤ length fs
  pub bytes : k.bytes ≡ length (flat_map finding_line fs)
  pub held : k.count ≤ length lines → lines_of (take k.count lines) ≡ flat_map finding_line fs

-- what is kept of no finding, whatever stands in the lines
abbrev pub KeptNone : Kept → Type 0
KeptNone k = (lines : List ℕ) → KeptOf [] lines k

-- the address of the next unequal pair is asked for: no unequal pair was met
abbrev pub is_asked : Kept → Bool
is_asked k = lt_z k.result.root (pos 0)

-- k is kept of findings that, with n more, are at most 1,000,000
pub record RoomFor (n : ℕ) (k : Kept) : Type 0 where
  pub fs : List Finding
  pub lines : List ℕ
  pub kept : KeptOf fs lines k
  pub few : length fs + n ≤ max_visits

-- what is found of the pair of root row i and the group of lowest row j for reading and for writing can be added
pub record PairAddable (k : Kept) (i j : ℕ) (reading writing : Found) : Type 0 where
  pub room : RoomFor 1 k
  pub place : SmallPlace i j
  pub read : SmallLengths reading.lengths
  pub written : SmallLengths writing.lengths

-- it is added: whatever findings were kept, its finding is kept behind them
pub record Added (k : Kept) (lines : List ℕ) (i j : ℕ) (reading writing : Found) (k' : Kept) (lines' : List ℕ) : Type 0 where
  pub kept : (fs : List Finding) (f : Finding) → f.visit.root.row ≡ i → f.visit.leaf.row ≡ j
      → IsFinding Reading f (is_asked k) reading → IsFinding Writing f (is_asked k) writing
      → KeptOf fs lines k → KeptOf (fs ++ (f ∷ [])) lines' k'
  -- where an address is still asked for, one was asked for before, and the pair is equal
  pub asked : is_asked k' ≡ true → (is_asked k ≡ true) × (max (verdict_number reading.verdict) (verdict_number writing.verdict) ≡ 0)

-- n findings without a record are added
pub record EqualAdded (k : Kept) (n : ℕ) (k' : Kept) : Type 0 where
  pub kept : (fs gs : List Finding) (lines : List ℕ) → length gs ≡ n → ((g : Finding) → g ∈ gs → Bare g) → KeptOf fs lines k
      → KeptOf (fs ++ gs) lines k'
  -- an address is asked for behind them as before
  pub asked : is_asked k' ≡ is_asked k
