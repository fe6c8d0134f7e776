-- The check of the whole text settles the conditions 12: its length, its bytes, and its last line.
use mathlib.Core.Path.{◌≡◌, refl}
use mathlib.Core.Bool.{not, cond, ◌&&◌, ◌||◌}
use mathlib.Core.List.Memᴰ
use mathlib.Core.List.{[], ◌∷◌}
use mathlib.Core.Option.{none}
use Prim.Native.Nat.{ℕ, suc, ◌≤◌, ◌<◌}
use native.Mathlib.Omega.{arith}
use lib.Dec.{leb, ltb, eqb}
use lib.ListN.{length}
use Rattle.integers.proofs.Tests.{eq?}
use Rattle.lists.specs.Lists.{◌∈◌}
use Rattle.lists.proofs.Decisions.{Decides, decides_and, decides_or, decides_not, decides_lt, or_regroup}
use Rattle.model.specs.Limits.{max_text}
use Rattle.model.specs.Bytes.{Bytes, line_feed, blank, dash}
use Rattle.model.specs.MapFile.{Allowed, byte_conditions, BrokenOff, whole_text_conditions, feeds}
use Rattle.model.specs.Refusals.{NoneHolds, refuse, ◌next◌}
use Rattle.model.specs.Checks.{when, ◌then◌}
use Rattle.model.specs.Reader.{allowed, check_bytes, broken_off, check_text}
use Rattle.model.proofs.Settled.{Settled, settled_next, settled_when, settled_none, none-next}
use Rattle.filerules.proofs.Options.{decides_leb}
use Rattle.filerules.proofs.Lines.{broken_off?}

-- allowed decides whether a byte is allowed
pub allowed? : (c : ℕ) → Decides (Allowed c) (allowed c)
unfolding allowed
allowed? c =
    let letter = leb 97 c && leb c 122 in
    let digit = leb 48 c && leb c 57 in
    let last = decides_or (eq? c dash) (decides_or (eq? c blank) (eq? c line_feed)) in
    let all = decides_or (decides_and (decides_leb 97 c) (decides_leb c 122)) (decides_or (decides_and (decides_leb 48 c) (decides_leb c 57)) last) in
    or_regroup (letter || digit || eqb c dash) (eqb c blank) (eqb c line_feed)
    (or_regroup (letter || digit) (eqb c dash) (eqb c blank || eqb c line_feed)
    (or_regroup letter digit (eqb c dash || (eqb c blank || eqb c line_feed)) all))

-- the check of the bytes settles their conditions
pub bytes_settled : (n : ℕ) (text : Bytes) → Settled (check_bytes n text) (byte_conditions n text)
unfolding check_bytes byte_conditions
bytes_settled n [] = tt
bytes_settled n (c ∷ t) =
    let m = cond (eqb c line_feed) (suc n) n in
    settled_next (when (not (allowed c)) 12 6 n) (check_bytes m t) (refuse 12 6 n (Allowed c → ⊥)) (byte_conditions m t)
    (settled_when 12 6 n (decides_not (allowed? c)))
    (λ h. bytes_settled m t)

-- the check of the whole text settles its conditions
pub text_settled : (text : Bytes) → Settled (check_text text) (whole_text_conditions text)
unfolding check_text whole_text_conditions
text_settled text =
    let last = when (broken_off text) 12 6 (suc (feeds text)) in
    let Last = refuse 12 6 (suc (feeds text)) (BrokenOff text) in
    let bytes = byte_conditions 1 text in
    let whole = settled_when 12 6 (suc (feeds text)) (broken_off? text) in
    settled_next (when (ltb max_text (length text)) 12 6 0) (check_bytes 1 text then last) (refuse 12 6 0 (max_text < length text)) (bytes next Last)
    (settled_when 12 6 0 (decides_lt max_text (length text)))
    (λ h. settled_next (check_bytes 1 text) last bytes Last (bytes_settled 1 text) (λ k. whole))

-- ---- a text that passes

bytes-allowed : (n : ℕ) (text : Bytes) → ((c : ℕ) → c ∈ text → Allowed c) → NoneHolds (byte_conditions n text)
unfolding byte_conditions
bytes-allowed n [] h = tt
bytes-allowed n (c ∷ t) h = (λ k. k (h c (Memᴰ.head refl)), bytes-allowed (cond (eqb c line_feed) (suc n) n) t (λ d m. h d (Memᴰ.tail m)))

-- a text of allowed bytes, not too long, whose last line has its line feed, passes the check
pub text_passes : (text : Bytes) → length text ≤ max_text → ((c : ℕ) → c ∈ text → Allowed c) → (BrokenOff text → ⊥) → check_text text ≡ none
unfolding whole_text_conditions
text_passes text short allow whole =
    let bytes = (none-next (byte_conditions 1 text) (refuse 12 6 (suc (feeds text)) (BrokenOff text))).1 (bytes-allowed 1 text allow, (whole, tt)) in
    (settled_none (check_text text) (whole_text_conditions text) (text_settled text)).1 ((λ k. omega arith), bytes)

-- a text that passes is not too long, and its last line has its line feed
pub text-passed : (text : Bytes) → check_text text ≡ none → (length text ≤ max_text) × (BrokenOff text → ⊥)
unfolding whole_text_conditions
text-passed text e =
    let h = (settled_none (check_text text) (whole_text_conditions text) (text_settled text)).0 e in
    let k = (none-next (byte_conditions 1 text) (refuse 12 6 (suc (feeds text)) (BrokenOff text))).0 h.1 in
    (omega (arith, h.0), k.1.0)
