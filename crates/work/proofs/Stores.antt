-- Rows stored in the work area: what stands there, and what is kept. Assumes nothing.
use Prim.Native.Nat.{ℕ, zero, suc, ◌+◌, ◌≤◌, ◌<◌}
use native.Mathlib.Nat.{add-zero}
use native.Mathlib.Numerals.{add-one}
use native.Mathlib.Omega.{arith}
use mathlib.Core.List.{List, [], ◌∷◌, ◌++◌}
use mathlib.Core.Path.{◌≡◌, refl, ◌∙◌}
use lib.ListN.{length, get_or, set, take, length-set}
use lib.Seq.{sets, get_or-set_same, get_or-set_other, take-suc, take-length, length-take-le}
use Rattle.work.specs.Rows.{Small}

-- ---- what stands there

-- words below the row are kept
pub sets_below : (vs w : List ℕ) (at i : ℕ) → i < at → get_or (sets w at vs) i 0 ≡ get_or w i 0
sets_below [] w at i h = refl
sets_below (v ∷ vs) w at i h = sets_below vs (set w at v) (suc at) i (omega arith) ∙ get_or-set_other w at i v 0 (omega arith)

-- words above the row are kept
pub sets_above : (vs w : List ℕ) (at i : ℕ) → at + length vs ≤ i → get_or (sets w at vs) i 0 ≡ get_or w i 0
sets_above [] w at i h = refl
sets_above (v ∷ vs) w at i h = sets_above vs (set w at v) (suc at) i (omega arith) ∙ get_or-set_other w at i v 0 (omega arith)

-- word k of the row
pub sets_here : (vs w : List ℕ) (at k : ℕ) → k < length vs → at + length vs ≤ length w → get_or (sets w at vs) (at + k) 0 ≡ get_or vs k 0
sets_here [] w at k h r = absurd (omega arith)
sets_here (v ∷ vs) w at zero h r = rw add-zero (sets_below vs (set w at v) (suc at) at (omega arith) ∙ get_or-set_same w at v 0 (omega arith))
sets_here (v ∷ vs) w at (suc k) h r =
    let e : at + suc k ≡ suc at + k = omega arith in
    rw e (sets_here vs (set w at v) (suc at) k (omega arith) (rw length-set (omega arith)))

-- the first word of the row
pub sets_first : (vs w : List ℕ) (at : ℕ) → 0 < length vs → at + length vs ≤ length w → get_or (sets w at vs) at 0 ≡ get_or vs 0 0
sets_first vs w at h r = rw add-zero at (sets_here vs w at 0 h r)

-- ---- storing a row, word by word

-- each word of a row fits
small_word : (row : List ℕ) (i : ℕ) → Small row → i < length row → get_or row i 0 < 4294967296
small_word [] i s h = absurd (omega arith)
small_word (v ∷ vs) zero s h = s.0
small_word (v ∷ vs) (suc i) s h = small_word vs i s.1 (omega arith)

-- one word more is stored behind a run
sets_snoc : (vs w : List ℕ) (at v : ℕ) → sets w at (vs ++ (v ∷ [])) ≡ set (sets w at vs) (at + length vs) v
sets_snoc [] w at v = rw add-zero
sets_snoc (x ∷ vs) w at v =
    let e : suc at + length vs ≡ at + suc (length vs) = omega arith in
    sets_snoc vs (set w at x) (suc at) v ∙ rw e

-- The state at i: the first i words of the row are stored.
pub record Storing (row first work : List ℕ) (at i : ℕ) : Type 0 where
  pub room : at + length row ≤ length first
  pub small : Small row
  pub high : i ≤ length row
  pub long : length work ≡ length first
  pub done : work ≡ sets first at (take i row)

module _ {row first : List ℕ} {at : ℕ} where
  pub storing_start : (at + length row ≤ length first) × Small row → Storing row first first at 0
  storing_start h = record { room = h.0; small = h.1; high = omega arith; long = refl; done = refl }

  module _ {work : List ℕ} {i : ℕ} (s : Storing row first work at i) where
    pub storing_word : i < length row → get_or row i 0 < 4294967296
    storing_word h = small_word row i s.small h

    pub storing_more : i < length row → Storing row first (set work (at + i) (get_or row i 0)) at (i + 1)
    storing_more h =
        let l : length (take i row) ≡ i = length-take-le i row s.high in
        record {
          room = s.room;
          small = s.small;
          high = omega arith;
          long = length-set work (at + i) (get_or row i 0) ∙ s.long;
          done = rw (add-one, take-suc row i 0 h, sets_snoc (take i row) first at (get_or row i 0), l, s.done);
        }

    pub storing_end : length row ≤ i → work ≡ sets first at row
    storing_end h =
        let e : i ≡ length row = omega (arith, s.high) in
        s.done ∙ rw (e, take-length)
