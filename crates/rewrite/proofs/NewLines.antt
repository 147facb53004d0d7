-- The lines of new segments and of added links, piece by piece. Assumes nothing.
use Prim.Native.Nat.{ℕ, ◌+◌, ◌*◌, ◌<◌}
use native.Mathlib.Omega.{arith}
use mathlib.Core.List.{List, [], ◌∷◌, append_assoc}
use mathlib.Core.Path.{◌≡◌}
use lib.ListN.{get_or}
use Rattle.gfa_spec.specs.Bytes.{bytes, nth, repeat, join_with, tabbed, end_line}
use Rattle.normalize_spec.specs.Writing.{segment_line, link_line}
use Rattle.work.specs.Rows.{EachRow}
use Rattle.writers.specs.declared.writer.Writer.{Writer}
use Rattle.writers.specs.Writers.{Puts}
use Rattle.writers.proofs.Writing.{as_piece, ◌▷◌}
use Rattle.scan.specs.Orientations.{sign_of}
use Rattle.scan.specs.Places.{bytes_in}
use Rattle.tables.specs.declared.rows.SegmentWords.{SegmentWords}
use Rattle.tables.specs.ByNumber.{SegmentIs}
use Rattle.tables.specs.declared.tables.Bases.{Bases}
use Rattle.tables.specs.declared.tables.Counts.{Counts}
use Rattle.normalize_tables.specs.declared.layout.Layout.{Layout}
use Rattle.normalize_tables.specs.declared.layout.Made.{Made}
use Rattle.normalize_tables.specs.declared.rows.NewStepWords.{NewStepWords}
use Rattle.normalize_tables.specs.News.{new_at, KeyRow}
use Rattle.normalize_tables.specs.declared.rows.NewSegmentWords.{NewSegmentWords}
use Rattle.normalize_tables.specs.NewByNumber.{NewSegmentIs, new_step_no, NewStepIs}
use Rattle.rewrite.specs.Pieces.{new_piece, step_end, pair_line, added_piece}

-- ---- new segments

module _ (text work : List ℕ) (b : Bases) (g : Layout) (first j : ℕ) {before after : Writer} where
  -- the sequence, behind a tab: that of the unit, repeated
  pub sequence_put : {n : Counts} {r : NewSegmentWords} {u : SegmentWords} {unit : List ℕ} {x : Writer} → NewSegmentIs text work b n g first j r → SegmentIs text work b r.unit.0 u
      → unit ≡ bytes_in text u.sequence → Puts before (9 ∷ []) x → Puts x (repeat r.count unit) after → Puts before (9 ∷ (new_at text b g first work j).sequence) after
  sequence_put w s e tab rest = rw (w.new, s.segment, ← e) (tab ▷ rest)

  -- the line: S (83), a tab, the ID, a tab, the sequence, a line feed (10)
  pub new_put : {x y z : Writer} → Puts before (83 ∷ 9 ∷ []) x → Puts x (new_at text b g first work j).id y → Puts y (9 ∷ (new_at text b g first work j).sequence) z
      → Puts z (10 ∷ []) after → Puts before (new_piece text work b g first j) after
  unfolding new_piece segment_line tabbed join_with end_line bytes
  new_put sort id sequence end = as_piece (simp append_assoc) (sort ▷ id ▷ sequence ▷ end)

-- ---- added links

module _ (names : List (List ℕ)) (work : List ℕ) (g : Layout) (k : ℕ) {before after : Writer} where
  -- one end
  pub end_put : {n : Counts} {m : Made} {s : NewStepWords} {sign : ℕ} {x : Writer} → NewStepIs work n g m k s → sign ≡ sign_of s.mark → Puts before (nth s.node names []) x
      → Puts x (9 ∷ sign ∷ 9 ∷ []) after → Puts before (step_end (new_step_no names work g k)) after
  unfolding step_end
  end_put q e name tail = rw (q.step names, ← e) (name ▷ tail)

  -- the line: L (76), a tab, the two ends, and 0M (48, 77)
  pub pair_put : {x y z : Writer} → Puts before (76 ∷ 9 ∷ []) x → Puts x (step_end (new_step_no names work g k)) y → Puts y (step_end (new_step_no names work g (k + 1))) z
      → Puts z (48 ∷ 77 ∷ 10 ∷ []) after → Puts before (pair_line names work g k) after
  unfolding pair_line step_end link_line tabbed join_with end_line bytes
  pair_put sort first second end = as_piece (simp append_assoc) (sort ▷ first ▷ second ▷ end)

  -- of added link i
  pub added_put : (i : ℕ) → k ≡ get_or work (g.added + i) 0 → Puts before (pair_line names work g k) after → Puts before (added_piece names work g i) after
  unfolding added_piece
  added_put i e v = rw (← e) v

-- its step, and the one behind it, are new steps
pub added_step : {work : List ℕ} (g : Layout) (i : ℕ) {steps extra k : ℕ} → EachRow (KeyRow steps) 1 work g.added extra → i < extra → k ≡ get_or work (g.added + i) 0 → k + 1 < steps
added_step g i s h e = let z : g.added + 1 * i ≡ g.added + i = omega arith in rw e (rw z at (s.row i h).step)
