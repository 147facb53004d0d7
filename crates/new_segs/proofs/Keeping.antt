-- What the tables say is kept where their words are. Assumes nothing.
use Prim.Native.Nat.{ℕ, ◌≤◌, ◌<◌}
use native.Mathlib.Omega.{arith}
use mathlib.Core.List.{List}
use mathlib.Core.Path.{◌≡◌, sym, ◌∙◌}
use lib.ListN.{length}
use Rattle.tables.specs.declared.tables.Bases.{Bases}
use Rattle.tables.specs.declared.tables.Counts.{Counts}
use Rattle.tables.proofs.ByNumber.{TablesKept}
use Rattle.tables.proofs.Standing.{Standing}
use Rattle.normalize_tables.specs.declared.layout.Layout.{Layout}
use Rattle.normalize_tables.specs.Layout.{Source}
use Rattle.normalize_tables.specs.NewByNumber.{KeptTo, SegmentsKept}
use Rattle.normalize_tables.proofs.NewByNumber.{unit_kept, count_kept}
use Rattle.normalize_tables.proofs.NewsKept.{segment_rows_kept, suffixed_kept}
use Rattle.normalize_tables.proofs.Sources.{standing, source_stands}
use Rattle.new_segs.specs.Makes.{Making}
use Rattle.new_segs.proofs.Chaining.{units_kept}

-- fewer words are kept too
pub kept_less : {hi : ℕ} {w w' : List ℕ} (hi' : ℕ) → KeptTo hi w w' → hi' ≤ hi → KeptTo hi' w w'
kept_less hi' k h = record { word = λ i l. k.word i (omega arith) }

-- ---- the tables of the text

module _ {text w w' : List ℕ} {b : Bases} {n : Counts} {g : Layout} (s : Source text w b n g) (low : KeptTo g.last w w') where
  pub of_text : TablesKept b n w w'
  of_text = let p = s.placed in record { word = λ i l h. low.word i (omega (arith, p.eligible, p.folded, p.last)) }

  pub low_stands : Standing text w w' b n
  low_stands = standing s of_text

  pub source_low : length w' ≡ length w → Source text w' b n g
  source_low e = source_stands s of_text e

-- ---- new segments

-- the whole table of new segments is kept where its words are, and those before the new paths
pub making_kept : {text w w' : List ℕ} {b : Bases} {n : Counts} {g : Layout} {first q : ℕ} → Making text w b n g first q → KeptTo g.paths w w' → SegmentsKept g q w w' → length w' ≡ length w
    → Making text w' b n g first q
making_kept {text} {w} {w'} {b} {n} {g} {first} {q} m k segs e =
    record {
      source = source_low m.source low e;
      first_is = rw (low_stands m.source low).of_segments m.first_is;
      half = m.half;
      rows = segment_rows_kept n g m.rows segs;
      suffixed = suffixed_kept m.source (of_text m.source low) first m.rows segs m.suffixed;
      alone = λ i j h l u c.
          let low : i < q = omega arith in
          m.alone i j h l (sym (unit_kept g segs i low) ∙ u ∙ unit_kept g segs j l) (sym (count_kept g segs i low) ∙ c ∙ count_kept g segs j l);
      slotted = units_kept n g segs e (record { word = λ i l h. k.word i (omega (arith, m.source.placed.paths)) }) m.slotted;
    }
  where
    low : KeptTo g.last w w'
    low = kept_less g.last k (omega (arith, m.source.placed.paths))
