-- The counting pass: its state between two lines, and how it goes on. Assumes nothing.
use Prim.Native.Nat.{ℕ, ◌+◌, ◌*◌, ◌≤◌, ◌<◌}
use native.Mathlib.Nat.{zero-add}
use native.Mathlib.Omega.{arith}
use mathlib.Core.List.{List, [], ◌∷◌}
use mathlib.Core.Logic.{◌⊎◌, inl, inr}
use mathlib.Core.Path.{◌≡◌, refl, ap, ◌∙◌}
use lib.ListN.{length, get_or}
use borrow.Author.Tests.{ne_eqb}
use Rattle.tables.specs.declared.tables.Bases.{Bases}
use Rattle.tables.specs.declared.tables.Counts.{Counts}
use Rattle.gfa_spec.specs.Reading as reading
use Rattle.std.specs.Prelude.{None, Some}
use Rattle.scan.specs.declared.places.Place.{Place}
use Rattle.scan.specs.declared.lines.Lines.{Lines}
use Rattle.scan.specs.Places.{Inside, part_at}
use Rattle.scan.specs.TextLines.{lines_left, LineGiven}
use Rattle.reader.specs.Outcomes.{Roomy}
use Rattle.lines.specs.Room.{starting, segs_in, links_in, paths_in, total, TallyIs, LineTally}
use Rattle.gfa_spec.specs.Bytes.{part}
use Rattle.tables.specs.Names.{NamesCleared}
use Rattle.tables.specs.Tables.{Few, no_rows, one_more, bases_for}
use Rattle.gfa_spec.proofs.Parts.{length_part}
use Rattle.lines.proofs.Room.{lines_sum, weight_text, two_bytes, tables_fit}

-- ---- a line

-- a line of no byte or one has no rows
one_byte : (f : List ℕ → ℕ) → f [] ≡ 0 → ((x : ℕ) → f (x ∷ []) ≡ 0) → (l : List ℕ) → length l < 2 → f l ≡ 0
one_byte f p q [] k = p
one_byte f p q (x ∷ []) k = q x
one_byte f p q (x ∷ (y ∷ ys)) k = absurd (omega arith)

module _ {text : List ℕ} {n m : Counts} {start size : ℕ} (h : start + size ≤ length text) where
  pub tally_short : size < 2 → m ≡ one_more n 0 0 0 0 → LineTally text start size n m
  unfolding segs_in links_in paths_in starting
  tally_short s e =
      let line = part start size text in
      let short : length line < 2 = omega (arith, length_part start size text h) in
      record {
        is = e ∙ rw (one_byte segs_in refl (λ x. refl) line short, one_byte links_in refl (λ x. refl) line short, one_byte paths_in refl (λ x. refl) line short);
      }

  module _ (long : 2 ≤ size) where
    pub tally_segment : get_or text start 0 ≡ 83 → m ≡ one_more n 1 0 0 0 → LineTally text start size n m
    unfolding segs_in links_in paths_in starting
    tally_segment b e = record { is = e ∙ rw (two_bytes text start size 83 h long b) }

    pub tally_link : get_or text start 0 ≡ 76 → m ≡ one_more n 0 1 0 0 → LineTally text start size n m
    unfolding segs_in links_in paths_in starting
    tally_link b e = record { is = e ∙ rw (two_bytes text start size 76 h long b) }

    pub tally_path : (get_or text start 0 ≡ 80) ⊎ (get_or text start 0 ≡ 87) → m ≡ one_more n 0 0 1 0 → LineTally text start size n m
    unfolding segs_in links_in paths_in starting
    tally_path (inl b) e = record { is = e ∙ rw (two_bytes text start size 80 h long b) }
    tally_path (inr b) e = record { is = e ∙ rw (two_bytes text start size 87 h long b) }

    pub tally_none : (get_or text start 0 ≡ 83 → ⊥) → (get_or text start 0 ≡ 76 → ⊥) → ((get_or text start 0 ≡ 80) ⊎ (get_or text start 0 ≡ 87) → ⊥) →
        m ≡ one_more n 0 0 0 0 → LineTally text start size n m
    unfolding segs_in links_in paths_in starting
    tally_none a b c e =
        record {
          is =
              e
              ∙ rw (
                two_bytes text start size _ h long refl,
                ne_eqb _ _ a,
                ne_eqb _ _ b,
                ne_eqb _ _ (λ p. c (inl p)),
                ne_eqb _ _ (λ w. c (inr w)),
              );
        }

-- ---- all lines

-- The state between two lines, s having those that are left: the counts so far, with the tally of the lines left, are the tally of the text.
pub record Counting (text : List ℕ) (s : Lines) (n : Counts) : Type 0 where
  pub same : s.text.now ≡ text
  pub lines : n.lines + length (lines_left s) ≡ length (reading.lines text)
  pub segs : n.segs + total segs_in (lines_left s) ≡ total segs_in (reading.lines text)
  pub links : n.links + total links_in (lines_left s) ≡ total links_in (reading.lines text)
  pub paths : n.paths + total paths_in (lines_left s) ≡ total paths_in (reading.lines text)
  pub steps : n.steps ≡ 0

pub counting_start : {text : List ℕ} {s : Lines} → s.text.now ≡ text → lines_left s ≡ reading.lines text → Counting text s no_rows
counting_start h e = record { same = h; lines = rw e (zero-add _); segs = rw e (zero-add _); links = rw e (zero-add _); paths = rw e (zero-add _); steps = refl }

module _ {text : List ℕ} {s : Lines} {n : Counts} (c : Counting text s n) where
  -- no count is large
  pub counting_few : length text ≤ 1048576 → Few n
  counting_few h = let f = lines_sum (reading.lines text) in let w = weight_text text in omega arith

  module _ {line : Place} {t : Lines} (g : LineGiven s (Some line) t) where
    pub counting_inside : Inside text line
    counting_inside = rw c.same at g.says.inside

    pub counting_more : {m : Counts} → LineTally text line.start line.size n m → Counting text t m
    unfolding total part_at
    counting_more l =
        let f : lines_left s ≡ part_at text line.start line.size ∷ lines_left t = g.says.first ∙ rw c.same refl in
        rw l.is
        (record {
          same = ap (λ x. x.now) g.same ∙ c.same;
          lines = omega (arith, rw f at c.lines);
          segs = omega (arith, rw f at c.segs);
          links = omega (arith, rw f at c.links);
          paths = omega (arith, rw f at c.paths);
          steps = omega (arith, c.steps);
        })

  pub counting_end : {t : Lines} → LineGiven s None t → TallyIs (reading.lines text) n
  unfolding total
  counting_end g =
      let e = g.says.0 in
      record {
        lines = omega (arith, rw e at c.lines);
        segs = omega (arith, rw e at c.segs);
        links = omega (arith, rw e at c.links);
        paths = omega (arith, rw e at c.paths);
      }

-- what the counting pass begins by, and asks of a line
pub ruleset counting = (counting_start, counting_inside)

-- the tables of a text's tally
module _ (text : List ℕ) {t : Counts} (e : TallyIs (reading.lines text) t) (h : length text ≤ 1048576) where
  -- it is small
  pub tally_few : (t.lines ≤ 2097152) × (t.segs ≤ 2097152) × (t.links ≤ 2097152) × (t.paths ≤ 2097152)
  tally_few = omega (arith, lines_sum (reading.lines text), weight_text text, e.lines, e.segs, e.links, e.paths)

  -- they fit into four words for each byte and 28 more
  module _ (before : List ℕ) {b : Bases} (q : b ≡ bases_for t) (r : 4 * length text + 28 ≤ length before) where
    pub tally_clearable : (b.segs + 6 ≤ b.heads) × (b.heads < b.links) × (b.links ≤ length before)
    tally_clearable = rw q (omega (arith, tables_fit text, e.lines, e.segs, e.links, e.paths))

    pub tally_roomy : {work : List ℕ} → NamesCleared before work b → Roomy text work b
    tally_roomy c =
        let f = tables_fit text in
        record {
          short = h;
          apart = rw q (omega (arith, e.lines));
          between = rw q (omega (arith, e.segs));
          heads = tally_clearable.1;
          beyond = rw q (omega (arith, e.links));
          behind = rw q (omega (arith, e.paths));
          room = rw q (omega (arith, f, e.lines, e.segs, e.links, e.paths, c.long));
          names = c.names text;
        }
