-- L lines: refused, or a link more. Assumes nothing.
use Rattle.std.specs.Prelude.{Result, Ok, Err}
use Rattle.refusals.specs.declared.reason.Reason.{Reason}
use Rattle.refusals.specs.Reasons.{number_of}
use Rattle.scan.specs.Orientations.{sign_of}
use Rattle.scan.proofs.Orientations.{sign_is}
use Prim.Native.Nat.{ℕ, ◌+◌, ◌*◌, ◌≤◌}
use native.Mathlib.Numerals.{add-one}
use native.Mathlib.Omega.{arith}
use mathlib.Core.List.{List}
use mathlib.Core.Logic.{inl}
use mathlib.Core.Path.{◌≡◌, refl, ◌∙◌}
use lib.ListN.{length}
use lib.Seq.{sets, length-sets}
use Rattle.tables.specs.declared.entry.Record.TheVariants.{Link}
use Rattle.lines.specs.declared.sort.Sort.TheVariants as sort
use Rattle.tables.specs.declared.tables.Bases.{Bases}
use Rattle.tables.specs.declared.tables.Counts.{Counts}
use Rattle.scan.specs.Places.{part_at}
use Rattle.lines.specs.LinkLines.{LinkHolds, LinkRefused, LinkFieldsAre}
use Rattle.tables.specs.declared.rows.LinkWords.{LinkWords}
use Rattle.tables.specs.ByNumber.{link_words}
use Rattle.lines.specs.Sorts.{SortIs, read_as}
use Rattle.tables.specs.Tables.{one_more}
use Rattle.tables.specs.Entries.{entry_of}
use Rattle.lines.specs.Lines.{Ready, AddedIs}
use Rattle.work.proofs.Rows.{only_put, only_wider, outside_less}
use Rattle.lines.proofs.Room.{column_weight, spent_link}
use Rattle.tables.proofs.TableRows.{link_put, link_row_put}
use Rattle.lines.proofs.Adding.{no_steps, names_apart}

-- what the answer says, by its cases
module _ {text : List ℕ} {start size : ℕ} {r : Result LinkWords Reason} (h : LinkFieldsAre text start size r) where
  link_holds : {w : LinkWords} → r ≡ Ok w → LinkHolds text start size w
  link_holds e = rw e at h.says

  link_refused : {k : Reason} → r ≡ Err k → LinkRefused text start size (number_of k)
  link_refused e = rw e at h.says

module _ {text work work' : List ℕ} {b : Bases} {n : Counts} {start size : ℕ} {r : Result LinkWords Reason} (s : SortIs text start size sort.Link)
    (h : LinkFieldsAre text start size r) where
  -- the line is refused
  pub l_refused : {k : Reason} → r ≡ Err k → AddedIs text work work' b n start size (Err k)
  unfolding read_as
  l_refused e = record { says = record { read = s.is _ ∙ (link_refused h e).read } }

  -- the link is put into the table
  pub l_added : {w : LinkWords} {m : Counts} → r ≡ Ok w → Ready text work b n start size → work' ≡ sets work (b.links + 8 * n.links) (link_words w) →
      m ≡ one_more n 0 1 0 0 → AddedIs text work work' b n start size (Ok (Link (record { 0 = n.links }), m))
  unfolding read_as part_at entry_of
  l_added {w} e y q more =
      let l = link_holds h e in
      let at = b.links + 8 * n.links in
      let row = link_words w in
      let fits : at + 8 ≤ length work = omega (arith, y.beyond, y.behind, y.room) in
      let long-enough = column_weight {k = 4} l.columns (λ z. omega (arith, s.letter)) in
      record {
        says =
            rw (q, more)
            (record {
              read =
                  s.is _
                  ∙ l.read
                  ∙ rw (
                    link_put text work at w.line.start w.line.size w.from.start w.from.size (sign_of w.leaves) w.to.start w.to.size (sign_of w.enters) fits,
                    l.first,
                    l.long,
                  );
              lines = add-one n.lines;
              segs = refl;
              links = refl;
              paths = refl;
              steps = omega (arith, no_steps text (sets work at row) b (Link (record { 0 = n.links })) refl);
              row = (
                refl,
                link_row_put text work at w.line.start w.line.size w.from.start w.from.size (sign_of w.leaves) w.to.start w.to.size (sign_of w.enters) fits
                    (omega (arith, y.inside, l.first, l.long)) l.from l.to (sign_is w.leaves) (sign_is w.enters),
              );
              visits = λ i l h. absurd (omega arith);
              spent = spent_link text start size n y.inside (omega arith) s.letter;
              names = λ h.
                  let z : n.segs + 0 ≡ n.segs = omega arith in
                  rw z (names_apart y (only_put row work at) (inl (omega (arith, y.between, y.heads)), tt) (inl (omega arith), tt) (length-sets work at row) h);
              long = length-sets work at row;
              only = only_wider _ (only_put row work at) (λ i o. (outside_less at (at + 8) o.1.1.0 (omega arith) (omega arith), tt));
            });
      }
