-- A line's entry, put into the line table. Assumes nothing.
use Rattle.std.specs.Prelude.{Result, Ok, Err}
use Rattle.refusals.specs.declared.reason.Reason.{Reason}
use Prim.Native.Nat.{ℕ, ◌+◌, ◌*◌, ◌≤◌, ◌<◌}
use native.Mathlib.Omega.{arith}
use mathlib.Core.List.{List, [], ◌∷◌}
use mathlib.Core.Logic.{inr}
use mathlib.Core.Path.{◌≡◌, refl, ap, sym, ◌∙◌}
use lib.ListN.{length}
use lib.Seq.{sets, length-sets}
use Rattle.tables.specs.declared.entry.Record.{Record}
use Rattle.tables.specs.declared.entry.Record.TheVariants.{Segment, Link, Path, Header, Comment, Blank, Other}
use Rattle.tables.specs.declared.tables.Bases.{Bases}
use Rattle.tables.specs.declared.tables.Counts.{Counts}
use Rattle.gfa_spec.specs.Reading.{segment, link, path, accepted}
use Rattle.gfa_spec.specs.Runs.{step_count}
use Rattle.tables.specs.Entries.{words_of, entry_of}
use Rattle.lines.specs.Lines.{segs_of, NewRow, Ready, Entered, AddedIs, LineRead}
use Rattle.tables.proofs.NamesSlotted.{names_slotted_kept}
use Rattle.work.proofs.Rows.{KeptWords, only_put, only_then, only_kept, kept_within, outside_less}
use Rattle.tables.proofs.TableRows.{segment_kept, segment_row_kept, link_kept, link_row_kept, step_row_kept, path_kept, path_row_kept, record_put, three_words}

-- what a new record says is kept where the words behind the line table are
module _ {middle work' : List ℕ} (text : List ℕ) (b : Bases) (n m : Counts) (high : KeptWords b.segs (length middle) middle work') where
  entry_kept : (r : Record) →
      (b.segs + 7 * n.segs + 7 ≤ b.heads) × (b.heads < b.links) × (b.links + 8 * n.links + 8 ≤ b.paths)
      × (b.paths + 5 * n.paths + 5 ≤ b.steps) × (b.steps + 3 * m.steps ≤ length middle) →
      NewRow text middle b n m r → (entry_of text work' b r ≡ entry_of text middle b r) × NewRow text work' b n m r
  unfolding entry_of
  entry_kept (Segment k) o r =
      let at = b.segs + 7 * k.0 in
      (ap segment (segment_kept high text at (omega arith) (omega (arith, r.0))), (r.0, segment_row_kept high text at (omega arith) (omega (arith, r.0)) r.1))
  entry_kept (Link k) o r =
      let at = b.links + 8 * k.0 in
      (ap link (link_kept high text at (omega arith) (omega (arith, r.0))), (r.0, link_row_kept high text at (omega arith) (omega (arith, r.0)) r.1))
  entry_kept (Path k) o r =
      let at = b.paths + 5 * k.0 in
      let steps = kept_within b.steps (b.steps + 3 * m.steps) high (omega arith) (omega arith) in (
        ap path (path_kept text b.steps at m.steps high (omega arith) (omega (arith, r.0)) steps r.1),
        (r.0, path_row_kept high text at (omega arith) (omega (arith, r.0)) (omega arith) r.1),
      )
  entry_kept (Header l) o r = (refl, r)
  entry_kept (Comment l) o r = (refl, r)
  entry_kept (Blank l) o r = (refl, r)
  entry_kept (Other l) o r = (refl, r)

-- a record has one segment at most
segs_few : (r : Record) → segs_of r ≤ 1
segs_few (Segment k) = omega arith
segs_few (Link k) = omega arith
segs_few (Path k) = omega arith
segs_few (Header l) = omega arith
segs_few (Comment l) = omega arith
segs_few (Blank l) = omega arith
segs_few (Other l) = omega arith

-- what is said of a line, by the cases
module _ {text work middle : List ℕ} {b : Bases} {n : Counts} {start size : ℕ} {a : Result (Record × Counts) Reason} (y : Ready text work b n start size) (h : AddedIs text work middle b n start size a) where
  pub line_refused : {k : Reason} {work' : List ℕ} → a ≡ Err k → LineRead text work work' b n start size a
  line_refused e = rw e (record { says = rw e at h.says; held = tt })

  -- a record whose steps are in the table leaves room
  entered_room : {r : Record} {m : Counts} → Entered text work middle b n start size r m → b.steps + 3 * m.steps ≤ length middle
  entered_room e =
      let long = e.long in
      let spare = e.spent.spare in
      let segs = e.segs in
      let links = e.links in
      let paths = e.paths in
      omega (arith, y.room)

  -- the record's entry is put into the line table
  pub line_entered : {r : Record} {m : Counts} {work' : List ℕ} → a ≡ Ok (r, m) → work' ≡ sets middle (b.lines + 3 * n.lines) (words_of r) → LineRead text work work' b n start size (Ok (r, m))
  line_entered {r} {m} {work'} f q =
      let e = rw f at h.says in
      let at = b.lines + 3 * n.lines in
      let room = entered_room e in
      let same = e.long in
      let low = e.steps in
      let next = e.lines in
      let segs = e.segs in
      let links = e.links in
      let paths = e.paths in
      let put = rw (three_words r) at (only_put (words_of r) middle at) in
      let high = only_kept b.segs (length middle) put (inr (omega (arith, y.apart)), tt) in
      let kept = entry_kept text b n m high r (y.between, y.heads, y.beyond, y.behind, room) e.row in
      rw q
      (record {
        says =
            record {
              read = e.read ∙ ap accepted (sym kept.0);
              lines = e.lines;
              segs = e.segs;
              links = e.links;
              paths = e.paths;
              steps = e.steps ∙ ap (λ x. n.steps + step_count (x ∷ [])) (sym kept.0);
              row = kept.1;
              visits = λ i l k. step_row_kept high text (b.steps + 3 * i) (omega (arith, y.between, y.heads, y.beyond, y.behind)) (omega (arith, k, room)) (e.visits i l k);
              spent = e.spent;
              names = λ h.
                  names_slotted_kept text b m.segs y.heads (length-sets middle at (words_of r))
                  (kept_within b.segs (b.segs + 7 * m.segs) high (omega arith) (omega (arith, y.between, y.heads, y.beyond, y.behind, segs_few r, room)))
                  (kept_within b.heads b.links high (omega (arith, y.between)) (omega (arith, y.beyond, y.behind, room))) (e.names h);
              long = length-sets middle at (words_of r) ∙ e.long;
              only =
                  only_then _ e.only put
                  (λ i o. (
                    o,
                    (outside_less at (at + 3) o.0 (omega arith) (omega (arith, next)), tt),
                  ));
            };
        held = record_put r middle at (omega (arith, y.apart, y.between, y.heads, y.beyond, y.behind, room, low));
      })
