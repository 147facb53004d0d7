-- The reader's state between two lines, and how it goes on. Assumes nothing.
use Rattle.std.specs.Prelude.{Result, Ok, Err}
use Rattle.refusals.specs.declared.refusal.Refusal.{Refusal}
use Rattle.refusals.specs.declared.reason.Reason.{Reason}
use Rattle.gfa_spec.specs.Calls as calls
use Rattle.gfa_spec.specs.Calls.{on_line, of_parsed}
use Rattle.refusals.specs.Reasons.{number_of}
use Rattle.refusals.specs.Refusals.{stated}
use Prim.Native.Nat.{ℕ, suc, ◌+◌, ◌*◌, ◌≤◌, ◌<◌}
use native.Mathlib.Decide.{dec_lt}
use native.Mathlib.Omega.{arith}
use mathlib.Core.List.{List, [], ◌∷◌, ◌++◌, append-nil}
use mathlib.Core.Path.{◌≡◌, refl, ap, sym, ◌∙◌}
use lib.ListN.{length}
use Rattle.tables.specs.declared.entry.Record.{Record}
use Rattle.tables.specs.declared.entry.Record.TheVariants.{Segment, Link, Path, Header, Comment, Blank, Other}
use Rattle.tables.specs.declared.tables.Bases.{Bases}
use Rattle.tables.specs.declared.tables.Counts.{Counts}
use Rattle.gfa_spec.specs.Bytes.{one, nil, sum}
use Rattle.gfa_spec.specs.Reading.{Entry, choose, lines, parse, parse_lines}
use Rattle.gfa_spec.specs.Records.{segments, links, paths, collect}
use Rattle.gfa_spec.specs.Runs.{over_paths, step_count}
use Rattle.std.specs.Prelude.{None, Some}
use Rattle.scan.specs.declared.places.Place.{Place}
use Rattle.scan.specs.declared.lines.Lines.{Lines}
use Rattle.scan.specs.Places.{part_at}
use Rattle.scan.specs.TextLines.{lines_left, LineGiven}
use Rattle.work.specs.Rows.{rows_at, EachRow, Only}
use Rattle.tables.specs.Tables.{Few, no_rows, share, rows_of, Laid, Sound}
use Rattle.tables.specs.Segments.{segment_at, segments_at, ids_of, SegmentRow}
use Rattle.tables.specs.Links.{link_at, links_at, LinkRow}
use Rattle.tables.specs.Steps.{StepRow}
use Rattle.tables.specs.Paths.{path_at, paths_at, PathRow}
use Rattle.tables.specs.Entries.{record_at, entry_of, entry_at, entries_at, Fits}
use Rattle.lines.specs.Room.{segs_in, links_in, paths_in, spare_in, total}
use Rattle.reader.specs.Outcomes.{Roomy, OutcomeIs}
use Rattle.lines.specs.Lines.{Ready, segs_of, links_of, paths_of, NewRow, Entered, LineRead}
use Rattle.reader.proofs.Following.{follow, follow_none, follow_snoc, follow_refused, follow_end, parse_accepted, parse_refused, ids_entry}
use Rattle.lines.proofs.Room.{lines_sum, weight_text}
use Rattle.work.proofs.Rows.{only_none, only_then, outside_less, rows_snoc, each_more, each_none}
use Rattle.gfa_spec.proofs.Runs.{steps_append}
use Rattle.gfa_spec.proofs.Sorts.{append_sorted}
use Rattle.tables.proofs.Standing.{RowsKept, rows_behind, entries_kept}
use Rattle.tables.proofs.TableRows.{segments_kept, segment_rows_kept, links_kept, link_rows_kept, step_row_kept, paths_kept, path_row_kept, record_kept}

-- larger counts
fits_wider : (text : List ℕ) (n m : Counts) (r : Record) → (n.segs ≤ m.segs) × (n.links ≤ m.links) × (n.paths ≤ m.paths) → Fits text n r → Fits text m r
fits_wider text n m (Segment k) l b = omega arith
fits_wider text n m (Link k) l b = omega arith
fits_wider text n m (Path k) l b = omega arith
fits_wider text n m (Header r) l b = b
fits_wider text n m (Comment r) l b = b
fits_wider text n m (Blank r) l b = b
fits_wider text n m (Other r) l b = b

-- ---- the row that is new

-- What a line brings to a table: nothing, or the row behind the others.
data Brings {A : Type 0} (row : List ℕ → ℕ → A) (P : List ℕ → ℕ → Type 0) (w : List ℕ) (at : ℕ) : ℕ → List A → Type 0 where
  nothing : Brings row P w at 0 []
  that : P w at → Brings row P w at 1 (row w at ∷ [])

module _ {A : Type 0} {row : List ℕ → ℕ → A} {P : List ℕ → ℕ → Type 0} {w : List ℕ} (width base n m : ℕ) where
  -- the table with it
  brought : {c : ℕ} {xs : List A} → Brings row P w (base + width * n) c xs → m ≡ n + c → rows_at row width w base m ≡ rows_at row width w base n ++ xs
  brought nothing e =
      let z : m ≡ n = omega arith in
      rw (z, append-nil)
  brought (that p) e =
      let z : m ≡ suc n = omega arith in
      rw z (rows_snoc row width w base n)

  -- and what each row has
  brought_each : {c : ℕ} {xs : List A} → Brings row P w (base + width * n) c xs → m ≡ n + c → EachRow P width w base n → EachRow P width w base m
  brought_each nothing e h =
      let z : m ≡ n = omega arith in
      rw z h
  brought_each (that p) e h =
      let z : m ≡ suc n = omega arith in
      rw z (each_more h p)

module _ (text w : List ℕ) (b : Bases) (n m : Counts) where
  segs_brought : (r : Record) → NewRow text w b n m r → Brings (segment_at text) (SegmentRow text) w (b.segs + 7 * n.segs) (segs_of r) (segments (entry_of text w b r ∷ []))
  unfolding entry_of segments collect choose one nil
  segs_brought (Segment k) h = rw (← h.0) (that h.1)
  segs_brought (Link k) h = nothing
  segs_brought (Path k) h = nothing
  segs_brought (Header l) h = nothing
  segs_brought (Comment l) h = nothing
  segs_brought (Blank l) h = nothing
  segs_brought (Other l) h = nothing

  links_brought : (r : Record) → NewRow text w b n m r → Brings (link_at text) (LinkRow text) w (b.links + 8 * n.links) (links_of r) (links (entry_of text w b r ∷ []))
  unfolding entry_of links collect choose one nil
  links_brought (Segment k) h = nothing
  links_brought (Link k) h = rw (← h.0) (that h.1)
  links_brought (Path k) h = nothing
  links_brought (Header l) h = nothing
  links_brought (Comment l) h = nothing
  links_brought (Blank l) h = nothing
  links_brought (Other l) h = nothing

  paths_brought : (r : Record) → NewRow text w b n m r → Brings (path_at text b.steps) (PathRow text m.steps) w (b.paths + 5 * n.paths) (paths_of r) (paths (entry_of text w b r ∷ []))
  unfolding entry_of paths collect choose one nil
  paths_brought (Segment k) h = nothing
  paths_brought (Link k) h = nothing
  paths_brought (Path k) h = rw (← h.0) (that h.1)
  paths_brought (Header l) h = nothing
  paths_brought (Comment l) h = nothing
  paths_brought (Blank l) h = nothing
  paths_brought (Other l) h = nothing

  -- a new record fits the counts with it
  new_fits : (r : Record) → (m.segs ≡ n.segs + segs_of r) × (m.links ≡ n.links + links_of r) × (m.paths ≡ n.paths + paths_of r) → NewRow text w b n m r → Fits text m r
  new_fits (Segment k) e h = omega (arith, h.0)
  new_fits (Link k) e h = omega (arith, h.0)
  new_fits (Path k) e h = omega (arith, h.0)
  new_fits (Header l) e h = h
  new_fits (Comment l) e h = h
  new_fits (Blank l) e h = h
  new_fits (Other l) e h = h

-- The tables with the line's entry.
record EntryAdded (text work work' : List ℕ) (b : Bases) (n m : Counts) (e : Entry) : Type 0 where
  pub entries : entries_at text work' b m.lines ≡ entries_at text work b n.lines ++ (e ∷ [])
  pub of_segments : segments_at text work' b.segs m.segs ≡ segments_at text work b.segs n.segs ++ segments (e ∷ [])
  pub of_links : links_at text work' b.links m.links ≡ links_at text work b.links n.links ++ links (e ∷ [])
  pub of_paths : paths_at text b.steps work' b.paths m.paths ≡ paths_at text b.steps work b.paths n.paths ++ paths (e ∷ [])
  pub sound : Sound text work' b m

module _ {text work work' : List ℕ} {b : Bases} {n m : Counts} {start size : ℕ} {r : Record} (z : Entered text work work' b n start size r m)
    (held : record_at work' (b.lines + 3 * n.lines) ≡ r) (t : RowsKept b n work work') (s : Sound text work b n) where
  grown : EntryAdded text work work' b n m (entry_of text work' b r)
  unfolding entries_at entry_at segments_at links_at paths_at
  grown =
      let new = z.row in
      let low : (n.segs ≤ m.segs) × (n.links ≤ m.links) × (n.paths ≤ m.paths) = omega (arith, z.segs, z.links, z.paths) in
      let segs = segs_brought text work' b n m r new in
      let links = links_brought text work' b n m r new in
      let paths = paths_brought text work' b n m r new in
      record {
        entries = rw z.lines (rows_snoc (entry_at text b) 3 work' b.lines n.lines ∙ rw (entries_kept text b n t s, held));
        of_segments = brought 7 b.segs n.segs m.segs segs z.segs ∙ rw (segments_kept t.segs text b.segs n.segs (omega arith) (omega arith));
        of_links = brought 8 b.links n.links m.links links z.links ∙ rw (links_kept t.links text b.links n.links (omega arith) (omega arith));
        of_paths = brought 5 b.paths n.paths m.paths paths z.paths ∙ rw (paths_kept text b.steps b.paths n.paths n.steps t.paths t.steps s.paths);
        sound =
            record {
              lines =
                  rw z.lines
                  (each_more
                  (record {
                    row = λ i h.
                        record {
                          fits =
                              rw (record_kept t.lines text (b.lines + 3 * i) (omega arith) (omega arith))
                              (fits_wider text n m (record_at work (b.lines + 3 * i)) low (s.lines.row i h).fits);
                        };
                  })
                  (record { fits = rw held (new_fits text work' b n m r (z.segs, z.links, z.paths) new) }));
              segs = brought_each 7 b.segs n.segs m.segs segs z.segs (segment_rows_kept t.segs text b.segs n.segs (omega arith) (omega arith) s.segs);
              links = brought_each 8 b.links n.links m.links links z.links (link_rows_kept t.links text b.links n.links (omega arith) (omega arith) s.links);
              paths =
                  brought_each 5 b.paths n.paths m.paths paths z.paths
                  (record { row = λ i h. path_row_kept t.paths text (b.paths + 5 * i) (omega arith) (omega arith) (omega (arith, z.steps)) (s.paths.row i h) });
              steps = record { row = λ i h. step_row i h (dec_lt i n.steps) };
              names = z.names s.names;
            };
      }
    where
      step_row : (i : ℕ) → i < m.steps → Dec (i < n.steps) → StepRow text work' (b.steps + 3 * i)
      step_row i h (yes l) = step_row_kept t.steps text (b.steps + 3 * i) (omega arith) (omega arith) (s.steps.row i l)
      step_row i h (no k) = z.visits i (omega arith) h

-- ---- the state

-- The state between two lines, s having those that are left: the text is read as the entries of the table, and then the rest; the rows so far,
-- with those of the lines left, are no more than the tally.
pub record Progress (text first work : List ℕ) (b : Bases) (s : Lines) (n : Counts) : Type 0 where
  pub roomy : Roomy text first b
  pub same : s.text.now ≡ text
  pub left_lines : n.lines + length (lines_left s) ≡ length (lines text)
  pub left_segs : n.segs + total segs_in (lines_left s) ≤ total segs_in (lines text)
  pub left_links : n.links + total links_in (lines_left s) ≤ total links_in (lines text)
  pub left_paths : n.paths + total paths_in (lines_left s) ≤ total paths_in (lines text)
  pub left_spare : share n + total spare_in (lines_left s) ≤ total spare_in (lines text)
  pub whole : parse text ≡ follow (entries_at text work b n.lines) (parse_lines (suc n.lines) (ids_of (segments_at text work b.segs n.segs)) (lines_left s))
  pub of_segments : segments (entries_at text work b n.lines) ≡ segments_at text work b.segs n.segs
  pub of_links : links (entries_at text work b n.lines) ≡ links_at text work b.links n.links
  pub of_paths : paths (entries_at text work b n.lines) ≡ paths_at text b.steps work b.paths n.paths
  pub visits : step_count (entries_at text work b n.lines) ≡ n.steps
  pub sound : Sound text work b n
  pub long : length work ≡ length first
  pub only : Only (rows_of b no_rows n) first work

module _ {text first : List ℕ} {b : Bases} where
  pub progress_start : {s : Lines} → Roomy text first b → s.text.now ≡ text → lines_left s ≡ lines text → Progress text first first b s no_rows
  unfolding parse entries_at segments_at links_at paths_at rows_at segments links paths collect ids_of step_count over_paths sum
  progress_start h same e =
      record {
        roomy = h;
        same = same;
        left_lines = omega (arith, ap length e);
        left_segs = omega (arith, ap (total segs_in) e);
        left_links = omega (arith, ap (total links_in) e);
        left_paths = omega (arith, ap (total paths_in) e);
        left_spare = omega (arith, ap (total spare_in) e);
        whole = rw (e, follow_none);
        of_segments = refl;
        of_links = refl;
        of_paths = refl;
        visits = refl;
        sound = record { lines = each_none; segs = each_none; links = each_none; paths = each_none; steps = each_none; names = h.names };
        long = refl;
        only = only_none;
      }

  module _ {work : List ℕ} {s : Lines} {n : Counts} (p : Progress text first work b s n) where
    progress_few : Few n
    progress_few =
        let y = p.roomy in
        let f = lines_sum (lines text) in
        let w = weight_text text in
        omega (arith, y.short, p.left_lines, p.left_segs, p.left_links, p.left_paths, p.left_spare)

    progress_laid : Laid b n (length work)
    progress_laid =
        let y = p.roomy in
        omega (arith, y.apart, y.between, y.heads, y.beyond, y.behind, y.room, p.left_lines, p.left_segs, p.left_links, p.left_paths, p.left_spare, p.long)

    pub progress_end : {t : Lines} → LineGiven s None t → OutcomeIs text first work b (Ok n)
    unfolding parse_lines
    progress_end g =
        record {
          says =
              record {
                read = p.whole ∙ rw (g.says.0, follow_end);
                tables =
                    record {
                      of_segments = p.of_segments;
                      of_links = p.of_links;
                      of_paths = p.of_paths;
                      visits = p.visits;
                      laid = progress_laid;
                      few = progress_few;
                      sound = p.sound;
                      long = p.long;
                      only = p.only;
                    };
              };
        }

    module _ {line : Place} {t : Lines} (l : LineGiven s (Some line) t) where
      first_left : lines_left s ≡ part_at text line.start line.size ∷ lines_left t
      first_left = l.says.first ∙ rw p.same refl

      pub progress_ready : Ready text work b n line.start line.size
      unfolding total part_at
      progress_ready =
          let y = p.roomy in
          let a = rw first_left at p.left_lines in
          let c = rw first_left at p.left_spare in
          record {
            inside = rw p.same at l.says.inside;
            short = y.short;
            few = progress_few;
            apart = omega (arith, y.apart, a);
            between = omega (arith, y.between, p.left_segs);
            heads = y.heads;
            beyond = omega (arith, y.beyond, p.left_links);
            behind = omega (arith, y.behind, p.left_paths);
            room = omega (arith, y.room, c, p.long);
            rows = p.sound.segs;
          }

      module _ {work' : List ℕ} {a : Result (Record × Counts) Reason} (r : LineRead text work work' b n line.start line.size a) where
        pub progress_refused : {k : Reason} {q : Refusal} → a ≡ Err k → stated q ≡ on_line (number_of k) (n.lines + 1) → OutcomeIs text first work' b (Err q)
        unfolding of_parsed
        progress_refused {k} e s =
            let z = rw e at r.says in
            let number : suc n.lines ≡ n.lines + 1 = omega arith in
            record { says = rw (p.whole, first_left, parse_refused (suc n.lines) _ _ _ (number_of k) z.read, follow_refused, number) (ap calls.Input.refusal (sym s)) }

        pub progress_more : {held : Record} {m : Counts} → a ≡ Ok (held, m) → Progress text first work' b t m
        unfolding total part_at
        progress_more {held} {m} e =
            let z = rw e at r.says in
            let y = p.roomy in
            let lines' = z.lines in
            let segs' = z.segs in
            let links' = z.links in
            let paths' = z.paths in
            let steps' = z.steps in
            let left_lines = rw first_left at p.left_lines in
            let left_segs : m.segs + total segs_in (lines_left t) ≤ total segs_in (lines text) = omega (arith, z.spent.segs, rw first_left at p.left_segs) in
            let left_links : m.links + total links_in (lines_left t) ≤ total links_in (lines text) = omega (arith, z.spent.links, rw first_left at p.left_links) in
            let left_paths : m.paths + total paths_in (lines_left t) ≤ total paths_in (lines text) = omega (arith, z.spent.paths, rw first_left at p.left_paths) in
            let kept =
            rows_behind b n m
            (omega (arith, y.apart, left_lines), omega (arith, y.between), y.heads, omega (arith, y.beyond), omega (arith, y.behind))
            (omega (arith, lines'), omega (arith, segs'), omega (arith, links'), omega (arith, paths')) z.only
            in
            let g = grown z (rw e at r.held) kept p.sound in
            let es = entries_at text work b n.lines in
            let new = append_sorted es (entry_of text work' b held ∷ []) in
            record {
              roomy = y;
              same = ap (λ x. x.now) l.same ∙ p.same;
              left_lines = omega (arith, lines', left_lines);
              left_segs = left_segs;
              left_links = left_links;
              left_paths = left_paths;
              left_spare = omega (arith, z.spent.spare, rw first_left at p.left_spare);
              whole =
                  p.whole
                  ∙ rw (first_left, parse_accepted (suc n.lines) _ _ _ _ z.read, follow_snoc, g.entries, lines', g.of_segments, ids_entry);
              of_segments = rw (g.entries, new.of_segments, p.of_segments) (sym g.of_segments);
              of_links = rw (g.entries, new.of_links, p.of_links) (sym g.of_links);
              of_paths = rw (g.entries, new.of_paths, p.of_paths) (sym g.of_paths);
              visits = rw (g.entries, steps_append) (omega (arith, p.visits, z.steps));
              sound = g.sound;
              long = z.long ∙ p.long;
              only =
                  only_then _ p.only z.only
                  (λ i o. (
                    (
                      outside_less (b.lines + 3 * 0) (b.lines + 3 * n.lines) o.0 (omega arith) (omega arith),
                      (
                        outside_less (b.segs + 7 * 0) (b.segs + 7 * n.segs) o.1.0 (omega arith) (omega arith),
                        (
                          outside_less (b.links + 8 * 0) (b.links + 8 * n.links) o.1.1.0 (omega arith) (omega arith),
                          (
                            outside_less (b.paths + 5 * 0) (b.paths + 5 * n.paths) o.1.1.1.0 (omega arith) (omega arith),
                            (outside_less (b.steps + 3 * 0) (b.steps + 3 * n.steps) o.1.1.1.1.0 (omega arith) (omega arith), (o.1.1.1.1.1.0, tt)),
                          ),
                        ),
                      ),
                    ),
                    (
                      outside_less (b.lines + 3 * n.lines) (b.lines + 3 * m.lines) o.0 (omega arith) (omega arith),
                      (
                        outside_less (b.segs + 7 * n.segs) (b.segs + 7 * m.segs) o.1.0 (omega arith) (omega arith),
                        (
                          outside_less (b.links + 8 * n.links) (b.links + 8 * m.links) o.1.1.0 (omega arith) (omega arith),
                          (
                            outside_less (b.paths + 5 * n.paths) (b.paths + 5 * m.paths) o.1.1.1.0 (omega arith) (omega arith),
                            (outside_less (b.steps + 3 * n.steps) (b.steps + 3 * m.steps) o.1.1.1.1.0 (omega arith) (omega arith), (o.1.1.1.1.1.0, tt)),
                          ),
                        ),
                      ),
                    ),
                  ));
            }

-- the work area, as a line that was read gives it back
pub progress_back : {text first work work' : List ℕ} {b : Bases} {s : Lines} {n : Counts} → Progress text first work b s n → work' ≡ work → Progress text first work' b s n
progress_back p e = rw e p

-- what the reading pass ends by
pub ruleset progress = (progress_refused, progress_end)
