-- Rules 4 to 7 put together: what the passes left in the tables is the definition's rewritten text, and their counts its statistics. Assumes nothing.
use Prim.Native.Nat.{ℕ, ◌+◌, ◌≤◌, ◌<◌}
use native.Mathlib.Omega.{arith}
use mathlib.Core.Bool.{Bool, true}
use mathlib.Core.List.{List, map}
use mathlib.Core.Logic.{inl}
use mathlib.Core.Path.{◌≡◌, refl, sym, ap, ◌∙◌}
use lib.ListN.{length}
use Rattle.gfa_spec.specs.Bytes.{count, sum, distinct}
use Rattle.gfa_spec.specs.Reading.{Entry, Segment}
use Rattle.gfa_spec.specs.Records.{links, is_self_link}
use Rattle.gfa_spec.specs.Runs.{pairs}
use Rattle.normalize_spec.specs.Folding.{is_folded, folded, same_new_node, same_new_step, transform}
use Rattle.normalize_spec.specs.Links.{is_removed, kept, added}
use Rattle.normalize_spec.specs.Writing.{rewritten}
use Rattle.normalize_spec.specs.Counting.{unchanged, rewritten_stats}
use Rattle.normalize_spec.specs.Services.{normal, normal_fitted}
use Rattle.work.proofs.Rows.{KeptWords, only_kept, rows_length}
use Rattle.writers.proofs.Writing.{measured, measured_long, written}
use Rattle.runs.specs.declared.counts.Pairs.{Pairs}
use Rattle.tables.specs.declared.tables.Bases.{Bases}
use Rattle.tables.specs.declared.tables.Counts.{Counts}
use Rattle.tables.specs.ByNumber.{tables_end}
use Rattle.normalize_tables.specs.declared.layout.Layout.{Layout}
use Rattle.normalize_tables.specs.declared.layout.Made.{Made}
use Rattle.normalize_tables.specs.Layout.{Placed, Source}
use Rattle.normalize_tables.specs.Marks.{Marked}
use Rattle.normalize_tables.specs.News.{first_of, new_at, news_at, names_at, key_at, keys_at}
use Rattle.normalize_tables.specs.Rewritten.{Folded, Relinked}
use Rattle.normalize_tables.proofs.Sources.{standing, source_stands, marked_stands}
use Rattle.normalize_tables.proofs.Nodes.{names_length}
use Rattle.normalize_tables.proofs.NewsStand.{new_rows_kept, paths_kept, front_kept, source_kept, news_kept, names_kept}
use Rattle.normalize_tables.specs.declared.normalizer.Normalizer.{Normalizer}
use Rattle.fold.specs.Transforms.{TransformIs, Transforms}
use Rattle.fold.specs.Pairings.{NewPairTotals}
use Rattle.relink.specs.declared.settle.Links.{Links}
use Rattle.relink.specs.Relinking.{SettledIs}
use Rattle.link_ends.specs.LinkEnds.{Relinkable}
use Rattle.rewrite.specs.Rewriting.{rewritten_from, WroteText}
use Rattle.std.specs.Prelude.{Ok, Err}
use Rattle.refusals.specs.declared.refusal.Refusal.{Refusal}
use Rattle.refusals.specs.Refusals.{stated}
use Rattle.gfa_spec.specs.Calls.{plainly}
use Rattle.writers.specs.declared.writer.Writer.{Writer}
use Rattle.writers.specs.Writers.{Starts}
use Rattle.reader.proofs.Serving.{begun}
use Rattle.normalize_answers.specs.declared.stats.NormalizeSelfLoopsStats.{NormalizeSelfLoopsStats}
use Rattle.normalize_answers.specs.Counters.{counters, rewritten_counters}
use Rattle.normalize_answers.specs.Answered.{NormalTold}
use Rattle.normalize_answers.specs.Tied.{Tied}
use Rattle.normalize_answers.specs.Folding.{Marks, PassedIs, Writable, WriteIs}
use Rattle.normalize_answers.proofs.Answering.{no_room, room}
use Rattle.normalize_answers.proofs.Tying.{tied_stands, news_are, paths_are, runs_are, changed_are, steps_are, names_apart, keys_are}

-- ---- measured, and then refused or written

module _ {text w : List ℕ} {b : Bases} {n : Counts} {g : Layout} {m : Made} {extra : ℕ} {stats : NormalizeSelfLoopsStats} {blank out : List ℕ} {u v : Writer}
    (s : Starts blank (length out + 1) u) (h : WroteText u text w b n g m extra v) where
  pub write_full : (q : Refusal) → length out < v.at → stated q ≡ plainly 22 → WriteIs text w b n g m extra stats out out (Err q)
  write_full q l e = record { writes = λ fs k. no_room q _ _ (measured_long (begun s (h.puts fs k)) l) e }

  pub write_all : {x y : Writer} {out' : List ℕ} → v.at ≤ length out → Starts out (length out + 1) x → WroteText x text w b n g m extra y → out' ≡ y.out.now
      → WriteIs text w b n g m extra stats out out' (Ok (record { length = v.at; stats = stats }))
  write_all {out' = out'} l t p i = record { writes = λ fs k. fits fs k }
    where
      fits : (fs : List Segment) → Relinked text w b n g fs m extra
          → NormalTold out out' (Ok (record { length = v.at; stats = stats })) (normal_fitted (length out) (normal (rewritten_from text w b n g fs m extra) (counters stats)))
      fits fs k =
          let long : v.at ≡ length (rewritten_from text w b n g fs m extra) = measured (begun s (h.puts fs k)) l in
          room (rewritten_from text w b n g fs m extra) (counters stats) (omega arith) long refl (i ∙ written (omega arith) (omega arith) (begun t (p.puts fs k)))

-- ---- the transformation

module _ {text w v : List ℕ} {b : Bases} {n : Counts} {g : Layout} {m : Made} (s : Source text w b n g) (t : TransformIs text w v b n g m) where
  -- the tables of the text, and the marks, are before what it wrote
  front : (lo hi : ℕ) → hi ≤ g.last → KeptWords lo hi w v
  front lo hi h = only_kept lo hi t.only (inl h, tt)

  text_front : KeptWords b.lines (tables_end b n) w v
  text_front = front b.lines (tables_end b n) (omega (arith, s.placed))

  pub transformed_source : Source text v b n g
  transformed_source = source_stands s text_front t.long

  transformed_marks : {p : Segment → Bool} → Marked p text w b n g.folded → Marked p text v b n g.folded
  transformed_marks h = let d = s.placed in marked_stands g.folded s (front 0 g.last (omega arith)) (omega arith) (omega arith) h

  transformed_tied : {es : List Entry} → Tied es text w b n → Tied es text v b n
  transformed_tied e = tied_stands e (standing s text_front)

  transformed_folded : (es : List Entry) (cap : ℕ) → Tied es text w b n → Marked (is_folded es cap) text w b n g.folded → Folded text v b n g (folded es cap) m
  unfolding folded
  transformed_folded es cap e q = rw e.of_segments at (t.folds (is_folded es cap) q)

  -- so the links can be settled
  pub relinkable : Marks text w b n g.folded → Relinkable text v b n g m
  relinkable q =
      let f = t.folds q.test q.marked in
      record { source = transformed_source; rows = t.rows; apart = names_apart f transformed_source.apart; steps = f.steps }

-- ---- the links

module _ {text v u : List ℕ} {b : Bases} {n : Counts} {g : Layout} {m : Made} {l : Links} (z : Relinkable text v b n g m) (q : SettledIs text v u b n g m l) where
  settled_front : KeptWords 0 g.added v u
  settled_front = only_kept 0 g.added q.only (inl (omega arith), tt)

  pub settled_writable : Writable text u b n g m l.added
  settled_writable =
      record { source = source_kept z.source settled_front q.long; rows = new_rows_kept z.source.placed settled_front z.rows; keys = q.rows; few = q.few }

  settled_names : names_at text u b n g (first_of m.first) m.segs ≡ names_at text v b n g (first_of m.first) m.segs
  settled_names = names_kept z.source settled_front z.rows

  settled_tied : {es : List Entry} → Tied es text v b n → Tied es text u b n
  settled_tied e = tied_stands e (standing z.source (front_kept z.source settled_front))

  settled_folded : {fs : List Segment} → Folded text v b n g fs m → Folded text u b n g fs m
  settled_folded f =
      let k = standing z.source (front_kept z.source settled_front) in
      let there = paths_kept z.source.placed settled_front z.rows (names_at text v b n g (first_of m.first) m.segs) in
      record {
        first = f.first ∙ rw k.of_segments;
        news = news_kept z.source settled_front (first_of m.first) m.segs z.rows.half z.rows.segs ∙ f.news ∙ rw (k.of_segments, k.of_paths);
        paths = rw settled_names (there ∙ f.paths ∙ rw (k.of_segments, k.of_paths));
        steps = rw (settled_names, there) f.steps;
        runs = f.runs ∙ rw k.of_paths;
        changed = f.changed ∙ rw k.of_paths;
      }

  -- which links are removed and added, and how many there are, by the definition's folded segments
  settled_is : (es : List Entry) (cap : ℕ) → Tied es text v b n → Marked (is_folded es cap) text v b n g.folded
      → Relinked text u b n g (folded es cap) m l.added
      × (l.removed ≡ count (is_removed (folded es cap)) (links es))
      × (l.loops ≡ count is_self_link (kept es cap) + count (λ k. same_new_node k.from k.to) (keys_at (names_at text u b n g (first_of m.first) m.segs) g.steps u g.added l.added))
  unfolding folded kept
  settled_is es cap e h = rw settled_names (rw (e.of_segments, e.of_links) at (q.settled (is_folded es cap) h))

-- ---- the definition's text and statistics

module _ (es : List Entry) (cap : ℕ) {text u : List ℕ} {b : Bases} {n : Counts} {g : Layout} {m : Made} {extra : ℕ}
    (e : Tied es text u b n) (f : Folded text u b n g (folded es cap) m) (r : Relinked text u b n g (folded es cap) m extra) where
  text_is : rewritten_from text u b n g (folded es cap) m extra ≡ rewritten es cap
  unfolding rewritten_from rewritten kept
  text_is = rw (e.entries, e.of_segments, e.of_links, e.of_paths, news_are cap e f, paths_are cap e f, keys_are cap e f r)

  -- as many new segments and added links as rows
  segs_are : m.segs ≡ length (transform es cap).made.new
  unfolding news_at
  segs_are = sym (rows_length (new_at text b g (first_of m.first)) 1 u 0 m.segs) ∙ ap length (news_are cap e f)

  added_are : extra ≡ length (added es cap)
  unfolding keys_at
  added_are = sym (rows_length (key_at (names_at text u b n g (first_of m.first) m.segs) g.steps) 1 u g.added extra) ∙ ap length (keys_are cap e f r)

module _ (es : List Entry) (cap : ℕ) {text v : List ℕ} {b : Bases} {n : Counts} {g : Layout} {m : Made} {d : Pairs} (e : Tied es text v b n) (f : Folded text v b n g (folded es cap) m)
    (a : NewPairTotals v n g m d) (p : distinct (names_at text v b n g (first_of m.first) m.segs) ≡ true) where
  node_pairs_are : d.nodes ≡ sum (map (pairs same_new_node) (transform es cap).paths)
  node_pairs_are = a.nodes _ p (names_length text v b n g (first_of m.first) m.segs) ∙ rw (paths_are cap e f)

  step_pairs_are : d.steps ≡ sum (map (pairs same_new_step) (transform es cap).paths)
  step_pairs_are = a.steps _ p (names_length text v b n g (first_of m.first) m.segs) ∙ rw (paths_are cap e f)

-- ---- all of it

module _ {text w v u : List ℕ} {b : Bases} {n : Counts} {g : Layout} {m : Made} {l : Links} (s : Source text w b n g) (t : TransformIs text w v b n g m)
    (z : Relinkable text v b n g m) (q : SettledIs text v u b n g m l) where
  module _ (es : List Entry) (cap : ℕ) (e : Tied es text w b n) (h : Marked (is_folded es cap) text w b n g.folded) where
    now_tied : Tied es text u b n
    now_tied = settled_tied z q (transformed_tied s t e)

    now_folded : Folded text u b n g (folded es cap) m
    now_folded = settled_folded z q (transformed_folded s t es cap e h)

    now_settled : Relinked text u b n g (folded es cap) m l.added
        × (l.removed ≡ count (is_removed (folded es cap)) (links es))
        × (l.loops ≡ count is_self_link (kept es cap) + count (λ k. same_new_node k.from k.to) (added es cap))
    now_settled =
        let (r, removed, loops) = settled_is z q es cap (transformed_tied s t e) (transformed_marks s t h) in
        (r, removed, loops ∙ rw (keys_are cap now_tied now_folded r))

    counts_are : {nodes : ℕ} {d : Pairs} → NewPairTotals v n g m d → nodes ≡ length (folded es cap) → rewritten_counters (unchanged es) nodes m l d ≡ rewritten_stats es cap
    unfolding rewritten_counters rewritten_stats unchanged
    counts_are a k =
        let (r, removed, loops) = now_settled in
        rw (
          loops,
          node_pairs_are es cap (transformed_tied s t e) (transformed_folded s t es cap e h) a z.apart,
          step_pairs_are es cap (transformed_tied s t e) (transformed_folded s t es cap e h) a z.apart,
          k,
          runs_are cap now_tied now_folded,
          segs_are es cap now_tied now_folded r,
          added_are es cap now_tied now_folded r,
          removed,
          changed_are cap now_tied now_folded,
          steps_are cap now_tied now_folded,
        )

-- ---- what the passes ask, and what they leave

-- rows of a work area that is as long as it was
pub as_long : {b : Bases} {n : Counts} {g : Layout} {k l : ℕ} → Placed b n g k → l ≡ k → Placed b n g l
as_long p e = rw e p

pub passed : {text w v u : List ℕ} {b : Bases} {n : Counts} {g : Layout} {m : Made} {l : Links} {d : Pairs} → Source text w b n g → Marks text w b n g.folded → TransformIs text w v b n g m
    → NewPairTotals v n g m d → SettledIs text v u b n g m l → PassedIs text w u b n g (record { m = m; l = l; pairs = d })
passed s k t a q =
    let z = relinkable s t k in
    record {
      long = omega (arith, t.long, q.long);
      writable = settled_writable z q;
      passes = λ es cap e h. record {
        links = (now_settled s t z q es cap e h).0;
        same_text = text_is es cap (now_tied s t z q es cap e h) (now_folded s t z q es cap e h) (now_settled s t z q es cap e h).0;
        same_counters = λ c. counts_are s t z q es cap e h a c;
      };
    }

-- ---- by what folds a text

module _ {t v : Normalizer} {m : Made} (a : Transforms t m v) where
  pub links_ready : Marks t.text.now t.work.now t.b t.n t.g.folded → Relinkable v.text.now v.work.now v.b v.n v.g m
  links_ready q = rw (a.same.text, a.same.bases, a.same.counts, a.same.layout) (relinkable t.source a.transformed q)

  pub passed_given : {u : List ℕ} {l : Links} {d : Pairs} → Marks t.text.now t.work.now t.b t.n t.g.folded → NewPairTotals v.work.now v.n v.g m d → SettledIs v.text.now v.work.now u v.b v.n v.g m l
      → PassedIs t.text.now t.work.now u t.b t.n t.g (record { m = m; l = l; pairs = d })
  passed_given q p s =
      passed t.source q a.transformed (rw (a.same.counts, a.same.layout) at p) (rw (a.same.text, a.same.bases, a.same.counts, a.same.layout) at s)
