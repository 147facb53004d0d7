-- Links that are added for the pairs of the new paths. Assumes nothing.
use Prim.Native.Nat.{ℕ, zero, suc, ◌+◌, ◌*◌, ◌-◌, ◌≤◌, ◌<◌}
use native.Mathlib.Numerals.{add-one}
use native.Mathlib.Omega.{arith}
use mathlib.Core.Bool.{Bool, true, false}
use mathlib.Core.List.{List, [], ◌∷◌, ◌++◌, map, map-append, append_assoc}
use mathlib.Core.Logic.{inl, inr}
use mathlib.Core.Path.{◌≡◌, refl, sym, ap, ◌∙◌}
use lib.Dec.{eqb}
use lib.ListN.{length, get_or, set, length-set}
use lib.Seq.{get_or-set_same, get_or-set_other}
use Rattle.gfa_spec.specs.Bytes.{join, sum}
use Rattle.gfa_spec.specs.Reading.{Segment}
use Rattle.gfa_spec.specs.Runs.{bit}
use Rattle.gfa_spec.proofs.Runs.{sum_append}
use Rattle.gfa_spec.proofs.Counting.{bit_small, count_one, count_append}
use Rattle.normalize_spec.specs.Folding.{NewStep, same_new_node}
use Rattle.normalize_spec.specs.Links.{Key, adjacent, missing}
use Rattle.work.specs.Rows.{rows_at, span, Only}
use Rattle.work.proofs.Rows.{KeptWords, only_none, only_then, only_kept, kept_within, rows_snoc, rows_kept, each_kept, each_more, each_none}
use Rattle.work.proofs.Filling.{only_set}
use Rattle.writers.proofs.Joining.{join_last}
use Rattle.tables.specs.declared.tables.Bases.{Bases}
use Rattle.tables.specs.declared.tables.Counts.{Counts}
use Rattle.tables.specs.ByNumber.{links_to}
use Rattle.tables.proofs.ByNumber.{link_stands}
use Rattle.normalize_tables.specs.declared.layout.Layout.{Layout}
use Rattle.normalize_tables.specs.declared.layout.Made.{Made}
use Rattle.tables.specs.declared.path_steps.Steps.{Steps}
use Rattle.normalize_tables.specs.News.{first_of, path_words, names_at, new_paths_at, key_at, keys_at}
use Rattle.normalize_tables.specs.NewByNumber.{new_step_no, new_steps_from, new_path_no, new_paths_to, NewPathIs}
use Rattle.normalize_tables.proofs.Nodes.{same_place}
use Rattle.normalize_tables.proofs.Sources.{standing}
use Rattle.normalize_tables.proofs.NewByNumber.{ends_stand, new_paths_more, new_steps_next, new_steps_length, new_path_is, new_steps_alike, paths_words, first_kept, end_kept}
use Rattle.normalize_tables.proofs.NewsStand.{new_step_kept, front_kept}
use Rattle.relink.specs.declared.lookup.Pair.{Pair}
use Rattle.relink.specs.declared.tallies.Tally.{Tally}
use Rattle.relink.specs.Relinking.{AddedRows, Ended, pair_no, PairIs, LinkFound, with_link, is_loop, AddsLinks, Grows, PairAdded, PathAdded, none_added, PathsAdded}
use Rattle.link_ends.specs.LinkEnds.{Relinkable}
use Rattle.link_ends.proofs.Endings.{relinkable_stands, ends_kept}
use Rattle.relink.proofs.Lookups.{pair_key}

-- ---- what is kept

module _ {text w w' : List ℕ} {b : Bases} {n : Counts} {g : Layout} {m : Made} (s : Relinkable text w b n g m) (o : Only (span g.added (g.added + n.steps) ∷ []) w w') where
  -- the words before the added links
  pub before_kept : KeptWords 0 g.added w w'
  before_kept = only_kept 0 g.added o (inl (omega arith), tt)

  links_same : links_to text w' b n.links ≡ links_to text w b n.links
  links_same = (standing s.source (front_kept s.source before_kept)).of_links

  -- the new steps, and the new paths
  step_same : (names : List (List ℕ)) (k : ℕ) → k < m.steps → new_step_no names w' g k ≡ new_step_no names w g k
  step_same names k h = let p = s.source.placed in new_step_kept before_kept names (g.steps + 2 * k) (omega arith) (omega (arith, s.rows.few))

  pair_same : (names : List (List ℕ)) (step : ℕ) → step + 1 < m.steps → pair_no names w' g step ≡ pair_no names w g step
  pair_same names step h = rw (step_same names step (omega arith), step_same names (step + 1) h)

  path_same : (names : List (List ℕ)) (p : ℕ) → p < n.paths → new_path_no names w' g p ≡ new_path_no names w g p
  path_same names p h =
      let d = s.source.placed in
      let row = (s.rows.paths.row p h).steps in
      let k = paths_words g n.paths (kept_within g.paths (g.paths + 2 * n.paths) before_kept (omega arith) (omega arith)) in
      rw (new_path_is names w' g p, end_kept g k p h, first_kept g k p h, new_path_is names w g p)
      (new_steps_alike names names w w' g (path_words w g p).first (path_words w g p).end (λ i l r. step_same names i (omega arith)))

  pub ended_stands : {names : List (List ℕ)} {fs : List Segment} → Ended text names fs w b n g m → Ended text names fs w' b n g m
  ended_stands e =
      record {
        apart = e.apart;
        all = e.all;
        ends = λ i h.
            ends_kept (ends_stand g i o (inr s.source.placed.ends))
            (link_stands s.source.readable (front_kept s.source before_kept) i h) (e.ends i h);
      }

-- a word more is stored behind the added links
module _ {text w : List ℕ} {b : Bases} {n : Counts} {g : Layout} {m : Made} (s : Relinkable text w b n g m) (at step : ℕ) where
  put_only : at < n.steps → Only (span g.added (g.added + n.steps) ∷ []) w (set w (g.added + at) step)
  put_only h = only_set w (g.added + at) step (omega arith) (omega arith)

  put_ready : at < n.steps → Relinkable text (set w (g.added + at) step) b n g m
  put_ready h = relinkable_stands (before_kept s (put_only h)) (length-set w (g.added + at) step) s

-- ---- one behind the other

-- nothing is added
grows_none : {w : List ℕ} {n : Counts} {g : Layout} {m : Made} {s : Tally} (most : ℕ) → AddedRows w n g m s.added → Grows w w n g m s s most
grows_none most r = record { low = omega arith; high = omega arith; loops = omega arith; rows = r; long = refl; only = only_none }

module _ {w v u : List ℕ} {n : Counts} {g : Layout} {m : Made} {s t r : Tally} {k l : ℕ} where
  grows_then : (most : ℕ) → r.added ≤ s.added + most → Grows w v n g m s t k → Grows v u n g m t r l → Grows w u n g m s r most
  grows_then most h a c =
      record {
        low = omega (arith, a.low, c.low);
        high = h;
        loops = omega (arith, a.loops, c.loops);
        rows = c.rows;
        long = c.long ∙ a.long;
        only = only_then (span g.added (g.added + n.steps) ∷ []) a.only c.only (λ i o. (o, o));
      }

module _ {text : List ℕ} {names : List (List ℕ)} {fs : List Segment} {w v u : List ℕ} {b : Bases} {n : Counts} {g : Layout} {s t r : Tally} where
  -- the first of the pairs that are left are added
  adds_then : {ks ls : List Key} (qs rest : List Key) → ls ≡ qs ++ rest → AddsLinks text names fs w v b n g s t ks ls → AddsLinks text names fs v u b n g t r qs []
      → AddsLinks text names fs w u b n g s r ks rest
  adds_then qs rest e a c = record { all = λ more. a.all more ∙ rw (e, append_assoc) (c.all (rest ++ more)); loops = λ h. c.loops (a.loops h) }

  -- more pairs are added
  adds_more : {ks : List Key} (qs : List Key) → AddsLinks text names fs w v b n g s t ks [] → AddsLinks text names fs v u b n g t r qs [] → AddsLinks text names fs w u b n g s r (ks ++ qs) []
  adds_more qs a c = record { all = λ more. rw append_assoc (a.all (qs ++ more) ∙ c.all more); loops = λ h. c.loops (a.loops h) }

-- ---- a pair

-- one link more
with_added : (s : Tally) (same : Bool) → (with_link s same).added ≡ s.added + 1
with_added s true = refl
with_added s false = refl

with_loops : (s : Tally) (same : Bool) → (with_link s same).loops ≡ s.loops + bit same
unfolding bit
with_loops s true = refl
with_loops s false = omega arith

module _ {text w : List ℕ} {b : Bases} {n : Counts} {g : Layout} {m : Made} (s : Tally) {step : ℕ} {p : Pair}
    (k : Relinkable text w b n g m × AddedRows w n g m s.added) (h : (step + 1 < m.steps) × (s.added < n.steps)) (q : PairIs w n g m step p) where
  -- a link has these parts
  pub pair_there : {r : Bool} → LinkFound text w b n g m s.added p r → r ≡ true → PairAdded text w w b n g m s step s
  unfolding missing
  pair_there f e =
      record {
        ready = k.0;
        adds = λ names fs d. record { all = λ more. rw (pair_key q names, ← f.answer names fs d, e); loops = λ z. z };
        grows = grows_none 1 k.1;
      }

  -- there is room for one more word
  put_room : g.added + s.added < length w
  put_room = let d = k.0.source.placed in omega (arith, d.ends, d.room)

  put_here : get_or (set w (g.added + s.added) step) (g.added + s.added) 0 ≡ step
  put_here = get_or-set_same w (g.added + s.added) step 0 put_room

  put_before : (i : ℕ) → i < s.added → get_or (set w (g.added + s.added) step) (g.added + 1 * i) 0 ≡ get_or w (g.added + 1 * i) 0
  put_before i l = get_or-set_other w (g.added + s.added) (g.added + 1 * i) step 0 (λ e. omega arith)

  put_rows : AddedRows (set w (g.added + s.added) step) n g m (s.added + 1)
  put_rows =
      let z : g.added + 1 * s.added ≡ g.added + s.added = omega arith in
      let old = each_kept {w' = set w (g.added + s.added) step} k.1.keys (λ i l q. record { step = rw (put_before i l) q.step }) in
      record { keys = rw add-one (each_more old (record { step = rw (z, put_here) h.0 })); high = omega arith }

  -- the added links are as they were
  keys_before : (names : List (List ℕ)) → keys_at names g.steps (set w (g.added + s.added) step) g.added s.added ≡ keys_at names g.steps w g.added s.added
  unfolding keys_at key_at
  keys_before names =
      rows_kept (key_at names g.steps) 1 g.added s.added
      (λ i l. rw (put_before i l) (pair_same k.0 (put_only k.0 s.added step h.1) names (get_or w (g.added + 1 * i) 0) (k.1.keys.row i l).step))

  -- the pair stands behind them
  keys_more : (names : List (List ℕ)) → keys_at names g.steps (set w (g.added + s.added) step) g.added (s.added + 1)
      ≡ keys_at names g.steps w g.added s.added ++ (pair_no names w g step ∷ [])
  unfolding keys_at key_at
  keys_more names =
      let z : g.added + 1 * s.added ≡ g.added + s.added = omega arith in
      rw (add-one, rows_snoc, keys_before names, z, put_here, pair_same k.0 (put_only k.0 s.added step h.1) names step h.0)

  pair_loop : {names : List (List ℕ)} {fs : List Segment} → Ended text names fs w b n g m → eqb p.first.node p.second.node ≡ is_loop (pair_no names w g step)
  unfolding same_new_node
  pair_loop {names} e = rw (q.first.step names, q.second.step names, same_place names p.first.node p.second.node e.apart (omega (arith, e.all)) (omega (arith, e.all)))

  -- none has them: the pair is added
  pub pair_added : {f : Bool} {r : Tally} → LinkFound text w b n g m s.added p f → f ≡ false → r ≡ with_link s (eqb p.first.node p.second.node)
      → PairAdded text w (set w (g.added + s.added) step) b n g m s step r
  unfolding missing
  pair_added f e put =
      let same = eqb p.first.node p.second.node in
      let ra = ap (λ t. t.added) put ∙ with_added s same in
      let rl = ap (λ t. t.loops) put ∙ with_loops s same in
      record {
        ready = put_ready k.0 s.added step h.1;
        adds = λ names fs d. record {
          all = λ more. (let known = f.answer names fs d in rw (ra, keys_more names, links_same k.0 (put_only k.0 s.added step h.1), pair_key q names, ← known, e, append_assoc, append_assoc));
          loops = λ z. rl ∙ rw (ra, keys_more names, count_append, count_one, z, pair_loop d);
        };
        grows = record {
          low = omega arith;
          high = omega arith;
          loops = omega (arith, bit_small same);
          rows = rw ra put_rows;
          long = length-set w (g.added + s.added) step;
          only = put_only k.0 s.added step h.1;
        };
      }

-- ---- the pairs of a path

-- fewer than two steps have no pair
adjacent_none : (xs : List NewStep) → length xs ≤ 1 → adjacent xs ≡ []
unfolding adjacent
adjacent_none [] h = refl
adjacent_none (x ∷ []) h = refl
adjacent_none (x ∷ (y ∷ ys)) h = absurd (omega arith)

module _ (names : List (List ℕ)) (w : List ℕ) (g : Layout) (k end : ℕ) where
  -- the first pair, and the others
  adjacent_cons : k + 1 < end → adjacent (new_steps_from names w g k end) ≡ pair_no names w g k ∷ adjacent (new_steps_from names w g (k + 1) end)
  adjacent_cons h = rw (new_steps_next names w g k end (omega arith), new_steps_next names w g (k + 1) end h) (unfold adjacent in refl)

-- The state at new step k: the pairs before it have links.
pub record Pairing (text before work : List ℕ) (b : Bases) (n : Counts) (g : Layout) (m : Made) (s : Tally) (first end : ℕ) (now : Tally) (k : ℕ) : Type 0 where
  pub relinkable : Relinkable text before b n g m
  pub ready : Relinkable text work b n g m
  pub low : first ≤ k
  pub high : k ≤ end
  pub inside : end ≤ m.steps
  pub room : s.added + (end - first) ≤ n.steps
  pub adds : (names : List (List ℕ)) (fs : List Segment) → Ended text names fs before b n g m
      → AddsLinks text names fs before work b n g s now (adjacent (new_steps_from names before g first end)) (adjacent (new_steps_from names before g k end))
  pub grows : Grows before work n g m s now (k - first)

module _ {text before : List ℕ} {b : Bases} {n : Counts} {g : Layout} {m : Made} {s : Tally} {first end : ℕ} where
  pub pairing_start : Relinkable text before b n g m × AddedRows before n g m s.added → (first ≤ end) × (end ≤ m.steps) × (s.added + (end - first) ≤ n.steps)
      → Pairing text before before b n g m s first end s first
  pairing_start r h =
      record {
        relinkable = r.0;
        ready = r.0;
        low = omega arith;
        high = h.0;
        inside = h.1;
        room = h.2;
        adds = λ names fs e. record { all = λ more. refl; loops = λ z. z };
        grows = grows_none (first - first) r.1;
      }

  module _ {work : List ℕ} {now : Tally} {k : ℕ} (p : Pairing text before work b n g m s first end now k) where
    pub pairing_more : {work' : List ℕ} {r : Tally} → k + 1 < end → PairAdded text work work' b n g m now k r → Pairing text before work' b n g m s first end r (k + 1)
    pairing_more h q =
        record {
          relinkable = p.relinkable;
          ready = q.ready;
          low = omega (arith, p.low);
          high = omega arith;
          inside = p.inside;
          room = p.room;
          adds = λ names fs e.
              adds_then (pair_no names work g k ∷ []) (adjacent (new_steps_from names before g (k + 1) end)) (here names)
              (p.adds names fs e) (q.adds names fs (ended_stands p.relinkable p.grows.only e));
          grows = grows_then (k + 1 - first) (omega (arith, p.grows.high, q.grows.high, p.low)) p.grows q.grows;
        }
      where
        here : (names : List (List ℕ)) → adjacent (new_steps_from names before g k end) ≡ (pair_no names work g k ∷ []) ++ adjacent (new_steps_from names before g (k + 1) end)
        here names = adjacent_cons names before g k end h ∙ rw (pair_same p.relinkable p.grows.only names k (omega (arith, p.inside)))

    pub pairing_end : end ≤ k + 1 → PathAdded text before work b n g m s first end now
    pairing_end h =
        record {
          ready = p.ready;
          adds = λ names fs e.
              (let none_left = adjacent_none (new_steps_from names before g k end) (rw new_steps_length (omega arith)) in
              rw none_left at (p.adds names fs e));
          grows = record {
            low = p.grows.low;
            high = omega (arith, p.grows.high, p.high);
            loops = p.grows.loops;
            rows = p.grows.rows;
            long = p.grows.long;
            only = p.grows.only;
          };
        }

-- ---- the paths

module _ (names : List (List ℕ)) (w : List ℕ) (g : Layout) where
  -- the steps of the first p new paths
  abbrev pub steps_to : ℕ → ℕ
  steps_to p = sum (map length (new_paths_to names w g p))

  -- one path more
  steps_more : (p : ℕ) → steps_to (p + 1) ≡ steps_to p + length (new_path_no names w g p)
  unfolding sum
  steps_more p = rw (new_paths_more names w g p, sum_append length (new_paths_to names w g p)) (omega arith)

  -- any number more
  steps_rise : (p k : ℕ) → steps_to p ≤ steps_to (p + k)
  steps_rise p zero = let z : p + 0 ≡ p = omega arith in rw z (omega arith)
  steps_rise p (suc k) = let z : p + suc k ≡ p + k + 1 = omega arith in rw (z, steps_more (p + k)) (omega (arith, steps_rise p k))

  -- the pairs of one path more
  pairs_more : (p : ℕ) → join (map adjacent (new_paths_to names w g (p + 1))) ≡ join (map adjacent (new_paths_to names w g p)) ++ adjacent (new_path_no names w g p)
  pairs_more p = rw (new_paths_more names w g p, map-append, join_last)

-- the IDs of the nodes
abbrev pub nodes : List ℕ → List ℕ → Bases → Counts → Layout → Made → List (List ℕ)
nodes text w b n g m = names_at text w b n g (first_of m.first) m.segs

-- The state at path p: the pairs of those before it have links.
pub record Passing (text before work : List ℕ) (b : Bases) (n : Counts) (g : Layout) (m : Made) (s : Tally) (p : ℕ) : Type 0 where
  pub relinkable : Relinkable text before b n g m
  pub ready : Relinkable text work b n g m
  pub high : p ≤ n.paths
  pub few : s.added ≤ steps_to (nodes text before b n g m) before g p
  pub adds : (names : List (List ℕ)) (fs : List Segment) → Ended text names fs before b n g m
      → AddsLinks text names fs before work b n g none_added s (join (map adjacent (new_paths_to names before g p))) []
  pub grows : Grows before work n g m none_added s m.steps

module _ {text before : List ℕ} {b : Bases} {n : Counts} {g : Layout} {m : Made} where
  pub passing_start : Relinkable text before b n g m → Passing text before before b n g m none_added 0
  unfolding new_paths_at rows_at join
  passing_start h =
      record {
        relinkable = h;
        ready = h;
        high = omega arith;
        few = omega arith;
        adds = λ names fs e. record { all = λ more. refl; loops = λ z. z };
        grows = grows_none m.steps (record { keys = each_none; high = omega arith });
      }

  module _ {work : List ℕ} {s : Tally} {p : ℕ} (q : Passing text before work b n g m s p) where
    module _ {r : Steps} (h : p < n.paths) (e : NewPathIs work n g m p r) where
      -- the path is as it was
      here : (names : List (List ℕ)) → new_path_no names before g p ≡ new_steps_from names work g r.first r.end
      here names = sym (path_same q.relinkable q.grows.only names p h) ∙ e.path names

      -- so are its steps, with those of the paths before it and behind it
      passing_steps : steps_to (nodes text before b n g m) before g p + (r.end - r.first) ≤ m.steps
      passing_steps =
          let names = nodes text before b n g m in
          let size : length (new_path_no names before g p) ≡ r.end - r.first = rw (here names) (new_steps_length names work g r.first r.end) in
          let all : p + 1 + (n.paths - (p + 1)) ≡ n.paths = omega arith in
          omega (arith, steps_more names before g p, size, rw all at (steps_rise names before g (p + 1) (n.paths - (p + 1))), q.relinkable.steps)

      pub passing_room : s.added + (r.end - r.first) ≤ n.steps
      passing_room = omega (arith, q.few, passing_steps, q.relinkable.rows.few)

      pub passing_more : {work' : List ℕ} {t : Tally} → PathAdded text work work' b n g m s r.first r.end t → Passing text before work' b n g m t (p + 1)
      passing_more a =
          let names = nodes text before b n g m in
          let size : length (new_path_no names before g p) ≡ r.end - r.first = rw (here names) (new_steps_length names work g r.first r.end) in
          record {
            relinkable = q.relinkable;
            ready = a.ready;
            high = omega arith;
            few = omega (arith, q.few, steps_more names before g p, size, a.grows.high);
            adds = λ names fs d. rw (pairs_more names before g p, here names)
                (adds_more (adjacent (new_steps_from names work g r.first r.end)) (q.adds names fs d) (a.adds names fs (ended_stands q.relinkable q.grows.only d)));
            grows = grows_then m.steps (omega (arith, q.few, passing_steps, a.grows.high)) q.grows a.grows;
          }

    pub passing_end : n.paths ≤ p → PathsAdded text before work b n g m s
    passing_end h = let z : p ≡ n.paths = omega (arith, q.high) in record { ready = q.ready; adds = λ names fs e. rw z at (q.adds names fs e); grows = q.grows }
