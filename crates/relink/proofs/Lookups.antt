-- The search for a link of the four parts of a pair. Assumes nothing.
use Prim.Native.Nat.{ℕ, ◌+◌, ◌*◌, ◌-◌, ◌≤◌, ◌<◌}
use native.Mathlib.Omega.{arith}
use mathlib.Core.Bool.{Bool, true, false, not, ◌&&◌, ◌||◌}
use mathlib.Core.List.{List, ◌∷◌, ◌++◌, map}
use Rattle.std.specs.Prelude.{Option, Some}
use Rattle.std.specs.Option.{option_eq}
use mathlib.Core.Path.{◌≡◌, refl, sym, ◌∙◌}
use lib.Dec.{eqb}
use denote.Enum.Bare.{sameb}
use Rattle.scan.specs.contracts.orientation.Orientation.{the_type}
use Rattle.scan.specs.Orientations.{sign_of}
use lib.ListN.{length, get_or}
use borrow.Author.Tests.{not-true, not-false}
use Rattle.gfa_spec.specs.Bytes.{any, keep, distinct}
use Rattle.gfa_spec.specs.Reading.{Segment, Link}
use Rattle.gfa_spec.proofs.Tests.{by_test, any_append}
use Rattle.normalize_spec.specs.Folding.{same_new_node, same_new_step}
use Rattle.normalize_spec.specs.Links.{Key, is_removed, same_key, key_of}
use Rattle.work.proofs.RowCuts.{rows_all, rows_cons, rows_none}
use Rattle.tables.specs.declared.tables.Bases.{Bases}
use Rattle.tables.specs.declared.tables.Counts.{Counts}
use Rattle.tables.specs.declared.rows.LinkWords.{LinkWords}
use Rattle.tables.specs.ByNumber.{link_no, LinkIs, links_from}
use Rattle.tables.proofs.ByNumber.{links_all, links_next, links_none}
use Rattle.normalize_tables.specs.Rewritten.{NewRows}
use Rattle.normalize_tables.specs.Layout.{Source}
use Rattle.normalize_tables.specs.declared.layout.Layout.{Layout}
use Rattle.normalize_tables.specs.declared.layout.Made.{Made}
use Rattle.normalize_tables.specs.declared.rows.NewStepWords.{NewStepWords}
use Rattle.normalize_tables.specs.News.{place_of, key_at, keys_at}
use Rattle.normalize_tables.specs.NewByNumber.{step_is, step_in, ends_no, joins}
use Rattle.normalize_tables.proofs.Nodes.{same_place}
use Rattle.normalize_tables.proofs.NewByNumber.{eq_steps}
use Rattle.normalize_tables.specs.declared.rows.Ends.{Ends}
use Rattle.relink.specs.declared.lookup.Pair.{Pair}
use Rattle.relink.specs.Relinking.{AddedRows, Ended, pair_no, key_in, PairIs, PairThere, kept_keys, pair_is, nodes_are, marks_are, LinkMatch, KeptIs, AddedMatch, LinkFound}
use Rattle.link_ends.proofs.Places.{place_says}

-- ---- words and steps

module _ (names : List (List ℕ)) (d : distinct names ≡ true) where
  -- new steps are equal exactly if their words are
  step_says : (s t : NewStepWords) → s.node < length names → t.node < length names → step_is s t ≡ same_new_step (step_in names s) (step_in names t)
  unfolding same_new_step same_new_node
  step_says s t l h = rw (same_place names s.node t.node d l h)

  -- a new step is the end of a link exactly if its node has the place of the end's name, and the orientation is the same
  end_says : (s : NewStepWords) (place : Option ℕ) (mark : ℕ) (name : List ℕ) → s.node < length names → place ≡ place_of names name
      → (option_eq eqb place (Some s.node) && eqb (sign_of s.mark) mark) ≡ same_new_step (step_in names s) (record { name = name; orientation = mark })
  unfolding same_new_step same_new_node
  end_says s place mark name l e = rw (place_says names name s.node d l, e)

  -- pairs are equal exactly if their words are
  pair_says : (p q : Pair) → (p.first.node < length names) × (p.second.node < length names) → (q.first.node < length names) × (q.second.node < length names)
      → pair_is p q ≡ same_key (key_in names p) (key_in names q)
  unfolding same_key
  pair_says p q l h = rw (step_says p.first q.first l.0 h.0, step_says p.second q.second l.1 h.1)

-- what `==` says of two pairs
abbrev pub pair_eq : Pair → Pair → Bool
pair_eq p q =
    (eqb p.first.node q.first.node && sameb the_type p.first.mark q.first.mark)
    && (eqb p.second.node q.second.node && sameb the_type p.second.mark q.second.mark)

-- pairs are equal where their words are
pub eq_pairs : (p q : Pair) → pair_eq p q ≡ pair_is p q
eq_pairs p q = rw (eq_steps p.first q.first, eq_steps p.second q.second)

-- two tests, one behind the other: the first fails, or the second decides
pub pair_first : {r s : Bool} (t : Bool) → r ≡ s → not r ≡ true → ◌≡◌ {A = Bool} false (s && t)
pair_first {r} t e h = rw (← e, not-true r h)

pub pair_second : {r s t u : Bool} → r ≡ s → not r ≡ false → u ≡ t → u ≡ (s && t)
pair_second {r} e h f = rw (← e, not-false r h) f

-- the four parts of a pair
pub pair_key : {work : List ℕ} {n : Counts} {g : Layout} {m : Made} {step : ℕ} {p : Pair} → PairIs work n g m step p → (names : List (List ℕ)) → pair_no names work g step ≡ key_in names p
pair_key q names = rw (q.first.step names, q.second.step names)

-- ---- a link

-- four tests in another order
regroup : (x y z t : Bool) → ((x && z) && (y && t)) ≡ ((x && y) && (z && t))
regroup true true z t = refl
regroup true false true t = refl
regroup true false false t = refl
regroup false y z t = refl

module _ (text : List ℕ) {work : List ℕ} (b : Bases) {n : Counts} {g : Layout} {m : Made} (p : Pair) {i : ℕ}
    (s : PairThere n m p) (l : i < n.links) {e : Ends} (f : e ≡ ends_no work g i) where
  -- its row says whether it is removed
  match_gone : (names : List (List ℕ)) (fs : List Segment) → Ended text names fs work b n g m → e.gone ≡ is_removed fs (link_no text work b i)
  match_gone names fs d = rw (f, (d.ends i l).gone)

  pub match_removed : e.gone ≡ true → LinkMatch text work b n g m p i false
  match_removed h = record { answer = λ names fs d. rw (← match_gone names fs d, h) }

  module _ (h : e.gone ≡ false) where
    -- nodes and orientations say whether it has the parts
    match_all : (names : List (List ℕ)) (fs : List Segment) → Ended text names fs work b n g m
        → (nodes_are p e && (eqb (sign_of p.first.mark) (link_no text work b i).from_orientation && eqb (sign_of p.second.mark) (link_no text work b i).to_orientation)) ≡ (not (is_removed fs (link_no text work b i)) && same_key (key_in names p) (key_of (link_no text work b i)))
    unfolding same_key key_of
    match_all names fs d =
        let row = d.ends i l in
        let from = end_says names d.apart p.first e.from (link_no text work b i).from_orientation (link_no text work b i).from (omega (arith, s, d.all)) (rw f row.from) in
        let to = end_says names d.apart p.second e.to (link_no text work b i).to_orientation (link_no text work b i).to (omega (arith, s, d.all)) (rw f row.to) in
        rw (← match_gone names fs d, h, ← from, ← to) (regroup (option_eq eqb e.from (Some p.first.node)) (eqb (sign_of p.first.mark) (link_no text work b i).from_orientation) _ _)

    module _ {r : Bool} (q : r ≡ nodes_are p e) where
      pub match_nodes : not r ≡ true → LinkMatch text work b n g m p i false
      match_nodes z = record { answer = λ names fs d. pair_first _ q z ∙ match_all names fs d }

      pub match_marks : {u : Bool} {l : LinkWords} {leaves enters : ℕ} → not r ≡ false → LinkIs text work b i l → leaves ≡ sign_of l.leaves → enters ≡ sign_of l.enters
          → u ≡ marks_are p leaves enters → LinkMatch text work b n g m p i u
      match_marks z k s t v = record { answer = λ names fs d. pair_second q z (v ∙ rw (s, t, k.link)) ∙ match_all names fs d }

-- a link with other nodes has not the parts, be it removed or not
pub match_apart : (text : List ℕ) {work : List ℕ} (b : Bases) {n : Counts} {g : Layout} {m : Made} (p : Pair) {i : ℕ} {r : Bool} → PairThere n m p → i < n.links
    → r ≡ joins work g i p.first.node p.second.node → not r ≡ true → LinkMatch text work b n g m p i false
match_apart text {work} b {g = g} p {i} s l q z =
    by_test (ends_no work g i).gone (match_removed text b p s l refl) (λ h. match_nodes text b p s l refl h q z)

pub ruleset matching = (match_apart, match_removed, match_nodes, match_marks)

-- ---- kept links

-- the first link that there is
kept_cons : (t : Link → Bool) (q : Key → Bool) (l : Link) (ls : List Link) → any q (map key_of (keep t (l ∷ ls))) ≡ ((t l && q (key_of l)) || any q (map key_of (keep t ls)))
unfolding keep any
kept_cons t q l ls = by_test (t l) (λ e. rw e) (λ e. rw e)

-- The state at link i: no kept link before it has the parts of the pair.
pub record Seeking (text work : List ℕ) (b : Bases) (n : Counts) (g : Layout) (m : Made) (p : Pair) (i : ℕ) : Type 0 where
  pub there : PairThere n m p
  pub high : i ≤ n.links
  pub left : (names : List (List ℕ)) (fs : List Segment) → Ended text names fs work b n g m
      → any (same_key (key_in names p)) (kept_keys text fs work b n.links) ≡ any (same_key (key_in names p)) (map key_of (keep (λ l. not (is_removed fs l)) (links_from text work b n i)))

module _ {text work : List ℕ} {b : Bases} {n : Counts} {g : Layout} {m : Made} {p : Pair} where
  pub seeking_start : PairThere n m p → Seeking text work b n g m p 0
  seeking_start h = record { there = h; high = omega arith; left = λ names fs e. rw (← links_all text work b n) }

  module _ {i : ℕ} (s : Seeking text work b n g m p i) where
    module _ {r : Bool} (h : i < n.links) (q : LinkMatch text work b n g m p i r) where
      first_link : (names : List (List ℕ)) (fs : List Segment) → Ended text names fs work b n g m
          → any (same_key (key_in names p)) (kept_keys text fs work b n.links)
          ≡ (r || any (same_key (key_in names p)) (map key_of (keep (λ l. not (is_removed fs l)) (links_from text work b n (i + 1)))))
      first_link names fs e = s.left names fs e ∙ rw (links_next text work b n i h, kept_cons, ← q.answer names fs e)

      pub seeking_more : r ≡ false → Seeking text work b n g m p (i + 1)
      seeking_more f = record { there = s.there; high = omega arith; left = λ names fs e. first_link names fs e ∙ rw f }

      pub seeking_hit : r ≡ true → KeptIs text work b n g m p true
      seeking_hit f = record { answer = λ names fs e. sym (first_link names fs e ∙ rw f) }

    pub seeking_end : n.links ≤ i → KeptIs text work b n g m p false
    unfolding keep any
    seeking_end h = record { answer = λ names fs e. sym (s.left names fs e ∙ rw (links_none text work b n i h)) }

pub ruleset seeking = (seeking_start, seeking_hit, seeking_more, seeking_end)

-- ---- added links

-- The state at added link i: none before it has the parts of the pair.
pub record Comparing (work : List ℕ) (n : Counts) (g : Layout) (m : Made) (added : ℕ) (p : Pair) (i : ℕ) : Type 0 where
  pub rows : AddedRows work n g m added
  pub there : PairThere n m p
  pub high : i ≤ added
  pub left : (names : List (List ℕ)) → distinct names ≡ true → length names ≡ n.segs + m.segs
      → any (same_key (key_in names p)) (keys_at names g.steps work g.added added)
      ≡ any (same_key (key_in names p)) (keys_at names g.steps work (g.added + 1 * i) (added - i))

-- the step of an added link
pub added_step : {work : List ℕ} {n : Counts} {g : Layout} {m : Made} {added i t : ℕ} → AddedRows work n g m added → i < added → t ≡ get_or work (g.added + i) 0 → t + 1 < m.steps
added_step {g = g} {i = i} s h e = let z : g.added + 1 * i ≡ g.added + i = omega arith in rw e (rw z at (s.keys.row i h).step)

module _ {work : List ℕ} {n : Counts} {g : Layout} {m : Made} {added : ℕ} {p : Pair} where
  pub comparing_start : AddedRows work n g m added → PairThere n m p → Comparing work n g m added p 0
  unfolding keys_at
  comparing_start r h =
      record { rows = r; there = h; high = omega arith; left = λ names d l. rw (← rows_all (key_at names g.steps) 1 work g.added added) }

  module _ {i : ℕ} (s : Comparing work n g m added p i) where
    module _ {t : ℕ} {other : Pair} {r : Bool} (h : i < added) (e : t ≡ get_or work (g.added + i) 0) (o : PairIs work n g m t other) (q : r ≡ pair_eq p other) where
      first_added : (names : List (List ℕ)) → distinct names ≡ true → length names ≡ n.segs + m.segs
          → any (same_key (key_in names p)) (keys_at names g.steps work g.added added)
          ≡ (r || any (same_key (key_in names p)) (keys_at names g.steps work (g.added + 1 * (i + 1)) (added - (i + 1))))
      unfolding keys_at key_at any
      first_added names d l =
          let z : g.added + 1 * i ≡ g.added + i = omega arith in
          let says = pair_says names d p other (omega arith, omega arith) (omega arith, omega arith) in
          s.left names d l ∙ rw (rows_cons (key_at names g.steps) 1 work g.added added i h, z, ← e, pair_key o names, ← says, ← eq_pairs p other, ← q)

      pub comparing_more : r ≡ false → Comparing work n g m added p (i + 1)
      comparing_more f =
          record { rows = s.rows; there = s.there; high = omega arith; left = λ names d l. first_added names d l ∙ rw f }

      pub comparing_hit : r ≡ true → AddedMatch work n g m added p true
      comparing_hit f = record { answer = λ names d l. sym (first_added names d l ∙ rw f) }

    pub comparing_end : added ≤ i → AddedMatch work n g m added p false
    unfolding keys_at any
    comparing_end h = record { answer = λ names d l. sym (s.left names d l ∙ rw (rows_none (key_at names g.steps) 1 work g.added added i h)) }

pub ruleset comparing = (comparing_start, comparing_hit, comparing_more, comparing_end)

-- ---- both

module _ {text work : List ℕ} {b : Bases} {n : Counts} {g : Layout} {m : Made} {added : ℕ} (p : Pair) {k : Bool}
    (s : Source text work b n g) (t : NewRows work n g m) (q : KeptIs text work b n g m p k) where
  -- the answer, with what there is room for
  found : (r : Bool) → ((names : List (List ℕ)) (fs : List Segment) → Ended text names fs work b n g m
      → r ≡ any (same_key (key_in names p)) (kept_keys text fs work b n.links ++ keys_at names g.steps work g.added added)) → LinkFound text work b n g m added p r
  found r e =
      let d = s.placed in
      record { answer = e; room = omega (arith, d.ends, d.room); few = s.readable.few.4; made = omega (arith, t.few) }

  pub found_kept : k ≡ true → LinkFound text work b n g m added p k
  found_kept e = found k (λ names fs d. e ∙ rw (any_append (same_key (key_in names p)) (kept_keys text fs work b n.links), ← q.answer names fs d, e))

  pub found_added : {r : Bool} → k ≡ false → AddedMatch work n g m added p r → LinkFound text work b n g m added p r
  found_added {r} e a =
      found r
      (λ names fs d.
      rw (any_append (same_key (key_in names p)) (kept_keys text fs work b n.links), ← q.answer names fs d, e) (a.answer names d.apart d.all))
