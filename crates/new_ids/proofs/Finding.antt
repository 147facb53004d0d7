-- The search for a node: its state, and how it goes on. Assumes nothing.
use Prim.Native.Nat.{ℕ, zero, suc, ◌+◌, ◌*◌, ◌-◌, ◌≤◌, ◌<◌}
use native.Mathlib.Numerals.{add-one}
use native.Mathlib.Omega.{arith}
use mathlib.Core.Bool.{Bool, true, false, cond}
use mathlib.Core.List.{List, [], ◌∷◌, ◌++◌, map, append-nil, append_assoc, map-append}
use Rattle.std.specs.Prelude.{Option, None, Some, option_map}
use mathlib.Core.Path.{◌≡◌, refl, sym, ap, ◌∙◌}
use lib.ListN.{length, length-map}
use Rattle.gfa_spec.specs.Bytes.{same, nth}
use Rattle.gfa_spec.specs.Reading.{Segment}
use Rattle.gfa_spec.specs.Records.{segment_number}
use Rattle.gfa_spec.proofs.Each.{nth_map, nth_front}
use Rattle.gfa_spec.proofs.Tests.{cond_ap, by_test}
use Rattle.normalize_spec.specs.Folding.{New, taken}
use Rattle.writers.specs.declared.writer.Writer.{Writer}
use Rattle.writers.specs.Writers.{Puts}
use Rattle.writers.proofs.Writing.{as_piece}
use Rattle.work.specs.Rows.{rows_at}
use Rattle.work.proofs.Rows.{rows_nth}
use Rattle.work.proofs.RowCuts.{rows_split}
use Rattle.tables.specs.declared.tables.Bases.{Bases}
use Rattle.tables.specs.declared.tables.Counts.{Counts}
use Rattle.tables.specs.declared.entry.SegmentNo.{SegmentNo}
use Rattle.scan.specs.declared.places.Place.{Place}
use Rattle.scan.specs.Places.{bytes_in}
use Rattle.tables.specs.ByNumber.{segment_no, segments_of, NamedIs}
use Rattle.tables.proofs.ByNumber.{segments_length, segments_nth}
use Rattle.tables.proofs.Named.{named_number, named_below}
use Rattle.normalize_tables.specs.declared.layout.Layout.{Layout}
use Rattle.normalize_tables.specs.News.{new_at, news_at, names_at, place_of}
use Rattle.normalize_tables.proofs.Nodes.{names_length, names_more}
use Rattle.new_ids.specs.Ids.{NodeIs}

-- ---- places

-- the place of a segment's ID is the segment's number
pub place_number : (ss : List Segment) (x : List ℕ) → place_of (map (λ s. s.id) ss) x ≡ segment_number ss x
unfolding place_of segment_number
place_number [] x = refl
place_number (s ∷ ss) x = rw (place_number ss x)

-- a string that has a place has it in a longer list
pub place_front : (xs ys : List (List ℕ)) (x : List ℕ) (k : ℕ) → place_of xs x ≡ Some k → place_of (xs ++ ys) x ≡ Some k
unfolding place_of
place_front [] ys x k h = let z : ◌≡◌ {A = ℕ} 0 1 = cc in absurd (omega arith)
place_front (y ∷ xs) ys x k h = by_test (same y x) (λ e. rw e (rw e at h)) (λ e. rw e (go (place_of xs x) (λ j. place_front xs ys x j) (rw e at h)))
  where
    go : (o : Option ℕ) → ((j : ℕ) → o ≡ Some j → place_of (xs ++ ys) x ≡ Some j) → option_map suc o ≡ Some k → option_map suc (place_of (xs ++ ys) x) ≡ Some k
    go None f e = let z : ◌≡◌ {A = ℕ} 0 1 = cc in absurd (omega arith)
    go (Some j) f e = rw (f j refl) e

-- a string that has none has at most the last place of a list with one more
place_last : (xs : List (List ℕ)) (y x : List ℕ) → place_of xs x ≡ None → place_of (xs ++ (y ∷ [])) x ≡ cond (same y x) (Some (length xs)) None
unfolding place_of
place_last [] y x h = refl
place_last (z ∷ xs) y x h =
    by_test (same z x) (λ e. let w : ◌≡◌ {A = ℕ} 0 1 = cc (rw e at h) in absurd (omega arith))
    (λ e. rw (e, place_last xs y x (go (place_of xs x) (rw e at h)), cond_ap (option_map suc)))
  where
    go : (o : Option ℕ) → option_map suc o ≡ None → o ≡ None
    go None e = refl
    go (Some j) e = let w : ◌≡◌ {A = ℕ} 0 1 = cc in absurd (omega arith)

-- ---- the names

module _ (text work : List ℕ) (b : Bases) (n : Counts) (g : Layout) (first : ℕ) where
  -- before the first new segment they are the IDs of the text
  names_none : names_at text work b n g first 0 ≡ map (λ s. s.id) (segments_of text work b n)
  unfolding names_at taken news_at rows_at
  names_none = rw append-nil

  -- the names with more new segments
  pub names_longer : (j d : ℕ) → names_at text work b n g first (j + d) ≡ names_at text work b n g first j ++ map (λ x. x.id) (rows_at (new_at text b g first) 1 work (0 + 1 * j) d)
  unfolding names_at taken news_at
  names_longer j d = rw (rows_split (new_at text b g first) 1 work 0 j d, map-append, append_assoc)

  -- a string that has a place among the first names has it among all
  pub place_still : (j q : ℕ) (x : List ℕ) (k : ℕ) → j ≤ q → place_of (names_at text work b n g first j) x ≡ Some k → place_of (names_at text work b n g first q) x ≡ Some k
  place_still j q x k l h =
      let more : q ≡ j + (q - j) = omega arith in
      rw (more, names_longer j (q - j)) (place_front (names_at text work b n g first j) _ x k h)

-- ---- the search

-- The state at j: none of the segments and of the first j new ones has the name.
pub record Seeking (text work : List ℕ) (b : Bases) (n : Counts) (g : Layout) (first q : ℕ) (name : Place) (j : ℕ) : Type 0 where
  pub high : j ≤ q
  pub none_yet : place_of (names_at text work b n g first j) (bytes_in text name) ≡ None

module _ {text work : List ℕ} {b : Bases} {n : Counts} {g : Layout} {first q : ℕ} {name : Place} where
  pub seeking_start : segment_number (segments_of text work b n) (bytes_in text name) ≡ None → Seeking text work b n g first q name 0
  seeking_start h = record { high = omega arith; none_yet = rw (names_none text work b n g first, place_number) h }

  module _ {j : ℕ} (s : Seeking text work b n g first q name j) (l : j < q) {r : Bool} (e : r ≡ same (new_at text b g first work j).id (bytes_in text name)) where
    here : place_of (names_at text work b n g first (suc j)) (bytes_in text name) ≡ cond r (Some (n.segs + j)) None
    here = rw (names_more text work b n g first j, place_last (names_at text work b n g first j) _ _ s.none_yet, ← e, names_length text work b n g first j)

    pub seeking_hit : r ≡ true → NodeIs text work b n g first q name (Some (n.segs + j))
    seeking_hit t =
        record { answer = rw (place_still text work b n g first (suc j) q (bytes_in text name) (n.segs + j) (omega arith) (here ∙ rw t)); below = omega arith }

    pub seeking_more : r ≡ false → Seeking text work b n g first q name (j + 1)
    seeking_more t = record { high = omega arith; none_yet = rw add-one (here ∙ rw t) }

  -- a segment of the text was found
  pub seeking_segment : {r : Option SegmentNo} {k : ℕ} → NamedIs text work b n name r → r ≡ Some (record { 0 = k }) → NodeIs text work b n g first q name (Some k)
  seeking_segment {r} {k} f e =
      let number = named_number f e in
      let low = named_below f e in
      record {
        answer = rw (place_still text work b n g first 0 q (bytes_in text name) k (omega arith) (rw (names_none text work b n g first, place_number) number));
        below = omega arith;
      }

pub ruleset seeking = (seeking_start, seeking_hit, seeking_more)

-- ---- a node's ID

-- an element behind a list
nth_behind : {A : Type 0} (k : ℕ) (xs ys : List A) (d : A) → length xs ≤ k → nth k (xs ++ ys) d ≡ nth (k - length xs) ys d
unfolding nth
nth_behind k [] ys d l = let whole : k - 0 ≡ k = omega arith in rw whole
nth_behind zero (x ∷ xs) ys d l = absurd (omega arith)
nth_behind (suc k) (x ∷ xs) ys d l = let less : suc k - suc (length xs) ≡ k - length xs = omega arith in rw less (nth_behind k xs ys d (omega arith))

module _ (text work : List ℕ) (b : Bases) (n : Counts) (g : Layout) (first q k : ℕ) where
  -- of a segment of the text
  pub id_front : k < n.segs → (segment_no text work b k).id ≡ nth k (names_at text work b n g first q) []
  unfolding names_at taken
  id_front l =
      let ss = segments_of text work b n in
      let blank : Segment = record { id = []; sequence = []; line = [] } in
      let many = segments_length text work b n.segs in
      sym (nth_front k (map (λ s. s.id) ss) _ [] (rw length-map (omega arith))
      ∙ nth_map (λ s. s.id) k ss blank
      ∙ ap (λ s. s.id) (segments_nth text work b n.segs k blank l))

  -- of a new segment
  pub id_behind : n.segs ≤ k → k < n.segs + q → (new_at text b g first work (k - n.segs)).id ≡ nth k (names_at text work b n g first q) []
  unfolding names_at taken news_at
  id_behind l m =
      let ss = segments_of text work b n in
      let ns = rows_at (new_at text b g first) 1 work 0 q in
      let blank : New = record { unit = []; count = 0; id = []; sequence = [] } in
      let many : length (map (λ s. s.id) ss) ≡ n.segs = rw length-map (segments_length text work b n.segs) in
      let place : 0 + 1 * (k - n.segs) ≡ k - n.segs = omega arith in
      sym (nth_behind k (map (λ s. s.id) ss) (map (λ x. x.id) ns) [] (omega arith)
      ∙ rw many
      (nth_map (λ x. x.id) (k - n.segs) ns blank
      ∙ ap (λ x. x.id) (rows_nth (new_at text b g first) 1 work 0 q (k - n.segs) blank (omega arith) ∙ ap (new_at text b g first work) place)))

-- it was written
module _ (text work : List ℕ) (b : Bases) (n : Counts) (g : Layout) (first q k : ℕ) {w v : Writer} where
  pub front_written : {id : List ℕ} → k < n.segs → id ≡ (segment_no text work b k).id → Puts w id v → Puts w (nth k (names_at text work b n g first q) []) v
  front_written l u p = as_piece (u ∙ id_front text work b n g first q k l) p

  pub behind_written : n.segs ≤ k → k < n.segs + q → Puts w (new_at text b g first work (k - n.segs)).id v → Puts w (nth k (names_at text work b n g first q) []) v
  behind_written l m p = as_piece (id_behind text work b n g first q k l m) p
