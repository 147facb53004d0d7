-- The tables hold the nodes of the definitions, and the report by the tables is the definitions' report. Assumes nothing.
use Prim.Native.Nat.{ℕ, zero, suc, ◌+◌, ◌-◌, ◌<◌, min}
use native.Mathlib.Omega.{arith}
use mathlib.Core.Bool.{Bool, true, false, cond, ◌&&◌, true≢false}
use mathlib.Core.List.{List, [], ◌∷◌, ◌++◌, map, map-append}
use mathlib.Core.Logic.{inl}
use Rattle.std.specs.Prelude.{Option, unwrap_or, None, Some}
use Rattle.gfa_spec.specs.Options.{map_or}
use mathlib.Core.Path.{◌≡◌, refl, sym, ap, ◌∙◌}
use lib.Dec.{ltb}
use lib.ListN.{length, take, length-append, length-map}
use lib.Seq.{take_at, take_all}
use borrow.Author.Tests.{ltb-true, ltb-false}
use Rattle.gfa_spec.proofs.Answered.{path_some}
use Rattle.gfa_spec.specs.Bytes.{bytes, same, any, keep, join, Each}
use Rattle.gfa_spec.specs.Decimal.{largest64}
use Rattle.gfa_spec.specs.Reading.{Segment, Link, Entry}
use Rattle.gfa_spec.specs.Records.{segments, links, paths, segment_number, sequence_of, sequence_or_empty, is_self_link, self_links}
use Rattle.gfa_spec.specs.Runs.{bit, over_paths, same_node_pairs, same_step_pairs}
use Rattle.gfa_spec.specs.Sequences.{sequence_preview}
use Rattle.gfa_spec.specs.Services.{nth_path}
use Rattle.gfa_spec.proofs.Tests.{by_test, both}
use Rattle.gfa_spec.proofs.Each.{each_implies}
use Rattle.work.proofs.Rows.{only_kept, rows_length}
use Rattle.tables.specs.declared.tables.Bases.{Bases}
use Rattle.tables.specs.declared.tables.Counts.{Counts}
use Rattle.tables.specs.declared.entry.PathNo.{PathNo}
use Rattle.tables.specs.Segments.{segment_found}
use Rattle.tables.specs.Tables.{Readable}
use Rattle.tables.specs.ByNumber.{segment_no, path_no, segments_of, links_to, paths_to, tables_end}
use Rattle.tables.proofs.ByNumber.{TablesKept, readable_stands, segments_length, paths_length, segments_nth, paths_nth, segments_stand, paths_stand}
use Rattle.gfa_spec.proofs.Counting.{map_some}
use Rattle.tables.proofs.Numbers.{none_sequence, some_sequence}
use Rattle.runs.specs.Counts.{over_rows}
use Rattle.report_spec.specs.Nodes.{each_once, nodes, node_of, links_on, order_of, orientations, repeats, longest as longest_of}
use Rattle.report_spec.specs.Lines.{bucket_line, report}
use Rattle.nodes.specs.Counters.{PathBelow, named}
use Rattle.nodes.specs.Table.{counter_no, name_no, names_to, code, is_pair, bits_of, links_among}
use Rattle.tally.specs.Tabled.{Tabled}
use Rattle.ranks.specs.declared.ranking.Order.TheVariants.{Lengths, Ranks}
use Rattle.ranks.specs.Ranking.{order_from, node_key, by_links, by_rank, goes_by, word_at, nums_at, up_to}
use Rattle.report.specs.Totals.{lengths_of, ranks_of, Ranked, TotalsIs, total_lines, report_from}
use Rattle.report.specs.declared.totals.Totals.{Totals}
use Rattle.node_lines.specs.Groups.{buckets}
use Rattle.node_lines.specs.NodeLines.{has_pair, pairs_from, preview_from, path_from, node_in, listed}
use Rattle.report_spec.specs.Order.{goes_before, sort_nodes, lengths}
use Rattle.ranks.specs.Sorting.{sort_by}
use Rattle.ranks.proofs.Sorting.{sort_map}
use Rattle.ranks.proofs.Ranks.{sort_nodes_by}
use Rattle.node_lines.proofs.Lengths.{by_length, buckets_sorted}
use Rattle.ranks.proofs.Merges.{nums_split}
use Rattle.writers.proofs.Joining.{ended_append}
use Rattle.ranks.proofs.Numbering.{each_up}
use Rattle.nodes.proofs.Pairs.{each, both as both_of, of_each}

-- ---- a node, word by word

-- the segment's number
order_word : (o : Option ℕ) → order_from (segment_found o) ≡ unwrap_or o largest64
unfolding order_from
order_word None = refl
order_word (Some k) = refl

-- the orientation pairs
flagged : Bool → Bool → Bool → Bool → List (List ℕ)
flagged f g h k = cond f (bytes "++" ∷ []) [] ++ (cond g (bytes "+-" ∷ []) [] ++ (cond h (bytes "-+" ∷ []) [] ++ cond k (bytes "--" ∷ []) []))

agrees : Bool → Bool → Bool
agrees true t = t
agrees false true = false
agrees false false = true

agrees_same : (s t : Bool) → agrees s t ≡ true → s ≡ t
unfolding agrees
agrees_same true t e = sym e
agrees_same false true e = absurd (true≢false (sym e))
agrees_same false false e = refl

flags : Bool → Bool → Bool → Bool → Bool
flags f g h k = agrees (has_pair (code f g h k) 1) f && (agrees (has_pair (code f g h k) 2) g && (agrees (has_pair (code f g h k) 4) h && agrees (has_pair (code f g h k) 8) k))

flags_computed : each flags ≡ true
unfolding each both_of flags agrees has_pair code bit
flags_computed = refl

pairs_code : (f g h k : Bool) → pairs_from (code f g h k) ≡ flagged f g h k
unfolding pairs_from flagged flags
pairs_code f g h k =
    let a = of_each flags f g h k flags_computed in
    let (p, q) = both a in
    let (r, s) = both q in
    let (t, u) = both s in
    rw (agrees_same (has_pair (code f g h k) 1) f p, agrees_same (has_pair (code f g h k) 2) g r, agrees_same (has_pair (code f g h k) 4) h t, agrees_same (has_pair (code f g h k) 8) k u)

-- an element that is kept, or not, before others
kept_first : {A : Type 0} (t : Bool) (a : A) (xs : List A) → cond t (a ∷ []) [] ++ xs ≡ cond t (a ∷ xs) xs
kept_first true a xs = refl
kept_first false a xs = refl

flagged_kept : (f g h k : Bool) → flagged f g h k ≡
    (let z : List (List ℕ) = cond k (bytes "--" ∷ []) [] in
    let y : List (List ℕ) = cond h (bytes "-+" ∷ z) z in
    let x : List (List ℕ) = cond g (bytes "+-" ∷ y) y in
    cond f (bytes "++" ∷ x) x)
unfolding flagged
flagged_kept f g h k =
    let z : List (List ℕ) = cond k (bytes "--" ∷ []) [] in
    let y : List (List ℕ) = cond h (bytes "-+" ∷ z) z in
    let x : List (List ℕ) = cond g (bytes "+-" ∷ y) y in
    rw (kept_first h (bytes "-+") z, kept_first g (bytes "+-") y, kept_first f (bytes "++") x)

pairs_word : (ls : List Link) → pairs_from (bits_of ls) ≡ orientations ls
unfolding bits_of orientations keep is_pair bytes
pairs_word ls = pairs_code (any (is_pair 43 43) ls) (any (is_pair 43 45) ls) (any (is_pair 45 43) ls) (any (is_pair 45 45) ls) ∙ flagged_kept (any (is_pair 43 43) ls) (any (is_pair 43 45) ls) (any (is_pair 45 43) ls) (any (is_pair 45 45) ls)

-- a segment that is found is one of them
pub number_small : (ss : List Segment) (name : List ℕ) (k : ℕ) → segment_number ss name ≡ Some k → k < length ss
unfolding segment_number
number_small [] name k e = let z : ◌≡◌ {A = ℕ} 0 1 = cc in absurd (omega arith)
number_small (s ∷ ss) name k e =
    by_test (same s.id name)
    (λ t. let z : 0 ≡ k = cc (rw t at e) in omega arith)
    (λ t. let (j, o, z) = map_some (segment_number ss name) k (rw t at e) in omega (arith, number_small ss name j o))

-- the preview of the segment, by its number
preview_word : (text w : List ℕ) (b : Bases) (n : Counts) (name : List ℕ) (o : Option ℕ) → segment_number (segments_of text w b n) name ≡ o
    → preview_from text w b (segment_found o) ≡ sequence_preview (sequence_or_empty (segments_of text w b n) name)
unfolding preview_from sequence_or_empty
preview_word text w b n name None e = rw (none_sequence (segments_of text w b n) name e) (unfold sequence_preview in refl)
preview_word text w b n name (Some k) e =
    let ss = segments_of text w b n in
    let d = segment_no text w b 0 in
    let l : k < n.segs = omega (arith, number_small ss name k e, segments_length text w b n.segs) in
    let q : sequence_of ss name ≡ Some (segment_no text w b k).sequence = some_sequence ss name k d e ∙ ap (λ s. Some s.sequence) (segments_nth text w b n.segs k d l) in
    rw q

-- the name of a path, by its number
path_word : (text w : List ℕ) (b : Bases) (n : Counts) (number : Option PathNo) → PathBelow n.paths number → path_from text w b number ≡ named number (paths_to text w b n.paths)
unfolding path_from named map_or
path_word text w b n None h = refl
path_word text w b n (Some k) h =
    let ps = paths_to text w b n.paths in
    let d = path_no text w b 0 in
    let q : nth_path k.0 ps ≡ Some (path_no text w b k.0) = path_some k.0 ps d (omega (arith, paths_length text w b n.paths)) ∙ ap Some (paths_nth text w b n.paths k.0 d h) in
    rw q

-- ---- lists of numbers

map_each : {A B : Type 0} (f g : A → B) (xs : List A) → Each (λ a. f a ≡ g a) xs → map f xs ≡ map g xs
map_each f g [] h = refl
map_each f g (x ∷ xs) h = rw (h.0, map_each f g xs h.1)

map_map : {A B C : Type 0} (f : B → C) (g : A → B) (xs : List A) → map f (map g xs) ≡ map (λ a. f (g a)) xs
map_map f g [] = refl
map_map f g (x ∷ xs) = rw (map_map f g xs)

names_up : (text w : List ℕ) (table n : ℕ) → names_to text w table n ≡ map (name_no text w table) (up_to n)
unfolding names_to up_to
names_up text w table zero = refl
names_up text w table (suc n) = rw (names_up text w table n) (sym (map-append (name_no text w table) (up_to n) (n ∷ [])))

length_up : (n : ℕ) → length (up_to n) ≡ n
unfolding up_to
length_up zero = refl
length_up (suc n) = rw (length-append, length_up n) (omega arith)

-- the first numbers, or all of them
taken : {A : Type 0} (f : ℕ → A) (w : List ℕ) (at m top : ℕ) → map f (nums_at w at (min top m)) ≡ take top (map f (nums_at w at m))
taken f w at m top =
    let e : m ≡ min top m + (m - min top m) = omega arith in
    let xs = nums_at w at (min top m) in
    let ys = nums_at w (at + min top m) (m - min top m) in
    let s : map f (nums_at w at m) ≡ map f xs ++ map f ys = ap (λ k. map f (nums_at w at k)) e ∙ ap (map f) (nums_split w at (min top m) (m - min top m)) ∙ map-append f xs ys in
    let l : length (map f xs) ≡ min top m = length-map xs f ∙ (unfold nums_at in rows_length word_at 1 w at (min top m)) in
    by_test (ltb top m)
    (λ b.
    let h : length (map f xs) ≡ top = omega (arith, ltb-true top m b, l) in
    rw s (sym (take_at (map f xs) (map f ys) top h)))
    (λ b.
    let z : min top m ≡ m = omega (arith, ltb-false top m b) in
    let k : length (map f (nums_at w at m)) ≡ m = length-map (nums_at w at m) f ∙ (unfold nums_at in rows_length word_at 1 w at m) in
    rw z (sym (take_all top (map f (nums_at w at m)) (omega (arith, ltb-false top m b, k)))))

-- ---- all nodes

-- What the text's entries are, by its tables.
pub record EntriesAre (es : List Entry) (text w : List ℕ) (b : Bases) (n : Counts) : Type 0 where
  pub of_segments : segments es ≡ segments_of text w b n
  pub of_links : links es ≡ links_to text w b n.links
  pub of_paths : paths es ≡ paths_to text w b n.paths

module _ {es : List Entry} {text w w' : List ℕ} {b : Bases} {n : Counts} {m : ℕ} (x : EntriesAre es text w b n) (l : Tabled text w b n) (r : Ranked text w w' b n m) where
  keeps_tables : TablesKept b n w w'
  keeps_tables = only_kept b.lines (tables_end b n) r.only (inl (omega arith), tt)

  pub ranked_readable : Readable text w' b n
  ranked_readable = readable_stands l.readable keeps_tables r.long

  module _ (i : ℕ) (h : i < m) where
    node_row : node_in text w' b n i ≡ node_of es (name_no text w' (tables_end b n) i)
    unfolding node_in node_of order_of links_on links_among
    node_row =
        let name = name_no text w' (tables_end b n) i in
        let first = (counter_no w' (tables_end b n) i).first in
        let q = r.table.rows i h in
        let c = r.counts.row i h in
        let ss = segments_of text w b n in
        let ls = links_to text w b n.links in
        let ps = paths_to text w b n.paths in
        let before = preview_word text w' b n name (segment_number (segments_of text w' b n) name) refl in
        let preview : preview_from text w' b (segment_found (segment_number ss name)) ≡ sequence_preview (sequence_or_empty ss name) = rw (segments_stand l.readable keeps_tables) at before in
        let path : path_from text w' b first ≡ named first ps = rw (paths_stand l.readable keeps_tables) at (path_word text w' b n first (rw paths_length at c.known)) in
        rw (
          x.of_segments,
          x.of_links,
          x.of_paths,
          path,
          c.first,
          q.number,
          order_word (segment_number ss name),
          preview,
          q.long,
          q.links,
          q.bits,
          pairs_word (links_among ls name),
          c.visits,
          c.paths,
          c.adjacent,
          c.equal,
          c.runs,
          c.longest,
        )

  -- The rows are the definitions' nodes.
  node_list : map (node_in text w' b n) (up_to m) ≡ map (node_of es) (nodes es)
  unfolding nodes
  node_list =
      map_each (node_in text w' b n) (λ i. node_of es (name_no text w' (tables_end b n) i)) (up_to m) (each_implies (λ i h. node_row i h) (up_to m) (each_up m))
      ∙ sym (map_map (node_of es) (name_no text w' (tables_end b n)) (up_to m))
      ∙ ap (map (node_of es)) names
    where
      names : map (name_no text w' (tables_end b n)) (up_to m) ≡ each_once [] (map (λ l. l.from) (keep is_self_link (links es)))
      names = rw x.of_links (sym (names_up text w' (tables_end b n) m) ∙ r.table.names)

  -- in the two orders
  pub listed_by_length : listed text w' b n (lengths_of b n) m ≡ sort_by by_length (map (node_of es) (nodes es))
  unfolding listed
  listed_by_length = ap (map (node_in text w' b n)) r.by_length ∙ lengths_keys ∙ ap (sort_by by_length) node_list
    where
      lengths_keys : map (node_in text w' b n) (sort_by (λ i j. goes_by Lengths (node_key w' (tables_end b n) i) (node_key w' (tables_end b n) j)) (up_to m)) ≡ sort_by by_length (map (node_in text w' b n) (up_to m))
      lengths_keys = unfold by_length goes_by node_key node_in in sym (sort_map (node_in text w' b n) by_length (up_to m))

  listed_by_rank : listed text w' b n (ranks_of b n) m ≡ sort_nodes (map (node_of es) (nodes es))
  unfolding listed
  listed_by_rank = ap (map (node_in text w' b n)) r.by_rank ∙ ranks_keys ∙ ap (sort_by goes_before) node_list ∙ sym (sort_nodes_by (map (node_of es) (nodes es)))
    where
      ranks_keys : map (node_in text w' b n) (sort_by (λ i j. goes_by Ranks (node_key w' (tables_end b n) i) (node_key w' (tables_end b n) j)) (up_to m)) ≡ sort_by goes_before (map (node_in text w' b n) (up_to m))
      ranks_keys = unfold goes_before goes_by by_rank by_links node_key node_in in sym (sort_map (node_in text w' b n) goes_before (up_to m))

  -- there are m of them
  how_many : length (map (node_of es) (nodes es)) ≡ m
  how_many = ap length (sym node_list) ∙ length-map (up_to m) (node_in text w' b n) ∙ length_up m

  -- the first `top` of them
  first_ranks : (top : ℕ) → listed text w' b n (ranks_of b n) (min top m) ≡ take top (sort_nodes (map (node_of es) (nodes es)))
  first_ranks top = cut ∙ ap (take top) listed_by_rank
    where
      cut : listed text w' b n (ranks_of b n) (min top m) ≡ take top (listed text w' b n (ranks_of b n) m)
      cut = unfold listed in taken (node_in text w' b n) w' (ranks_of b n) m top

  -- The report by the tables is the definitions' report.
  pub report_is : {t : Totals} (top : ℕ) → TotalsIs text w b n t → report_from text w' b n m t top ≡ report es top
  unfolding report_from report
  report_is {t} top q =
      let ns = map (node_of es) (nodes es) in
      let a : t.links ≡ self_links es = unfold self_links in rw x.of_links q.links in
      let c : t.nodes ≡ same_node_pairs es = unfold same_node_pairs over_paths in rw x.of_paths (unfold over_rows in q.nodes) in
      let d : t.steps ≡ same_step_pairs es = unfold same_step_pairs over_paths in rw x.of_paths (unfold over_rows in q.steps) in
      let e : t.runs ≡ length (join (map repeats (paths es))) = rw x.of_paths q.runs in
      let f : t.longest ≡ longest_of (join (map repeats (paths es))) = rw x.of_paths q.longest in
      let g : buckets (listed text w' b n (lengths_of b n) m) ≡ map (bucket_line ns) (lengths ns) = ap buckets listed_by_length ∙ buckets_sorted ns ∙ (unfold buckets in refl) in
      rw (ended_append, ended_append, how_many, ← a, ← c, ← d, ← e, ← f, ← g, first_ranks top) (unfold total_lines in refl)
