-- The pieces of the rows of a table are the lines of what the table holds, section by section. Assumes nothing.
use Prim.Native.Nat.{ℕ, zero, suc, ◌+◌, ◌*◌, ◌<◌}
use native.Mathlib.Numerals.{add-one}
use native.Mathlib.Omega.{arith}
use mathlib.Core.Bool.{Bool, true, false, cond, not}
use mathlib.Core.List.{List, [], ◌∷◌, ◌++◌, map, append-nil}
use mathlib.Core.Path.{◌≡◌, refl, sym, ◌∙◌}
use lib.ListN.{length}
use Rattle.gfa_spec.specs.Bytes.{join, keep, end_line, ended, one, nil}
use Rattle.gfa_spec.specs.Reading.{Entry, Link, Path, choose}
use Rattle.gfa_spec.specs.Records.{collect, leading, others}
use Rattle.gfa_spec.proofs.Tests.{by_test}
use Rattle.normalize_spec.specs.Folding.{NewStep}
use Rattle.normalize_spec.specs.Writing.{segment_line, link_line, path_line, path_lines}
use Rattle.work.specs.Rows.{rows_at}
use Rattle.work.proofs.Rows.{rows_snoc}
use Rattle.writers.proofs.Joining.{ended_last}
use Rattle.writers.proofs.Rowing.{grown, table_length, pieces_same, pieces_many, pieces_lines}
use Rattle.tables.specs.declared.tables.Bases.{Bases}
use Rattle.tables.specs.declared.tables.Counts.{Counts}
use Rattle.tables.specs.Entries.{entries_at}
use Rattle.tables.specs.ByNumber.{entry_no, segment_no, link_no, path_no, segments_to, links_to, paths_to}
use Rattle.tables.proofs.ByNumber.{segments_more, links_more, paths_more, paths_length, entries_more, entries_zero, segments_zero, links_zero, paths_zero}
use Rattle.normalize_tables.specs.declared.layout.Layout.{Layout}
use Rattle.normalize_tables.specs.News.{new_at, news_at, new_paths_at, key_at, keys_at}
use Rattle.normalize_tables.specs.NewByNumber.{new_path_no, new_paths_to, ends_no}
use Rattle.normalize_tables.proofs.Nodes.{news_more}
use Rattle.normalize_tables.proofs.NewByNumber.{new_paths_more}
use Rattle.rewrite.specs.declared.lines.Class.{Class}
use Rattle.rewrite.specs.declared.lines.Class.TheVariants as class
use Rattle.rewrite.specs.Pieces.{class_lines, raw_piece, segment_piece, new_piece, kept_piece, pair_line, added_piece}
use Rattle.writers.specs.Writers.{pieces_to}
use Rattle.path_lines.specs.PathPieces.{path_piece}

-- ---- raw lines

-- what is collected is joined
collect_join : {A : Type 0} (f : Entry → List A) (es : List Entry) → collect f es ≡ join (map f es)
unfolding collect join
collect_join f [] = refl
collect_join f (e ∷ es) = rw (collect_join f es)

module _ (text work : List ℕ) (b : Bases) (n : ℕ) where
  -- the lines of a class
  class_pieces : (c : Class) → ended (collect (class_lines c) (entries_at text work b n)) ≡ pieces_to (raw_piece c text work b) n
  unfolding raw_piece
  class_pieces c = rw (collect_join (class_lines c)) (pieces_many (entries_at text work b) (entry_no text work b) (entries_zero text work b) (entries_more text work b) (class_lines c) n)

  -- headers, comments and blanks
  pub leading_pieces : ended (leading (entries_at text work b n)) ≡ pieces_to (raw_piece class.Leading text work b) n
  unfolding leading class_lines choose one nil
  leading_pieces = class_pieces class.Leading

  -- the other lines
  pub others_pieces : ended (others (entries_at text work b n)) ≡ pieces_to (raw_piece class.Other text work b) n
  unfolding others class_lines choose one nil
  others_pieces = class_pieces class.Other

  -- ---- segments, old and new

  pub segment_pieces : ended (map (λ s. s.line) (segments_to text work b n)) ≡ pieces_to (segment_piece text work b) n
  unfolding segment_piece
  segment_pieces = pieces_lines (segments_to text work b) (segment_no text work b) (segments_zero text work b) (segments_more text work b) (λ s. s.line) n

  news_zero : (g : Layout) (first : ℕ) → news_at text work b g first 0 ≡ []
  unfolding news_at rows_at
  news_zero g first = refl

  pub new_pieces : (c : Counts) (g : Layout) (first : ℕ) → ended (map segment_line (news_at text work b g first n)) ≡ pieces_to (new_piece text work b g first) n
  unfolding new_piece
  new_pieces c g first = pieces_lines (news_at text work b g first) (new_at text b g first work) (news_zero g first) (λ i. rw add-one (news_more text work b c g first i)) segment_line n

-- ---- links

-- the lines of what is kept
keep_join : {A : Type 0} (q : A → Bool) (f : A → List ℕ) (xs : List A) → map f (keep q xs) ≡ join (map (λ x. cond (q x) (f x ∷ []) []) xs)
unfolding keep join
keep_join q f [] = refl
keep_join q f (x ∷ xs) = by_test (q x) (λ e. rw (e, keep_join q f xs)) (λ e. rw (e, keep_join q f xs))

-- the line of a link that is removed or not
mark_line : (t : Bool) (l : List ℕ) → ended (cond (not t) (l ∷ []) []) ≡ cond t [] (end_line l)
unfolding ended join end_line
mark_line true l = refl
mark_line false l = append-nil (l ++ (10 ∷ []))

-- the links that are not marked
pub kept_pieces : (p : Link → Bool) (text work : List ℕ) (b : Bases) (g : Layout) (n : ℕ)
    → ((i : ℕ) → i < n → (ends_no work g i).gone ≡ p (link_no text work b i))
    → ended (map (λ l. l.line) (keep (λ l. not (p l)) (links_to text work b n))) ≡ pieces_to (kept_piece text work b g) n
unfolding kept_piece
kept_pieces p text work b g n h =
    let lines : Link → List (List ℕ) = λ l. cond (not (p l)) (l.line ∷ []) [] in
    rw (keep_join (λ l. not (p l)) (λ l. l.line))
    (pieces_many (links_to text work b) (link_no text work b) (links_zero text work b) (links_more text work b) lines n
    ∙ pieces_same (λ i. ended (lines (link_no text work b i))) (kept_piece text work b g) n (λ i l. rw (h i l) (mark_line (p (link_no text work b i)) _)))

-- the added links
module _ (names : List (List ℕ)) (work : List ℕ) (g : Layout) where
  keys_zero : keys_at names g.steps work g.added 0 ≡ []
  unfolding keys_at rows_at
  keys_zero = refl

  keys_more : (i : ℕ) → keys_at names g.steps work g.added (i + 1) ≡ keys_at names g.steps work g.added i ++ (key_at names g.steps work (g.added + i) ∷ [])
  unfolding keys_at
  keys_more i = let place : g.added + 1 * i ≡ g.added + i = omega arith in rw (add-one, rows_snoc (key_at names g.steps) 1 work g.added i, place)

  pub added_pieces : (n : ℕ) → ended (map link_line (keys_at names g.steps work g.added n)) ≡ pieces_to (added_piece names work g) n
  unfolding added_piece pair_line key_at
  added_pieces n = pieces_lines (keys_at names g.steps work g.added) (λ i. key_at names g.steps work (g.added + i)) keys_zero keys_more link_line n

-- ---- paths

-- one path more
paths_last : (ps : List Path) (new : List (List NewStep)) (p : Path) (steps : List NewStep) → length ps ≡ length new
    → path_lines (ps ++ (p ∷ [])) (new ++ (steps ∷ [])) ≡ path_lines ps new ++ (path_line p steps ∷ [])
unfolding path_lines
paths_last [] [] p steps e = refl
paths_last [] (s ∷ new) p steps e = absurd (omega arith)
paths_last (q ∷ ps) [] p steps e = absurd (omega arith)
paths_last (q ∷ ps) (s ∷ new) p steps e = rw (paths_last ps new p steps (omega arith))

-- the paths with their new steps
module _ (names : List (List ℕ)) (text work : List ℕ) (b : Bases) (g : Layout) where
  new_paths_zero : new_paths_to names work g 0 ≡ []
  unfolding new_paths_at rows_at
  new_paths_zero = refl

  pub paths_pieces : (n : ℕ) → ended (path_lines (paths_to text work b n) (new_paths_to names work g n)) ≡ pieces_to (path_piece names text work b g) n
  unfolding pieces_to
  paths_pieces zero = rw (paths_zero text work b) (unfold ended path_lines join in refl)
  paths_pieces (suc n) =
      let ps = paths_to text work b n in
      let new = new_paths_to names work g n in
      let old-more = grown (paths_to text work b) (path_no text work b) (paths_zero text work b) (paths_more text work b) n in
      let new_more = grown (new_paths_to names work g) (new_path_no names work g) new_paths_zero (new_paths_more names work g) n in
      let many : length ps ≡ length new = paths_length text work b n ∙ sym (table_length (new_paths_to names work g) (new_path_no names work g) new_paths_zero (new_paths_more names work g) n) in
      rw (old-more, new_more, paths_last ps new (path_no text work b n) (new_path_no names work g n) many, ended_last (path_lines ps new), paths_pieces n) (unfold path_piece in refl)
