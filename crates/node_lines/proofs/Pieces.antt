-- Pieces of a node's lines. Assumes nothing.
use Prim.Native.Nat.{ℕ, zero, suc, ◌/◌, ◌%◌, ◌≤◌, ◌<◌}
use native.Mathlib.Decide.{ℕ_discrete}
use native.Mathlib.Omega.{arith}
use mathlib.Core.Bool.{Bool, true, cond, ◌&&◌}
use mathlib.Core.List.{List, [], ◌∷◌, ◌++◌, map, append_assoc, append-nil}
use mathlib.Core.Path.{◌≡◌, refl, sym, ap, ◌∙◌}
use lib.Dec.{eqb}
use lib.ListN.{length}
use borrow.Author.Tests.{eq-eqb, ne_eqb}
use Rattle.std.specs.Prelude.{Option, Some, None}
use Rattle.gfa_spec.specs.Bytes.{Part, bytes, bytes_of, same, star, nth, join, join_with, end_line, ended}
use Rattle.gfa_spec.specs.Decimal.{decimal}
use Rattle.gfa_spec.specs.Reading.{Step, Kind, P, W, fields, nowhere}
use Rattle.gfa_spec.proofs.Tests.{and_left, and_right, same_equal}
use Rattle.scan.specs.declared.places.Place.{Place}
use Rattle.scan.specs.Places.{part_at, FieldIs, bytes_in}
use Rattle.scan.proofs.Fields.{found_at, few_fields}
use Rattle.tables.specs.declared.entry.SegmentNo.{SegmentNo}
use Rattle.tables.specs.declared.entry.PathNo.{PathNo}
use Rattle.tables.specs.declared.tables.Bases.{Bases}
use Rattle.tables.specs.declared.tables.Counts.{Counts}
use Rattle.tables.specs.declared.rows.PathWords.{PathWords}
use Rattle.tables.specs.declared.rows.SegmentWords.{SegmentWords}
use Rattle.tables.specs.ByNumber.{steps_from, tables_end, SegmentIs, PathIs}
use Rattle.tables.specs.Paths.{kind_in, path_fields}
use Rattle.report_spec.specs.Nodes.{path_name}
use Rattle.writers.specs.declared.writer.Writer.{Writer}
use Rattle.writers.specs.Writers.{Puts}
use Rattle.writers.proofs.Writing.{as_piece, puts_nothing, ◌▷◌}
use Rattle.gfa_spec.specs.Sequences.{sequence_preview}
use Rattle.report_spec.specs.Lines.{line, number, node_lines}
use Rattle.nodes.specs.declared.counters.Counter.{Counter}
use Rattle.nodes.specs.declared.nodes.NodeWords.{NodeWords}
use Rattle.nodes.specs.Table.{counter_no, NodeRead}
use Rattle.ranks.specs.Ranking.{order_from}
use Rattle.node_lines.specs.NodeLines.{has_pair, pairs_from, pair_piece, name_column, preview_from, path_from, node_from, node_in, Printable, RowReady}

-- ---- orientation pairs

-- the pairs of so many bits are the four pieces
pieces_of : ℕ → List ℕ
pieces_of bits = pair_piece bits 1 43 43 ++ (pair_piece bits 2 43 45 ++ (pair_piece bits 4 45 43 ++ pair_piece bits 8 45 45))

right : ℕ → Bool
right bits = same (join_with 44 (pairs_from bits)) (pieces_of bits)

below : ℕ → Bool
below zero = true
below (suc n) = right n && below n

below_at : (n k : ℕ) → below n ≡ true → k < n → right k ≡ true
unfolding below
below_at zero k e h = absurd (omega arith)
below_at (suc n) k e h = go (ℕ_discrete k n) (λ l. below_at n k (and_right (right n) (below n) e) l)
  where
    go : Dec (k ≡ n) → (k < n → right k ≡ true) → right k ≡ true
    go (yes z) r = rw z (and_left (right n) (below n) e)
    go (no z) r = r (omega arith)

computed : below 16 ≡ true
unfolding below right pieces_of same join_with pairs_from pair_piece has_pair bytes
computed = refl

pub pairs_pieces : (bits : ℕ) → bits < 16 → join_with 44 (pairs_from bits) ≡ pair_piece bits 1 43 43 ++ (pair_piece bits 2 43 45 ++ (pair_piece bits 4 45 43 ++ pair_piece bits 8 45 45))
unfolding right pieces_of
pairs_pieces bits h = same_equal (join_with 44 (pairs_from bits)) (pieces_of bits) (below_at 16 bits computed h)

-- a pair that is not there, the first, or behind another
module _ {v : Writer} (bits weight a b : ℕ) where
  pub pair_none : (bits / weight % 2 ≡ 1 → ⊥) → Puts v (pair_piece bits weight a b) v
  unfolding pair_piece has_pair
  pair_none e = rw (ne_eqb (bits / weight % 2) 1 e) puts_nothing

  pub pair_first : {w : Writer} → bits / weight % 2 ≡ 1 → bits % weight ≡ 0 → Puts v (a ∷ b ∷ []) w → Puts v (pair_piece bits weight a b) w
  unfolding pair_piece has_pair
  pair_first e f p = rw (eq-eqb (bits / weight % 2) 1 e, eq-eqb (bits % weight) 0 f) p

  pub pair_next : {w : Writer} → bits / weight % 2 ≡ 1 → (bits % weight ≡ 0 → ⊥) → Puts v (44 ∷ a ∷ b ∷ []) w → Puts v (pair_piece bits weight a b) w
  unfolding pair_piece has_pair
  pair_next e f p = rw (eq-eqb (bits / weight % 2) 1 e, ne_eqb (bits % weight) 0 f) p

-- ---- the name of a path

-- field k of a line
field_there : (fs : List Part) (k : ℕ) (more : List (List ℕ)) → k < length fs → nth k (map bytes_of fs ++ more) [] ≡ (nth k fs nowhere).bytes
unfolding nth bytes_of
field_there [] k more h = absurd (omega arith)
field_there (f ∷ fs) zero more h = refl
field_there (f ∷ fs) (suc k) more h = field_there fs k more (omega arith)

field_gone : (fs : List Part) (k : ℕ) → length fs ≤ k → nth k (map bytes_of fs) [] ≡ []
unfolding nth bytes_of
field_gone [] k h = refl
field_gone (f ∷ fs) zero h = absurd (omega arith)
field_gone (f ∷ fs) (suc k) h = field_gone fs k (omega arith)

-- the name by the kind of the path
name_of : (k : Kind) (fs : List Part) (ss : List Step) → path_name (record { kind = k; fields = path_fields k fs; steps = ss }) ≡ nth (name_column k) (path_fields k fs) []
unfolding path_name name_column
name_of P fs ss = refl
name_of W fs ss = refl

kind_there : (k : Kind) (fs : List Part) → name_column k < length fs → nth (name_column k) (path_fields k fs) [] ≡ (nth (name_column k) fs nowhere).bytes
unfolding path_fields name_column
kind_there P fs h = field_there fs 1 (cond (eqb (length fs) 3) (star ∷ []) []) h
kind_there W fs h = ap (λ l. nth 3 l []) (sym (append-nil (map bytes_of fs))) ∙ field_there fs 3 [] h

kind_gone : (k : Kind) (fs : List Part) → length fs ≤ name_column k → nth (name_column k) (path_fields k fs) [] ≡ []
unfolding path_fields name_column
kind_gone P fs h = rw (ne_eqb (length fs) 3 (λ z. omega arith), append-nil) (field_gone fs 1 h)
kind_gone W fs h = field_gone fs 3 h

-- no path, or one whose name is a field of its line, or is not there
module _ (text work : List ℕ) (b : Bases) (number : Option PathNo) where
  pub path_none : number ≡ None → [] ≡ path_from text work b number
  unfolding path_from
  path_none e = rw e

  module _ {n : Counts} {k : PathNo} {column : ℕ} {p : PathWords} {r : Option Place} (some : number ≡ Some k) (is : PathIs text work b n k.0 p)
      (c : column ≡ name_column (kind_in p.kind)) (g : FieldIs text p.line column r) where
    f : FieldIs text p.line (name_column (kind_in p.kind)) r
    f = rw c at g

    its_fields : List Part
    its_fields = fields (part_at text p.line.start p.line.size)

    named : path_from text work b number ≡ nth (name_column (kind_in p.kind)) (path_fields (kind_in p.kind) its_fields) []
    unfolding path_from its_fields
    named = rw (some, is.path) (name_of (kind_in p.kind) its_fields (steps_from text work b p.steps.first p.steps.end))

    pub path_there : {q : Place} {s : List ℕ} → r ≡ Some q → s ≡ bytes_in text q → s ≡ path_from text work b number
    unfolding its_fields part_at
    path_there e i = let h = found_at f e in i ∙ sym (named ∙ kind_there (kind_in p.kind) its_fields h.more ∙ ap (λ p. p.bytes) h.field)

    pub path_gone : r ≡ None → [] ≡ path_from text work b number
    unfolding its_fields
    path_gone e = sym (named ∙ kind_gone (kind_in p.kind) its_fields (few_fields f e).few)

-- ---- lines of a node

module _ {v w : Writer} (text work : List ℕ) (b : Bases) where
  -- the preview: of no segment, or of one
  pub preview_none : {number : Option SegmentNo} → number ≡ None → Puts v (end_line (bytes "sequence_preview" ++ (61 ∷ []))) w
      → Puts v (end_line (line (bytes "sequence_preview") (preview_from text work b number))) w
  unfolding line preview_from
  preview_none e p = rw e p

  pub preview_some : {x y : Writer} {number : Option SegmentNo} {k : SegmentNo} {s : SegmentWords} {sequence : List ℕ} → number ≡ Some k → SegmentIs text work b k.0 s → sequence ≡ bytes_in text s.sequence
      → Puts v (bytes "sequence_preview=") x → Puts x (sequence_preview sequence) y → Puts y (10 ∷ []) w
      → Puts v (end_line (line (bytes "sequence_preview") (preview_from text work b number))) w
  unfolding end_line line bytes preview_from
  preview_some e s i p q r = as_piece (rw (e, i, s.segment)) (p ▷ q ▷ r)

-- the first lines, and those of the links
pub names_written : {v w x y : Writer} {order : ℕ} {name : List ℕ} (text : List ℕ) (node : NodeWords) → name ≡ bytes_in text node.name → Puts v (end_line (bytes "node" ++ (61 ∷ name))) w
    → order ≡ order_from node.number → Puts w (end_line (bytes "order" ++ (61 ∷ decimal order))) x
    → Puts x (end_line (bytes "sequence_len" ++ (61 ∷ decimal node.long))) y
    → Puts v (ended (line (bytes "node") (bytes_in text node.name) ∷ number (bytes "order") (order_from node.number) ∷ number (bytes "sequence_len") node.long ∷ [])) y
unfolding ended join line number
names_written text node i p e q r = as_piece (rw (i, e) (simp (append_assoc, append-nil))) (p ▷ q ▷ r)

pub two_lines : {v w x : Writer} (l m : List ℕ) → Puts v (end_line l) w → Puts w (end_line m) x → Puts v (ended (l ∷ m ∷ [])) x
unfolding ended join
two_lines l m p q = as_piece (simp append-nil) (p ▷ q)

-- ---- the thirteen lines

pub thirteen : {u v w x y z : Writer} (a b c d e f g h i j k l m : List ℕ)
    → Puts u (ended (a ∷ b ∷ c ∷ [])) v
    → Puts v (end_line d) w
    → Puts w (ended (e ∷ f ∷ [])) x
    → Puts x (ended (g ∷ h ∷ i ∷ j ∷ k ∷ l ∷ [])) y
    → Puts y (end_line m) z
    → Puts u (ended (a ∷ b ∷ c ∷ d ∷ e ∷ f ∷ g ∷ h ∷ i ∷ j ∷ k ∷ l ∷ m ∷ [])) z
unfolding ended join
thirteen a b c d e f g h i j k l m p q r s t = as_piece (simp (append_assoc, append-nil)) (p ▷ q ▷ r ▷ s ▷ t)

-- the node of row k, which can be written
module _ (text : List ℕ) (b : Bases) (n : Counts) {table k : ℕ} {work : List ℕ} {w : NodeWords} {c : Counter} (e : table ≡ tables_end b n) (p : NodeRead work table k w)
    (q : c ≡ counter_no work table k) where
  pub row_ready : Printable text work b n k → RowReady text n w c
  row_ready h =
      rw (q, p.is, e)
      (record { name = h.name; segment = h.segment; bits = h.bits; path = h.path })

  pub node_written : {v v' : Writer} → Puts v (ended (node_lines (node_from text work b w c))) v' → Puts v (ended (node_lines (node_in text work b n k))) v'
  unfolding node_in
  node_written p' = rw (← e, ← p.is, ← q) p'
