-- Laws of sequences: reversed and complemented, read in an orientation; their preview. Assumes nothing.
use Prim.Native.Nat.{ℕ, suc, ◌+◌, ◌-◌, ◌≤◌, ◌<◌}
use native.Mathlib.Omega.{arith}
use mathlib.Core.Path.{◌≡◌, sym, ap, ◌∙◌}
use mathlib.Core.List.{List, [], ◌∷◌, ◌++◌, reverse, reverse-cons}
use lib.ListN.{length, get_or, take, length-map, length-reverse, get_or-map, get_or-append}
use lib.Seq.{get_or_at}
use borrow.Author.Tests.{eq-eqb, ne_eqb, le-leb, lt-leb}
use Rattle.gfa_spec.specs.Bytes.{bytes, part}
use Rattle.writers.specs.declared.writer.Writer.{Writer}
use Rattle.writers.specs.Writers.{Puts}
use Rattle.writers.proofs.Writing.{as_piece, ◌▷◌}
use Rattle.gfa_spec.specs.Sequences.{complement, reverse_complement, oriented, sequence_preview}
use Rattle.gfa_spec.proofs.Parts.{by_order, length_part}

-- ---- reversed and complemented

-- a byte of a reversed list
get_or_reverse : (l : List ℕ) (i j d : ℕ) → i + j + 1 ≡ length l → get_or (reverse l) i d ≡ get_or l j d
get_or_reverse [] i j d e = absurd (omega arith)
get_or_reverse (x ∷ l) i j d e = rw (reverse-cons x l) (by_order (length l) i last (earlier (get_or_reverse l i (j - 1) d)))
  where
    long : length (reverse l) ≡ length l
    long = length-reverse l

    last : length l ≤ i → get_or (reverse l ++ (x ∷ [])) i d ≡ get_or (x ∷ l) j d
    last h =
        let first : j ≡ 0 = omega arith in
        rw first (get_or_at (reverse l) x [] d i (omega (arith, long)))

    earlier : (i + (j - 1) + 1 ≡ length l → get_or (reverse l) i d ≡ get_or l (j - 1) d) → i < length l → get_or (reverse l ++ (x ∷ [])) i d ≡ get_or (x ∷ l) j d
    earlier ih h =
        let back : j ≡ suc (j - 1) = omega arith in
        rw (get_or-append (reverse l) (x ∷ []) d i (omega (arith, long)), back) (ih (omega arith))

-- it is as long as the sequence
pub length_reversed : (comp : ℕ → ℕ) (l : List ℕ) → length (reverse_complement comp l) ≡ length l
unfolding reverse_complement
length_reversed comp l = simp (length-map, length-reverse)

-- a byte of the reverse complement
pub get_or_reversed : (s : List ℕ) (i : ℕ) → i < length s → get_or (reverse_complement complement s) i 0 ≡ complement (get_or s (length s - 1 - i) 0)
unfolding reverse_complement complement
get_or_reversed s i h = get_or-map complement (reverse s) i 0 ∙ ap complement (get_or_reverse s i (length s - 1 - i) 0 (omega arith))

-- ---- read in an orientation

-- with - (45) reversed and complemented
pub oriented_back : (comp : ℕ → ℕ) (o : ℕ) (seq : List ℕ) → o ≡ 45 → oriented comp o seq ≡ reverse_complement comp seq
unfolding oriented
oriented_back comp o seq h = rw (eq-eqb o 45 h)

-- else as it is
pub oriented_on : (comp : ℕ → ℕ) (o : ℕ) (seq : List ℕ) → (o ≡ 45 → ⊥) → oriented comp o seq ≡ seq
unfolding oriented
oriented_on comp o seq h = rw (ne_eqb o 45 h)

module _ {a b : Writer} {o : ℕ} (s : List ℕ) where
  pub puts_reverse : o ≡ 45 → Puts a (reverse_complement complement s) b → Puts a (oriented complement o s) b
  puts_reverse h p = as_piece (sym (oriented_back complement o s h)) p

  pub puts_forward : (o ≡ 45 → ⊥) → Puts a s b → Puts a (oriented complement o s) b
  puts_forward h p = as_piece (sym (oriented_on complement o s h)) p

-- ---- what the report says of a sequence

-- a sequence of at most 48 bytes is shown whole
pub preview_short : (seq : List ℕ) → length seq ≤ 48 → sequence_preview seq ≡ seq
unfolding sequence_preview
preview_short seq h = rw (le-leb (length seq) 48 h)

-- so is a short part of a text
pub preview_part : (from n : ℕ) (text : List ℕ) → from + n ≤ length text → n ≤ 48 → sequence_preview (part from n text) ≡ part from n text
preview_part from n text inside short = let long = length_part from n text inside in preview_short (part from n text) (omega arith)

pub puts_short : {a b : Writer} (s : List ℕ) → length s ≤ 48 → Puts a s b → Puts a (sequence_preview s) b
puts_short s h p = rw (preview_short s h) p

-- a longer one by its front
pub puts_long : {a b c : Writer} (s : List ℕ) → 48 < length s → Puts a (take 48 s) b → Puts b (bytes "...") c → Puts a (sequence_preview s) c
unfolding sequence_preview
puts_long s h p q = rw (lt-leb (length s) 48 h) (p ▷ q)
