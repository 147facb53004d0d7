-- Sequences: complement, orientation, length, preview. Document 01, "Complement and spelling", and the report's lines.
use Rattle.std.specs.Prelude.{ℕ, cond, ◌||◌, List, ◌++◌, map, reverse, eqb, leb, length, take}
use Rattle.gfa_spec.specs.Bytes.{bytes, same, star}

-- ---- complement

-- A and a give T, T and t give A, C and c give G, G and g give C, N and n give N, any other byte itself
unfoldable pub complement : ℕ → ℕ
complement b =
    cond (eqb b 65 || eqb b 97) 84
    (cond (eqb b 84 || eqb b 116) 65
    (cond (eqb b 67 || eqb b 99) 71
    (cond (eqb b 71 || eqb b 103) 67
    (cond (eqb b 78 || eqb b 110) 78 b))))

-- the reversed sequence, each byte complemented. Here and below `comp` gives the complement of a byte: most laws hold of any
unfoldable pub reverse_complement : (comp : ℕ → ℕ) → List ℕ → List ℕ
reverse_complement comp seq = map comp (reverse seq)

-- what a sequence spells with an orientation: with - (45) reversed and complemented
unfoldable pub oriented : (comp : ℕ → ℕ) → ℕ → List ℕ → List ℕ
oriented comp orientation seq = cond (eqb orientation 45) (reverse_complement comp seq) seq

-- ---- what the report says of a sequence

-- its length; `*` has length 0
unfoldable pub sequence_len : List ℕ → ℕ
sequence_len seq = cond (same seq star) 0 (length seq)

-- its first 48 bytes, and `...` if it is longer
unfoldable pub sequence_preview : List ℕ → List ℕ
sequence_preview seq = cond (leb (length seq) 48) seq (take 48 seq ++ bytes "...")
