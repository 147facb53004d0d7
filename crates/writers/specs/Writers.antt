-- What a writer leaves behind. It has a buffer, a place in it, and a limit that no place passes. It writes as much of its piece as the
-- buffer has room for below the limit, and moves on behind the whole piece, or to the limit. So nothing about sizes has to be known
-- before. On an empty buffer the same function writes nothing, and the place is the length of the piece: the length of an answer is
-- measured by the code that writes it.
use Rattle.std.specs.Prelude.{ℕ, zero, suc, ◌+◌, ◌-◌, min, ◌≡◌, List, [], ◌++◌, length, take}
use Rattle.std.proofs.lemmas.List.Edits.{sets}
use Rattle.writers.specs.declared.writer.Writer.{Writer}

-- `piece` went into `before` from place `at` on, as far as the buffer and the limit allow, which gave `after`; `next` is the place
-- behind it, or the limit
pub record Wrote (limit : ℕ) (before : List ℕ) (at : ℕ) (piece after : List ℕ) (next : ℕ) : Type 0 where
  pub bytes : after ≡ sets before at (take (limit - at) piece)
  pub place : next ≡ min (at + length piece) limit

-- A writer at the front of a buffer.
pub record Starts (out : List ℕ) (room : ℕ) (w : Writer) : Type 0 where
  pub bytes : w.out.now ≡ out
  pub front : w.at ≡ 0
  pub limit : w.limit ≡ room

-- A writer at any place of a buffer, or at the limit where the place is past it.
pub record StartsAt (out : List ℕ) (at room : ℕ) (w : Writer) : Type 0 where
  pub bytes : w.out.now ≡ out
  pub place : w.at ≡ min at room
  pub limit : w.limit ≡ room

-- It puts a piece into its buffer, at its place.
pub record Puts (before : Writer) (piece : List ℕ) (after : Writer) : Type 0 where
  pub same : after.out.ghost_name ≡ before.out.ghost_name
  pub limit : after.limit ≡ before.limit
  pub wrote : Wrote before.limit before.out.now before.at piece after.out.now after.at

-- It moves on behind n bytes, or to the limit.
pub record Skips (before : Writer) (n : ℕ) (after : Writer) : Type 0 where
  pub same : after.out.ghost_name ≡ before.out.ghost_name
  pub limit : after.limit ≡ before.limit
  pub bytes : after.out.now ≡ before.out.now
  pub place : after.at ≡ min (before.at + n) before.limit

-- the pieces of the first n rows, one behind the other
unfoldable pub pieces_to : (ℕ → List ℕ) → ℕ → List ℕ
pieces_to piece zero = []
pieces_to piece (suc n) = pieces_to piece n ++ piece n
