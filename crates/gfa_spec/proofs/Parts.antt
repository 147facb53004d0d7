-- Laws of a part of a text: its length, its bytes, its first byte and the rest. Assumes nothing.
use Prim.Native.Nat.{ℕ, suc, ◌+◌, ◌-◌, ◌≤◌, ◌<◌}
use native.Mathlib.Omega.{arith}
use native.Mathlib.Numerals.{add-one}
use mathlib.Core.Path.{◌≡◌, refl, ap, ◌∙◌}
use mathlib.Core.List.{List, [], ◌∷◌}
use lib.Dec.{leb}
use lib.ListN.{length, get_or, take, drop, length-take, length-drop}
use lib.Seq.{take_all, take-take, get_or-take, get_or-drop, drop-cons}
use borrow.Author.Tests.{leb-true, leb-false}
use Rattle.gfa_spec.specs.Bytes.{part}
use Rattle.gfa_spec.proofs.Tests.{by_test}

-- one of two numbers is at most the other, or above it
pub by_order : {P : Type 0} (m n : ℕ) → (m ≤ n → P) → (n < m → P) → P
by_order m n f g = by_test (leb m n) (λ e. f (leb-true m n e)) (λ e. g (leb-false m n e))

-- a part's length
pub length_part : (from n : ℕ) (text : List ℕ) → from + n ≤ length text → length (part from n text) ≡ n
unfolding part
length_part from n text h = simp (length-take, length-drop) (omega arith)

-- a byte of a part
pub get_or_part : (from n i : ℕ) (text : List ℕ) → i < n → get_or (part from n text) i 0 ≡ get_or text (from + i) 0
unfolding part
get_or_part from n i text h = rw (get_or-take, get_or-drop)

-- the rest of a part, its next byte in front
pub part_drop : (from n i : ℕ) (text : List ℕ) → from + n ≤ length text → i < n
    → drop i (part from n text) ≡ get_or text (from + i) 0 ∷ drop (i + 1) (part from n text)
part_drop from n i text h k =
    let long = length_part from n text h in
    rw (add-one, drop-cons (part from n text) i 0 (omega arith), get_or_part from n i text k)

-- a part by its first byte
pub part_cons : (at n : ℕ) (text : List ℕ) → at < length text → part at (suc n) text ≡ get_or text at 0 ∷ part (suc at) n text
unfolding part
part_cons at n text h = rw (drop-cons text at 0 h)

pub part_first : (at n : ℕ) (text : List ℕ) → 0 < n → at + n ≤ length text → part at n text ≡ get_or text at 0 ∷ part (suc at) (n - 1) text
part_first at n text p h =
    let more : n ≡ suc (n - 1) = omega arith in
    ap (λ (k : ℕ). part at k text) more ∙ part_cons at (n - 1) text (omega arith)

-- the same, in the code's words
pub part_head : (from n : ℕ) (text : List ℕ) → from + n ≤ length text → 0 < n → part from n text ≡ get_or text from 0 ∷ part (from + 1) (n - 1) text
part_head from n text h k = rw add-one (part_first from n text k h)

-- an empty part
pub part_none : (from : ℕ) (text : List ℕ) → part from 0 text ≡ []
unfolding part
part_none from text = refl

-- the whole text as a part
pub part_whole : (text : List ℕ) → part 0 (length text) text ≡ text
unfolding part
part_whole text = take_all (length text) text (omega arith)

-- the front of a part
pub part_front : (from n m : ℕ) (text : List ℕ) → m ≤ n → take m (part from n text) ≡ part from m text
unfolding part
part_front from n m text h = take-take m n (drop from text) h
