-- The lines of a text: those that were written are read again, and where they stand. Assumes nothing.
use Prim.Native.Nat.{ℕ, ◌-◌, ◌≤◌}
use native.Mathlib.Omega.{arith}
use mathlib.Core.Bool.{Bool, true, false, cond}
use mathlib.Core.List.{List, [], ◌∷◌, ◌++◌, map}
use mathlib.Core.Path.{◌≡◌, refl, ap, sym, ◌∙◌}
use lib.Dec.{eqb}
use lib.ListN.{length, take, drop}
use lib.Seq.{take-take}
use Rattle.gfa_spec.specs.Bytes.{is_empty, ended, Part, bytes_of, split, part, last_byte, between, Each}
use Rattle.gfa_spec.specs.Reading.{drop_final, drop_return, line_of, lines}
use Rattle.gfa_spec.proofs.Tests.{cond_ap}
use Rattle.gfa_spec.proofs.Each.{Lacks, each_implies, each_map}
use Rattle.gfa_spec.proofs.Splitting.{split_between, between_ended, parts_lack, Within, split_within}

-- ---- reading what was written

-- the last string left out where it is empty
unfoldable pub drop_empty : List (List ℕ) → List (List ℕ)
drop_empty [] = []
drop_empty (x ∷ []) = cond (is_empty x) [] (x ∷ [])
drop_empty (x ∷ (y ∷ ys)) = x ∷ drop_empty (y ∷ ys)

-- the bytes of the parts but the last empty one
drop_final_bytes : (ps : List Part) → map bytes_of (drop_final ps) ≡ drop_empty (map bytes_of ps)
unfolding bytes_of drop_final drop_empty
drop_final_bytes [] = refl
drop_final_bytes (p ∷ []) = cond_ap (map bytes_of) (is_empty p.bytes) [] (p ∷ [])
drop_final_bytes (p ∷ (q ∷ ps)) = ap (λ ls. p.bytes ∷ ls) (drop_final_bytes (q ∷ ps))

-- the bytes of the parts as lines
line_of_bytes : (ps : List Part) → map bytes_of (map line_of ps) ≡ map drop_return (map bytes_of ps)
unfolding bytes_of line_of
line_of_bytes [] = refl
line_of_bytes (p ∷ ps) = ap (λ ls. drop_return p.bytes ∷ ls) (line_of_bytes ps)

-- the lines of a text, without their places
pub lines_bytes : (text : List ℕ) → map bytes_of (lines text) ≡ map drop_return (drop_empty (between 10 text))
unfolding lines
lines_bytes text = rw (line_of_bytes, drop_final_bytes, split_between)

-- one empty string behind is left out
drop_empty_behind : (ls : List (List ℕ)) → drop_empty (ls ++ ([] ∷ [])) ≡ ls
unfolding drop_empty is_empty
drop_empty_behind [] = refl
drop_empty_behind (l ∷ []) = refl
drop_empty_behind (l ∷ (m ∷ ls)) = ap (λ ns. l ∷ ns) (drop_empty_behind (m ∷ ls))

-- the string does not end in a carriage return
abbrev pub Unreturned : List ℕ → Type 0
Unreturned l = eqb (last_byte l) 13 ≡ false

-- a line that ends in no carriage return stays
drop_return_kept : (l : List ℕ) → Unreturned l → drop_return l ≡ l
unfolding last_byte drop_return
drop_return_kept [] h = refl
drop_return_kept (c ∷ []) h = rw h
drop_return_kept (c ∷ (d ∷ l)) h = ap (λ m. c ∷ m) (drop_return_kept (d ∷ l) h)

-- a string without carriage return ends in none
pub lacks_unreturned : (l : List ℕ) → Lacks 13 l → Unreturned l
unfolding last_byte
lacks_unreturned [] h = refl
lacks_unreturned (c ∷ []) h = h.0
lacks_unreturned (c ∷ (d ∷ l)) h = lacks_unreturned (d ∷ l) h.1

-- and so do all such lines
drop_returns_kept : (ls : List (List ℕ)) → Each Unreturned ls → map drop_return ls ≡ ls
drop_returns_kept [] h = refl
drop_returns_kept (l ∷ ls) h = rw (drop_return_kept l h.0, drop_returns_kept ls h.1)

-- lines that were ended are read again
pub lines_ended : (ls : List (List ℕ)) → Each (Lacks 10) ls → Each Unreturned ls → map bytes_of (lines (ended ls)) ≡ ls
lines_ended ls h k = rw (lines_bytes, between_ended ls h, drop_empty_behind, drop_returns_kept ls k)

-- ---- reading any text

-- what holds of each part holds without the last
each_drop_final : (P : Part → Type 0) (ps : List Part) → Each P ps → Each P (drop_final ps)
unfolding drop_final
each_drop_final P [] h = tt
each_drop_final P (p ∷ []) h = go (is_empty p.bytes)
  where
    go : (t : Bool) → Each P (cond t [] (p ∷ []))
    go true = tt
    go false = h
each_drop_final P (p ∷ (q ∷ ps)) h = (h.0, each_drop_final P (q ∷ ps) h.1)

-- without its carriage return a line is a front of the line
pub drop_return_front : (l : List ℕ) → (length (drop_return l) ≤ length l) × (take (length (drop_return l)) l ≡ drop_return l)
unfolding drop_return
drop_return_front [] = (omega arith, refl)
drop_return_front (b ∷ []) = go (eqb b 13)
  where
    go : (t : Bool) → (length (cond t [] (b ∷ [])) ≤ 1) × (take (length (cond t [] (b ∷ []))) (b ∷ []) ≡ cond t [] (b ∷ []))
    go true = (omega arith, refl)
    go false = (omega arith, refl)
drop_return_front (b ∷ (c ∷ l)) = let r = drop_return_front (c ∷ l) in (omega arith, ap (λ m. b ∷ m) r.1)

-- what holds of each byte holds without the last
pub each_drop_return : (P : ℕ → Type 0) (l : List ℕ) → Each P l → Each P (drop_return l)
unfolding drop_return
each_drop_return P [] h = tt
each_drop_return P (b ∷ []) h = go (eqb b 13)
  where
    go : (t : Bool) → Each P (cond t [] (b ∷ []))
    go true = tt
    go false = h
each_drop_return P (b ∷ (c ∷ l)) h = (h.0, each_drop_return P (c ∷ l) h.1)

-- a fact of each part between line feeds that goes over to the line is a fact of each line
pub lines_each : (P Q : Part → Type 0) → ((p : Part) → P p → Q (line_of p)) → (text : List ℕ) → Each P (split 10 0 text) → Each Q (lines text)
unfolding lines
lines_each P Q f text h =
    each_map Q line_of (drop_final (split 10 0 text)) (each_implies f (drop_final (split 10 0 text)) (each_drop_final P (split 10 0 text) h))

-- each line lacks the line feed
pub lines_lack : (text : List ℕ) → Each (λ p. Lacks 10 p.bytes) (lines text)
unfolding line_of
lines_lack text =
    lines_each (λ p. Lacks 10 p.bytes) (λ p. Lacks 10 p.bytes) (λ p. each_drop_return (λ c. eqb c 10 ≡ false) p.bytes) text (parts_lack 10 0 text)

-- a front of a part stands where the part stands
pub within_shorter : (at : ℕ) (s : List ℕ) (p : Part) (bs : List ℕ) → Within at s p → length bs ≤ length p.bytes → take (length bs) p.bytes ≡ bs
    → Within at s (record { at = p.at; bytes = bs })
unfolding part
within_shorter at s p bs w l e =
    let front = take-take (length bs) (length p.bytes) (drop (p.at - at) s) l in
    record { begins = w.begins; ends = omega arith; holds = sym front ∙ rw w.holds e }

-- a part as a line stands where the part stands
line_within : (text : List ℕ) (p : Part) → Within 0 text p → Within 0 text (line_of p)
unfolding line_of
line_within text p w = let r = drop_return_front p.bytes in within_shorter 0 text p (drop_return p.bytes) w r.0 r.1

-- each line's place and bytes are where they stand in the text
pub lines_within : (text : List ℕ) → Each (Within 0 text) (lines text)
lines_within text = lines_each (Within 0 text) (Within 0 text) (line_within text) text (split_within 10 0 text)
