-- Laws of joined pieces, for loops that write them in order: the first and the others, the last and those before it. Assumes nothing.
use Prim.Native.Nat.{ℕ}
use mathlib.Core.Path.{◌≡◌, refl, sym, ap}
use mathlib.Core.List.{List, [], ◌∷◌, ◌++◌, map, map-append, append-nil}
use Rattle.gfa_spec.specs.Bytes.{join, join_with, end_line, ended}
use Rattle.gfa_spec.proofs.Copies.{join_append}

-- ---- pieces

-- one more piece behind the others
pub join_last : {A : Type 0} (ps : List (List A)) (p : List A) → join (ps ++ (p ∷ [])) ≡ join ps ++ p
unfolding join
join_last ps p = rw (join_append, append-nil)

-- ---- ended lines

-- the first line and the others
pub ended_first : (l : List ℕ) (ls : List (List ℕ)) → ended (l ∷ ls) ≡ end_line l ++ ended ls
unfolding ended join
ended_first l ls = refl

-- lines behind lines
pub ended_append : (ls ms : List (List ℕ)) → ended (ls ++ ms) ≡ ended ls ++ ended ms
unfolding ended
ended_append ls ms = rw (map-append end_line ls ms) (join_append (map end_line ls) (map end_line ms))

-- one more line behind the others
pub ended_last : (ls : List (List ℕ)) (l : List ℕ) → ended (ls ++ (l ∷ [])) ≡ ended ls ++ end_line l
unfolding ended
ended_last ls l = rw (map-append end_line ls (l ∷ [])) (join_last (map end_line ls) (end_line l))

-- ---- items with a byte between each two

-- items, each with the byte in front
unfoldable pub led : ℕ → List (List ℕ) → List ℕ
led b xs = join (map (λ x. b ∷ x) xs)

-- the first item, and the others with the byte in front
pub joined_first : (b : ℕ) (x : List ℕ) (xs : List (List ℕ)) → join_with b (x ∷ xs) ≡ x ++ led b xs
unfolding join_with led join
joined_first b x [] = sym (append-nil x)
joined_first b x (y ∷ ys) = ap (λ (r : List ℕ). x ++ (b ∷ r)) (joined_first b y ys)

-- the first of the others
pub led_first : (b : ℕ) (x : List ℕ) (xs : List (List ℕ)) → led b (x ∷ xs) ≡ (b ∷ x) ++ led b xs
unfolding led join
led_first b x xs = refl

-- one more behind the others
pub led_last : (b : ℕ) (xs : List (List ℕ)) (x : List ℕ) → led b (xs ++ (x ∷ [])) ≡ led b xs ++ (b ∷ x)
unfolding led
led_last b xs x = rw (map-append (λ y. b ∷ y) xs (x ∷ [])) (join_last (map (λ y. b ∷ y) xs) (b ∷ x))
