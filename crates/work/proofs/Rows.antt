-- Laws of tables, whatever their rows: written once for lines, segments, links, paths and steps. Assumes nothing.
use Prim.Native.Nat.{ℕ, zero, suc, ◌+◌, ◌*◌, ◌≤◌, ◌<◌}
use native.Mathlib.Decide.{dec_lt}
use native.Mathlib.Omega.{arith}
use mathlib.Core.List.{List, [], ◌∷◌, ◌++◌}
use mathlib.Core.Logic.{◌⊎◌, inl, inr, ⊎_elim}
use mathlib.Core.Path.{◌≡◌, refl, ◌∙◌}
use lib.ListN.{length, get_or, length-append}
use lib.Seq.{sets}
use borrow.Author.Count.{below_more}
use Rattle.gfa_spec.specs.Bytes.{nth}
use Rattle.work.specs.Rows.{rows_at, EachRow, Range, span, Outside, Only}
use Rattle.work.proofs.Stores.{sets_below, sets_above}

-- ---- what changed

-- nothing changed
pub only_none : {rs : List Range} {w : List ℕ} → Only rs w w
only_none = record { word = λ i o. refl }

-- a row that was stored
pub only_put : (vs w : List ℕ) (at : ℕ) → Only (span at (at + length vs) ∷ []) w (sets w at vs)
only_put vs w at = record { word = λ i o. ⊎_elim (λ h. sets_below vs w at i h) (λ h. sets_above vs w at i h) o.0 }

-- two changes, one behind the other
pub only_then : {rs qs : List Range} {w v u : List ℕ} (ss : List Range) → Only rs w v → Only qs v u →
    ((i : ℕ) → Outside i ss → Outside i rs × Outside i qs) → Only ss w u
only_then ss k m f = record { word = λ i o. m.word i (f i o).1 ∙ k.word i (f i o).0 }

-- a change within larger ranges
pub only_wider : {rs : List Range} {w v : List ℕ} (ss : List Range) → Only rs w v → ((i : ℕ) → Outside i ss → Outside i rs) → Only ss w v
only_wider ss k f = record { word = λ i o. k.word i (f i o) }

-- a word outside a range is outside a smaller one
pub outside_less : {i a b : ℕ} (a' b' : ℕ) → (i < a) ⊎ (b ≤ i) → a ≤ a' → b' ≤ b → (i < a') ⊎ (b' ≤ i)
outside_less a' b' (inl h) p q = inl (omega arith)
outside_less a' b' (inr h) p q = inr (omega arith)

-- ---- what is kept

-- The words from lo up to hi are those of before.
pub record KeptWords (lo hi : ℕ) (before after : List ℕ) : Type 0 where
  pub word : (i : ℕ) → lo ≤ i → i < hi → get_or after i 0 ≡ get_or before i 0

-- the words from lo to hi are apart from each of the ranges
abbrev pub Apart : ℕ → ℕ → List Range → Type 0
Apart lo hi [] = Unit {0}
Apart lo hi (r ∷ rs) = ((hi ≤ r.from) ⊎ (r.to ≤ lo)) × Apart lo hi rs

apart_outside : (lo hi i : ℕ) (rs : List Range) → Apart lo hi rs → lo ≤ i → i < hi → Outside i rs
apart_outside lo hi i [] a l h = tt
apart_outside lo hi i (r ∷ rs) a l h = (⊎_elim (λ p. inl (omega arith)) (λ p. inr (omega arith)) a.0, apart_outside lo hi i rs a.1 l h)

-- words apart from what changed are kept
pub only_kept : {rs : List Range} {w w' : List ℕ} (lo hi : ℕ) → Only rs w w' → Apart lo hi rs → KeptWords lo hi w w'
only_kept {rs} lo hi k a = record { word = λ i l h. k.word i (apart_outside lo hi i rs a l h) }

-- fewer words are kept too
pub kept_within : {lo hi : ℕ} {w w' : List ℕ} (lo' hi' : ℕ) → KeptWords lo hi w w' → lo ≤ lo' → hi' ≤ hi → KeptWords lo' hi' w w'
kept_within lo' hi' k l h = record { word = λ i a b. k.word i (omega arith) (omega arith) }

-- ---- rows

module _ {A : Type 0} (row : List ℕ → ℕ → A) (width : ℕ) where
  -- one row more
  pub rows_snoc : (w : List ℕ) (base n : ℕ) → rows_at row width w base (suc n) ≡ rows_at row width w base n ++ (row w (base + width * n) ∷ [])
  unfolding rows_at
  rows_snoc w base n = refl

  -- a table has as many rows as it says
  pub rows_length : (w : List ℕ) (base n : ℕ) → length (rows_at row width w base n) ≡ n
  unfolding rows_at
  rows_length w base zero = refl
  rows_length w base (suc n) = rw (length-append, rows_length w base n) (omega arith)

  -- the rows are kept where each row is
  pub rows_kept : {w w' : List ℕ} (base n : ℕ) → ((i : ℕ) → i < n → row w' (base + width * i) ≡ row w (base + width * i)) →
      rows_at row width w' base n ≡ rows_at row width w base n
  unfolding rows_at
  rows_kept base zero k = refl
  rows_kept base (suc n) k = rw (rows_kept base n (λ i h. k i (omega arith)), k n (omega arith))

-- element k of a list with one more
nth_snoc : {A : Type 0} (k : ℕ) (xs : List A) (x d : A) → k < length xs → nth k (xs ++ (x ∷ [])) d ≡ nth k xs d
unfolding nth
nth_snoc k [] x d h = absurd (omega arith)
nth_snoc zero (y ∷ ys) x d h = refl
nth_snoc (suc k) (y ∷ ys) x d h = nth_snoc k ys x d (omega arith)

-- the element behind all others
nth_last : {A : Type 0} (k : ℕ) (xs : List A) (x d : A) → k ≡ length xs → nth k (xs ++ (x ∷ [])) d ≡ x
unfolding nth
nth_last zero [] x d h = refl
nth_last (suc k) [] x d h = absurd (omega arith)
nth_last zero (y ∷ ys) x d h = absurd (omega arith)
nth_last (suc k) (y ∷ ys) x d h = nth_last k ys x d (omega arith)

-- element k of a table is its row k
pub rows_nth : {A : Type 0} (row : List ℕ → ℕ → A) (width : ℕ) (w : List ℕ) (base n k : ℕ) (d : A) → k < n →
    nth k (rows_at row width w base n) d ≡ row w (base + width * k)
unfolding rows_at
rows_nth row width w base zero k d h = absurd (omega arith)
rows_nth row width w base (suc n) k d h = go (dec_lt k n) (λ l. rows_nth row width w base n k d l)
  where
    go : Dec (k < n) → (k < n → nth k (rows_at row width w base n) d ≡ row w (base + width * k)) → nth k (rows_at row width w base n ++ (row w (base + width * n) ∷ [])) d ≡ row w (base + width * k)
    go (yes l) r = nth_snoc k (rows_at row width w base n) (row w (base + width * n)) d (omega (arith, rows_length row width w base n)) ∙ r l
    go (no m) r =
        let e : k ≡ n = omega arith in
        nth_last k (rows_at row width w base n) (row w (base + width * n)) d (omega (arith, rows_length row width w base n)) ∙ rw e

module _ {P : List ℕ → ℕ → Type 0} {width : ℕ} {w : List ℕ} {base n : ℕ} where
  -- a fact of each row is kept where it is of each row
  pub each_kept : {w' : List ℕ} → EachRow P width w base n → ((i : ℕ) → i < n → P w (base + width * i) → P w' (base + width * i)) → EachRow P width w' base n
  each_kept e k = record { row = λ i h. k i h (e.row i h) }

  -- and goes over to one row more
  pub each_more : EachRow P width w base n → P w (base + width * n) → EachRow P width w base (suc n)
  each_more e p = record { row = λ i h. below_more (λ k. P w (base + width * k)) n e.row p i (omega arith) }

-- there is no row
pub each_none : {P : List ℕ → ℕ → Type 0} {width : ℕ} {w : List ℕ} {base : ℕ} → EachRow P width w base 0
each_none = record { row = λ i h. absurd (omega arith) }
