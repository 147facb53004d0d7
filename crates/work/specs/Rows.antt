-- Tables in the work area: rows of words, and which words a function leaves as they were.
use Rattle.std.specs.Prelude.{ℕ, zero, suc, ◌+◌, ◌*◌, ◌≤◌, ◌<◌, List, [], ◌∷◌, ◌++◌, ◌⊎◌, ◌≡◌, length, get_or}
use Rattle.std.specs.Prelude.{Option, None, Some}

-- ---- rows

-- the first n rows of a table at `base`: rows of this width, each read by `row` at its first word
unfoldable pub rows_at : {A : Type 0} → (List ℕ → ℕ → A) → ℕ → List ℕ → ℕ → ℕ → List A
rows_at row width work base zero = []
rows_at row width work base (suc n) = rows_at row width work base n ++ (row work (base + width * n) ∷ [])

-- Each of the first n rows of a table at `base` has P.
pub record EachRow (P : List ℕ → ℕ → Type 0) (width : ℕ) (work : List ℕ) (base n : ℕ) : Type 0 where
  pub row : (i : ℕ) → i < n → P work (base + width * i)

-- each word fits into the work area's 32 bits: asked of the words of a row, each time of others
abbrev pub Small : List ℕ → Type 0
Small [] = Unit {0}
Small (v ∷ vs) = (v < 4294967296) × Small vs

-- the word for a number that may be missing: the number plus one, or 0 for none
unfoldable pub word_of : Option ℕ → ℕ
word_of None = 0
word_of (Some k) = suc k

-- the number that a word stands for: the word less one, or none for 0
unfoldable pub number_in : ℕ → Option ℕ
number_in zero = None
number_in (suc k) = Some k

-- ---- what is kept

-- A range of words: from the first up to, not including, the last.
pub record Range : Type 0 where
  pub from : ℕ
  pub to : ℕ

-- the words from a up to b
abbrev pub span : ℕ → ℕ → Range
span a b = record { from = a; to = b }

-- the word i is in none of the ranges
abbrev pub Outside : ℕ → List Range → Type 0
Outside i [] = Unit {0}
Outside i (r ∷ rs) = ((i < r.from) ⊎ (r.to ≤ i)) × Outside i rs

-- Only words in these ranges changed.
pub record Only (rs : List Range) (before after : List ℕ) : Type 0 where
  pub word : (i : ℕ) → Outside i rs → get_or after i 0 ≡ get_or before i 0

-- The words from `at` on, so many, are 0; only they have changed.
pub record Cleared (before after : List ℕ) (at count : ℕ) : Type 0 where
  pub zeros : (i : ℕ) → i < count → get_or after (at + i) 0 ≡ 0
  pub long : length after ≡ length before
  pub only : Only (span at (at + count) ∷ []) before after
