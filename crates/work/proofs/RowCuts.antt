-- Tables read from the front: the rows from row i on. Assumes nothing.
use Prim.Native.Nat.{ℕ, zero, suc, ◌+◌, ◌*◌, ◌-◌, ◌≤◌, ◌<◌}
use native.Mathlib.Nat.{add-zero, add-suc, mul-zero, mul-add}
use native.Mathlib.Omega.{arith}
use mathlib.Core.List.{List, [], ◌∷◌, ◌++◌, append-nil, append_assoc}
use mathlib.Core.Path.{◌≡◌}
use Rattle.work.specs.Rows.{rows_at, EachRow}

module _ {A : Type 0} (row : List ℕ → ℕ → A) (width : ℕ) (w : List ℕ) where
  -- a table is its first m rows, and those behind them
  pub rows_split : (base m n : ℕ) → rows_at row width w base (m + n) ≡ rows_at row width w base m ++ rows_at row width w (base + width * m) n
  unfolding rows_at
  rows_split base m zero = rw (append-nil, add-zero)
  rows_split base m (suc n) =
      let place : base + width * (m + n) ≡ base + width * m + width * n = rw mul-add (omega arith) in
      rw (add-suc, place, rows_split base m n, append_assoc)

  module _ (base n : ℕ) where
    -- the rows from row 0 on are all rows
    pub rows_all : rows_at row width w base n ≡ rows_at row width w (base + width * 0) (n - 0)
    rows_all =
        let place : base + width * 0 ≡ base = rw mul-zero (omega arith) in
        let left : n - 0 ≡ n = omega arith in
        rw (place, left)

    module _ (i : ℕ) where
      -- the rows from row i on are that row, and those behind it
      pub rows_cons : i < n → rows_at row width w (base + width * i) (n - i) ≡ row w (base + width * i) ∷ rows_at row width w (base + width * (i + 1)) (n - (i + 1))
      unfolding rows_at
      rows_cons h =
          let left : n - i ≡ 1 + (n - (i + 1)) = omega arith in
          let place : base + width * i + width * 1 ≡ base + width * (i + 1) = rw mul-add (omega arith) in
          let first : base + width * i + width * 0 ≡ base + width * i = rw mul-zero (omega arith) in
          rw (left, rows_split (base + width * i) 1 (n - (i + 1)), place, first)

      -- behind the last row there is none
      pub rows_none : n ≤ i → rows_at row width w (base + width * i) (n - i) ≡ []
      unfolding rows_at
      rows_none h = let left : n - i ≡ 0 = omega arith in rw left

-- what each row of a table has, each row of a part of it has
pub each_part : {P : List ℕ → ℕ → Type 0} {width : ℕ} {w : List ℕ} {base n : ℕ} (first count : ℕ) → EachRow P width w base n → first + count ≤ n
    → EachRow P width w (base + width * first) count
each_part {P} {width} {w} {base} {n} first count e h = record { row = go }
  where
    go : (i : ℕ) → i < count → P w (base + width * first + width * i)
    go i l =
        let place : base + width * first + width * i ≡ base + width * (first + i) = rw mul-add (omega arith) in
        rw place (e.row (first + i) (omega arith))
