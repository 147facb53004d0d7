-- The 32-bit sum of a name. Document 02, R-6.
use Rattle.std.specs.Prelude.{ℕ, ◌+◌, ◌*◌, ◌%◌, List, [], ◌∷◌}

-- with one byte more: 33 times itself plus the byte, run over at 2^32
unfoldable pub stepped : ℕ → ℕ → ℕ
stepped h b = (33 * h + b) % 4294967296

-- with all bytes of a string more
unfoldable pub sum_from : ℕ → List ℕ → ℕ
sum_from h [] = h
sum_from h (b ∷ bs) = sum_from (stepped h b) bs

-- the sum of a name, which starts at 5381
unfoldable pub name_sum : List ℕ → ℕ
name_sum s = sum_from 5381 s

-- the sum that never runs over
unfoldable pub exact_from : ℕ → List ℕ → ℕ
exact_from h [] = h
exact_from h (b ∷ bs) = exact_from (33 * h + b) bs
