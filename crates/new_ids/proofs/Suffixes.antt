-- The suffixes of the new names stay the first free ones when a new segment is added. Assumes nothing.
use Prim.Native.Nat.{ℕ, suc, ◌+◌, ◌≤◌, ◌<◌}
use native.Mathlib.Omega.{arith}
use mathlib.Core.Bool.{true}
use mathlib.Core.List.{List}
use mathlib.Core.Path.{◌≡◌}
use Rattle.gfa_spec.specs.Bytes.{any, same}
use Rattle.gfa_spec.specs.Decimal.{largest64}
use Rattle.gfa_spec.proofs.Parts.{by_order}
use Rattle.gfa_spec.proofs.Tests.{any_append}
use Rattle.tables.specs.declared.tables.Bases.{Bases}
use Rattle.tables.specs.declared.tables.Counts.{Counts}
use Rattle.tables.specs.ByNumber.{segment_no}
use Rattle.normalize_tables.specs.declared.layout.Layout.{Layout}
use Rattle.normalize_tables.specs.News.{segment_words, new_at, names_at, Suffixed}
use Rattle.normalize_tables.proofs.Nodes.{names_more}
use Rattle.new_ids.specs.Ids.{SuffixIs}

-- no new segment has a name
pub suffixed_number : {text work : List ℕ} {b : Bases} {n : Counts} {g : Layout} {first q : ℕ} → first + q ≤ largest64 → Suffixed text work b n g first q
suffixed_number h = record { taken = λ j s l k m. absurd (omega arith); rising = λ i j l k m. absurd (omega arith) }

-- What a new segment's row is relied on for: it stands behind the rows of the others, which are as they were.
pub record RowAdded (text work work' : List ℕ) (b : Bases) (n : Counts) (g : Layout) (first q unit count suffix : ℕ) : Type 0 where
  pub names : names_at text work' b n g first q ≡ names_at text work b n g first q
  pub rows : (j : ℕ) → j < q → new_at text b g first work' j ≡ new_at text b g first work j
  pub words : (j : ℕ) → j < q → (segment_words work' g j).suffix ≡ (segment_words work g j).suffix
  pub of_unit : (new_at text b g first work' q).unit ≡ (segment_no text work b unit).id
  pub of_count : (new_at text b g first work' q).count ≡ count
  pub of_suffix : (segment_words work' g q).suffix ≡ suffix

module _ {text work work' : List ℕ} {b : Bases} {n : Counts} {g : Layout} {first q unit count r : ℕ}
    (a : RowAdded text work work' b n g first q unit count r) where
  -- what is taken stays taken
  still_taken : (x : List ℕ) → any (same x) (names_at text work b n g first q) ≡ true → any (same x) (names_at text work' b n g first (suc q)) ≡ true
  still_taken x h = rw (names_more text work' b n g first q, any_append, a.names, h)

  -- the new segment has the first free suffix
  pub suffixed_name : Suffixed text work b n g first q → SuffixIs text work b n g first q unit count r → Suffixed text work' b n g first (suc q)
  suffixed_name s f =
      record {
        taken = λ j k l m h.
            by_order q j
            (λ o. let last : j ≡ q = omega arith in rw (last, a.of_unit, a.of_count) (still_taken _ (f.below k (omega (arith, rw last at h, a.of_suffix)))))
            (λ o. rw (a.rows j o) (still_taken _ (s.taken j k o m (omega (arith, a.words j o)))));
        rising = λ i j l m k units times.
            let low : i < q = omega arith in
            by_order q j
            (λ o.
            let last : j ≡ q = omega arith in
            rw (last, a.words i low, a.of_suffix) (f.above i low k (rw (last, a.rows i low, a.of_unit) at units) (rw (last, a.rows i low, a.of_count) at times)))
            (λ o. rw (a.words i low, a.words j o) (s.rising i j l o k (rw (a.rows i low, a.rows j o) at units) (rw (a.rows i low, a.rows j o) at times)));
      }
