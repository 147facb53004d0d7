-- The IDs of nodes, and the suffixes of new names. Document 01, "Folding", rule 5.
use Rattle.std.specs.Prelude.{ℕ, ◌+◌, ◌≤◌, ◌<◌, Bool, true, not, ◌&&◌, List, ◌≡◌, eqb, ltb, Option, IfSome}
use Rattle.gfa_spec.specs.Bytes.{same, any}
use Rattle.gfa_spec.specs.Decimal.{largest64}
use Rattle.normalize_spec.specs.Folding.{sanitized, base_name, free_name}
use Rattle.normalize_spec.specs.NewNames.{new_name}
use Rattle.tables.specs.declared.tables.Bases.{Bases}
use Rattle.tables.specs.declared.tables.Counts.{Counts}
use Rattle.scan.specs.declared.places.Place.{Place}
use Rattle.scan.specs.Places.{bytes_in}
use Rattle.tables.specs.ByNumber.{segment_no}
use Rattle.normalize_tables.specs.declared.layout.Layout.{Layout}
use Rattle.normalize_tables.specs.News.{segment_words, new_at, names_at, place_of}

-- ---- nodes

-- What a search for a name finds: the number of the first node so named, which is one of those that there are.
pub record NodeIs (text work : List ℕ) (b : Bases) (n : Counts) (g : Layout) (first q : ℕ) (name : Place) (r : Option ℕ) : Type 0 where
  pub answer : r ≡ place_of (names_at text work b n g first q) (bytes_in text name)
  pub below : IfSome r (λ k. k < n.segs + q)

-- ---- suffixes

-- has new segment j a name made of the same sanitized unit and the same run length?
unfoldable pub is_kin : List ℕ → Bases → Layout → ℕ → List ℕ → List ℕ → ℕ → ℕ → Bool
is_kin text b g first work unit count j =
    not (ltb (first + j) largest64) && (eqb (new_at text b g first work j).count count && same (sanitized (new_at text b g first work j).unit) (sanitized unit))

-- The names of a unit and a run length with suffixes below s are taken, and no new segment has such a name with suffix s or a later one.
pub record Tried (text work : List ℕ) (b : Bases) (n : Counts) (g : Layout) (first q : ℕ) (unit : List ℕ) (count s : ℕ) : Type 0 where
  pub below : (j : ℕ) → j < s → any (same (new_name unit count j)) (names_at text work b n g first q) ≡ true
  pub above : (i : ℕ) → i < q → is_kin text b g first work unit count i ≡ true → (segment_words work g i).suffix < s
  pub few : s ≤ n.segs + q

-- The first free suffix for a unit, given by its number, and a run length.
pub record SuffixIs (text work : List ℕ) (b : Bases) (n : Counts) (g : Layout) (first q unit count r : ℕ) : Type 0 where
  pub free : free_name (names_at text work b n g first q) (base_name (segment_no text work b unit).id count) ≡ new_name (segment_no text work b unit).id count r
  pub below : (s : ℕ) → s < r → any (same (new_name (segment_no text work b unit).id count s)) (names_at text work b n g first q) ≡ true
  pub above : (i : ℕ) → i < q → largest64 ≤ first + i → sanitized (new_at text b g first work i).unit ≡ sanitized (segment_no text work b unit).id
      → (new_at text b g first work i).count ≡ count → (segment_words work g i).suffix < r
  pub few : r ≤ n.segs + q
