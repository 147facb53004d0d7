-- The search for a node by its name. Assumes nothing.
use Prim.Native.Nat.{ℕ, ◌+◌, ◌≤◌, ◌<◌}
use native.Mathlib.Decide.{ℕ_discrete}
use native.Mathlib.Omega.{arith}
use mathlib.Core.Bool.{Bool, true, false}
use mathlib.Core.List.{List}
use mathlib.Core.Path.{◌≡◌, sym, ◌∙◌}
use Rattle.std.specs.Prelude.{Option, Some, None}
use Rattle.gfa_spec.specs.Bytes.{same}
use Rattle.scan.specs.declared.places.Place.{Place}
use Rattle.scan.specs.Places.{bytes_in, Inside}
use Rattle.nodes.specs.declared.nodes.NodeWords.{NodeWords}
use Rattle.nodes.specs.Table.{node_no, name_no, NamesInside, Elsewhere, NodeHas, SearchIs}

-- The state at i: none of the first i nodes has the name.
pub record Searching (text work : List ℕ) (table count : ℕ) (name : Place) (i : ℕ) : Type 0 where
  pub rows : NamesInside text work table count
  pub inside : Inside text name
  pub high : i ≤ count
  pub none_yet : Elsewhere text work table i name

module _ {text work : List ℕ} {table count : ℕ} {name : Place} where
  pub search_start : NamesInside text work table count → Inside text name → Searching text work table count name 0
  search_start r h = record { rows = r; inside = h; high = omega arith; none_yet = record { other = λ k l. absurd (omega arith) } }

  module _ {i : ℕ} (s : Searching text work table count name i) (h : i < count) {w : NodeWords} (is : w ≡ node_no work table i) where
    -- its name is a part of the text
    pub search_inside : Inside text w.name
    search_inside = rw is (s.rows.inside i h)

    module _ {r : Bool} (e : r ≡ same (bytes_in text w.name) (bytes_in text name)) where
      answer : (t : Bool) → r ≡ t → same (name_no text work table i) (bytes_in text name) ≡ t
      answer t z = rw is at (sym e ∙ z)

      pub search_hit : r ≡ true → SearchIs text work table count name (Some i)
      search_hit z = record { says = record { below = h; same_name = answer true z } }

      pub search_more : r ≡ false → Searching text work table count name (i + 1)
      search_more z = record { rows = s.rows; inside = s.inside; high = omega arith; none_yet = record { other = λ k l. go k l (ℕ_discrete k i) } }
        where
          go : (k : ℕ) → k < i + 1 → Dec (k ≡ i) → same (name_no text work table k) (bytes_in text name) ≡ false
          go k l (yes d) = rw d (answer false z)
          go k l (no d) = s.none_yet.other k (omega arith)

  pub search_end : {i : ℕ} → Searching text work table count name i → count ≤ i → SearchIs text work table count name None
  search_end s h = record { says = record { other = λ k l. s.none_yet.other k (omega (arith, s.high)) } }

-- what the search goes on by
pub ruleset finding = (search_start, search_inside, search_hit, search_more, search_end)

module _ {text work : List ℕ} {table count : ℕ} {name : Place} where
  -- what the answer to a search says
  module _ {q : Option ℕ} (f : SearchIs text work table count name q) where
    pub nowhere : q ≡ None → Elsewhere text work table count name
    nowhere g = rw g at f.says

    pub found : {k : ℕ} → q ≡ Some k → NodeHas text work table count name k
    found g = rw g at f.says
