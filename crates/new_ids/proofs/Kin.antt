-- New segments whose names are made of one sanitized unit and one run length, and the search for the first free suffix. Assumes nothing.
use Prim.Native.Nat.{ℕ, zero, suc, ◌+◌, ◌-◌, ◌≤◌, ◌<◌}
use native.Mathlib.Omega.{arith}
use mathlib.Core.Bool.{Bool, true, false, or-true, or-false}
use Rattle.std.specs.Prelude.{Option, None, Some}
use mathlib.Core.List.{List, map, map-append}
use mathlib.Core.Path.{◌≡◌, refl, sym, ap, ◌∙◌}
use lib.Dec.{ltb, eqb}
use borrow.Author.Tests.{ltb-false, lt-ltb, le-ltb, ne_eqb, eqb-true, eq-eqb, not-true}
use borrow.Author.Count.{below_more}
use Rattle.gfa_spec.specs.Bytes.{any, same}
use Rattle.gfa_spec.specs.Decimal.{largest64}
use Rattle.gfa_spec.proofs.Parts.{by_order}
use Rattle.gfa_spec.proofs.Tests.{clash, both, refute, same_equal, equal_same, same_refl, same_sym, any_append}
use Rattle.normalize_spec.specs.Folding.{usable, sanitized, base_name, taken}
use Rattle.normalize_spec.specs.NewNames.{new_name}
use Rattle.normalize_spec.proofs.NewNames.{name_same}
use Rattle.normalize_spec.proofs.FreeNames.{some_free, first_free, number_not_name}
use Rattle.work.specs.Rows.{rows_at}
use Rattle.tables.specs.declared.tables.Bases.{Bases}
use Rattle.tables.specs.declared.tables.Counts.{Counts}
use Rattle.tables.specs.Tables.{no_rows}
use Rattle.tables.specs.Segments.{ids_of}
use Rattle.tables.specs.declared.rows.SegmentWords.{SegmentWords}
use Rattle.tables.specs.ByNumber.{segment_no, segments_to, segments_of, SegmentIs}
use Rattle.tables.specs.Names.{id_no}
use Rattle.slots.specs.RowsLeft.{RowGiven, NoneGiven}
use Rattle.slots.specs.declared.walks.SlotRows.{SlotRows}
use Rattle.tables.proofs.Finding.{Finding, find_hit, find_more, find_end}
use Rattle.tables.proofs.Numbers.{some_there, none_there}
use Rattle.scan.specs.Places.{bytes_in}
use Rattle.normalize_tables.specs.declared.layout.Layout.{Layout}
use Rattle.normalize_tables.specs.News.{segment_words, new_at, news_at, names_at, Suffixed}
use Rattle.normalize_tables.specs.declared.rows.NewSegmentWords.{NewSegmentWords}
use Rattle.normalize_tables.specs.NewByNumber.{NewSegmentIs}
use Rattle.normalize_tables.proofs.Nodes.{names_length, names_more, news_more}
use Rattle.new_ids.specs.Ids.{is_kin, Tried, SuffixIs}
use Rattle.new_ids.proofs.NewRows.{number_small, number_large, named_id, numbered_id}
use Rattle.new_ids.proofs.Finding.{names_longer}

-- a name depends on the sanitized unit only
name_kin : (u v : List ℕ) (count s : ℕ) → sanitized u ≡ sanitized v → new_name u count s ≡ new_name v count s
unfolding new_name base_name
name_kin u v count s e = rw e

-- ---- the test

module _ (text work : List ℕ) (b : Bases) (g : Layout) (first : ℕ) (unit : List ℕ) (count j : ℕ) where
  -- what it says
  pub kin_facts : is_kin text b g first work unit count j ≡ true
      → (largest64 ≤ first + j) × ((new_at text b g first work j).count ≡ count) × (sanitized (new_at text b g first work j).unit ≡ sanitized unit)
  unfolding is_kin
  kin_facts h =
      let (named, rest) = both h in
      let (times, units) = both rest in
      (ltb-false (first + j) largest64 (not-true (ltb (first + j) largest64) named), eqb-true _ _ times, same_equal _ _ units)

  pub facts_kin : largest64 ≤ first + j → (new_at text b g first work j).count ≡ count → sanitized (new_at text b g first work j).unit ≡ sanitized unit
      → is_kin text b g first work unit count j ≡ true
  unfolding is_kin
  facts_kin named times units = rw (le-ltb (first + j) largest64 named, eq-eqb _ _ times, equal_same _ _ units)

  -- a new segment that has a number is none
  pub kin_number : {o : Option ℕ} {v : ℕ} → o ≡ usable (Some (first + j)) → o ≡ Some v → false ≡ is_kin text b g first work unit count j
  unfolding is_kin
  kin_number e h = rw (lt-ltb (first + j) largest64 (number_small e h).0) refl

  -- one that has a name, and another run length, or the same
  module _ {n : Counts} {r : NewSegmentWords} {o : Option ℕ} (e : o ≡ usable (Some (first + j))) (h : o ≡ None) (x : NewSegmentIs text work b n g first j r) where
    pub kin_other : (r.count ≡ count → ⊥) → eqb r.count count ≡ is_kin text b g first work unit count j
    unfolding is_kin
    kin_other d = rw (le-ltb (first + j) largest64 (number_large e h), x.new, ne_eqb _ _ d) refl

    pub kin_same : {id : List ℕ} {q : Bool} → r.count ≡ count → id ≡ (segment_no text work b r.unit.0).id → q ≡ same (sanitized id) (sanitized unit)
        → q ≡ is_kin text b g first work unit count j
    unfolding is_kin
    kin_same d u q = q ∙ rw (le-ltb (first + j) largest64 (number_large e h), x.new, eq-eqb _ _ d, u) refl

pub ruleset kinship = (kin_number, kin_other, kin_same)

-- ---- the last of them

-- the ID of a new segment is one of the names
new_there : (text work : List ℕ) (b : Bases) (n : Counts) (g : Layout) (first q j : ℕ) → j < q → any (same (new_at text b g first work j).id) (names_at text work b n g first q) ≡ true
unfolding any
new_there text work b n g first q j l =
    let more : q ≡ suc j + (q - suc j) = omega arith in
    rw (more, names_longer text work b n g first (suc j) (q - suc j), any_append, names_more text work b n g first j, any_append, same_refl, or-true)

-- what was tried, and that there are no more taken names than names
tried : {text work : List ℕ} {b : Bases} {n : Counts} {g : Layout} {first q : ℕ} {unit : List ℕ} {count s : ℕ}
    → ((j : ℕ) → j < s → any (same (new_name unit count j)) (names_at text work b n g first q) ≡ true)
    → ((i : ℕ) → i < q → is_kin text b g first work unit count i ≡ true → (segment_words work g i).suffix < s) → Tried text work b n g first q unit count s
tried {text} {work} {b} {n} {g} {first} {q} {unit} {count} {s} below above =
    let names = names_at text work b n g first q in
    record { below = below; above = above; few = omega (arith, some_free names unit count s below, names_length text work b n g first q) }

-- The state at j: no new segment from j on is such a one.
pub record Backwards (text work : List ℕ) (b : Bases) (g : Layout) (first q : ℕ) (unit : List ℕ) (count j : ℕ) : Type 0 where
  pub high : j ≤ q
  pub none_yet : (i : ℕ) → j ≤ i → i < q → is_kin text b g first work unit count i ≡ false

module _ {text work : List ℕ} {b : Bases} {g : Layout} {first q : ℕ} {unit : List ℕ} {count : ℕ} {j : ℕ} {r : Bool} (s : Backwards text work b g first q unit count j) (l : 0 < j) (e : r ≡ is_kin text b g first work unit count (j - 1)) where
  -- the suffix behind its own
  pub backwards_hit : {n : Counts} {x : NewSegmentWords} → Suffixed text work b n g first q → r ≡ true → NewSegmentIs text work b n g first (j - 1) x
      → Tried text work b n g first q unit count (x.suffix + 1)
  backwards_hit {n} {x} f t w =
      let v = x.suffix in
      let m : v ≡ (segment_words work g (j - 1)).suffix = ap (λ x. x.suffix) w.words in
      let (named, times, units) = kin_facts text work b g first unit count (j - 1) (sym e ∙ t) in
      tried
      (λ k h.
      let kin = ap (λ c. new_name (new_at text b g first work (j - 1)).unit c k) times ∙ name_kin _ unit count k units in
      rw (← kin) (by_order v k (λ a.
      let own : k ≡ (segment_words work g (j - 1)).suffix = omega arith in
      rw (own, ← named_id text work b g first (j - 1) named) (new_there text work b n g first q (j - 1) (omega (arith, s.high))))
      (λ a. f.taken (j - 1) k (omega (arith, s.high)) named (omega arith))))
      (λ i h a.
      let (named', times', units') = kin_facts text work b g first unit count i a in
      by_order j i (λ k. clash a (s.none_yet i k h))
      (λ k. by_order (j - 1) i
      (λ k'. let last : i ≡ j - 1 = omega arith in rw last (omega arith))
      (λ k'. omega (arith, f.rising i (j - 1) k' (omega (arith, s.high)) named' (units' ∙ sym units) (times' ∙ sym times)))))

-- ---- the names of the text

module _ {text work : List ℕ} {b : Bases} {count : ℕ} {name : List ℕ} {s t : SlotRows} (f : Finding text work b count name s) where
  -- no segment has it
  pub taken_none : NoneGiven s t → false ≡ any (same name) (ids_of (segments_to text work b count))
  taken_none o = sym (none_there (segments_to text work b count) name (find_end f o))

  module _ {k : ℕ} (o : RowGiven s k t) {x : SegmentWords} (u : SegmentIs text work b k x) {r : Bool} (e : r ≡ same name (bytes_in text x.id)) where
    its_id : id_no text work b k ≡ bytes_in text x.id
    its_id = ap (λ s. s.id) u.segment

    -- this one has it
    pub taken_hit : r ≡ true → true ≡ any (same name) (ids_of (segments_to text work b count))
    taken_hit z = sym (some_there (segments_to text work b count) name (find_hit f o (its_id ∙ sym (same_equal name (bytes_in text x.id) (rw e at z)))))

    -- this one has not
    pub taken_more : r ≡ false → Finding text work b count name t
    taken_more z = find_more f o (λ q. clash (equal_same name (bytes_in text x.id) (sym q ∙ its_id)) (rw e at z))

-- ---- the first free suffix

-- none of the new segments passes a test that none of their rows does
none_new : (p : List ℕ → Bool) (text work : List ℕ) (b : Bases) (g : Layout) (first q : ℕ) → ((i : ℕ) → i < q → p (new_at text b g first work i).id ≡ false)
    → any p (map (λ x. x.id) (news_at text work b g first q)) ≡ false
unfolding any news_at rows_at
none_new p text work b g first zero h = refl
none_new p text work b g first (suc q) h =
    rw (news_more text work b no_rows g first q, map-append, any_append, none_new p text work b g first q (λ i l. h i (omega arith)), h q (omega arith))

module _ {text work : List ℕ} {b : Bases} {n : Counts} {g : Layout} {first q : ℕ} {unit : List ℕ} {count s : ℕ} (h : Tried text work b n g first q unit count s) where
  -- no new segment has the candidate
  others : (i : ℕ) → i < q → same (new_name unit count s) (new_at text b g first work i).id ≡ false
  others i l = by_order largest64 (first + i) named numbered
    where
      named : largest64 ≤ first + i → same (new_name unit count s) (new_at text b g first work i).id ≡ false
      named k =
          rw (named_id text work b g first i k)
          (refute (same (new_name unit count s) (new_name (new_at text b g first work i).unit (new_at text b g first work i).count (segment_words work g i).suffix))
          (λ e.
          let (units, times, suffixes) =
          name_same unit (new_at text b g first work i).unit count (new_at text b g first work i).count s (segment_words work g i).suffix (same_equal _ _ e) in
          omega (arith, h.above i l (facts_kin text work b g first unit count i k (sym times) (sym units)))))

      numbered : first + i < largest64 → same (new_name unit count s) (new_at text b g first work i).id ≡ false
      numbered k = rw (numbered_id text work b g first i k, same_sym) (number_not_name (first + i) unit count s)

  -- the names as those of the text and the new ones
  in_text : {r : Bool} → r ≡ any (same (new_name unit count s)) (ids_of (segments_of text work b n))
      → any (same (new_name unit count s)) (names_at text work b n g first q) ≡ r
  unfolding names_at taken ids_of
  in_text e = rw (any_append, ← e, none_new (same (new_name unit count s)) text work b g first q others) (or-false _)

  -- it is taken: the next is to be tried
  pub tried_more : {r : Bool} → r ≡ any (same (new_name unit count s)) (ids_of (segments_of text work b n)) → r ≡ true
      → Tried text work b n g first q unit count (s + 1)
  tried_more e t =
      tried (below_more (λ j. any (same (new_name unit count j)) (names_at text work b n g first q) ≡ true) s h.below (in_text e ∙ t))
      (λ i l k. omega (arith, h.above i l k))

  -- it is free
  pub tried_end : {no : ℕ} {r : Bool} → unit ≡ (segment_no text work b no).id
      → r ≡ any (same (new_name unit count s)) (ids_of (segments_of text work b n)) → r ≡ false → SuffixIs text work b n g first q no count s
  tried_end {no} u e t =
      let same-unit : (segment_no text work b no).id ≡ unit = sym u in
      record {
        free = rw same-unit (first_free (names_at text work b n g first q) unit count s h.below (in_text e ∙ t));
        below = λ j l. rw same-unit (h.below j l);
        above = λ j l named units times. h.above j l (facts_kin text work b g first unit count j named times (units ∙ ap sanitized same-unit));
        few = h.few;
      }
