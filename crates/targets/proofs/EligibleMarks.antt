-- The passes that mark the eligible segments. Assumes nothing.
use Prim.Native.Nat.{ℕ, ◌+◌, ◌≤◌, ◌<◌}
use native.Mathlib.Omega.{arith}
use mathlib.Core.Bool.{Bool, true, false, ◌&&◌}
use mathlib.Core.List.{List, [], ◌∷◌}
use mathlib.Core.Path.{◌≡◌, refl, sym, ◌∙◌}
use lib.Dec.{eqb, leb}
use mir.Val.{bool_byte}
use lib.ListN.{length, get_or, set}
use borrow.Author.Tests.{eq-eqb, ne_eqb}
use Rattle.gfa_spec.specs.Bytes.{same, star, is_empty, any}
use Rattle.gfa_spec.specs.Records.{is_self_link}
use Rattle.gfa_spec.specs.Runs.{bit}
use Rattle.gfa_spec.proofs.Tests.{by_test, both, clash, refute, equal_same, same_equal, same_sym}
use Rattle.gfa_spec.proofs.Counting.{bit_set, bit_byte}
use Rattle.normalize_spec.specs.Folding.{self_linked, within, is_unit}
use Rattle.normalize_spec.proofs.Marks.{linked_snoc}
use Rattle.scan.specs.Places.{bytes_in}
use Rattle.work.specs.Rows.{span, Cleared}
use Rattle.work.proofs.Rows.{only_then}
use Rattle.tables.specs.declared.tables.Bases.{Bases}
use Rattle.tables.specs.declared.tables.Counts.{Counts}
use Rattle.tables.specs.declared.rows.SegmentWords.{SegmentWords}
use Rattle.tables.specs.declared.rows.LinkWords.{LinkWords}
use Rattle.tables.specs.ByNumber.{segment_no, link_no, links_to, link_of, SegmentIs, LinkIs}
use Rattle.tables.proofs.ByNumber.{links_more, TablesKept, segment_stands, link_stands, links_zero}
use Rattle.normalize_tables.specs.declared.layout.Layout.{Layout}
use Rattle.normalize_tables.specs.Layout.{Source}
use Rattle.normalize_tables.proofs.Sources.{source_behind}
use Rattle.tables.specs.declared.graph.Graph.{Graph}
use Rattle.targets.specs.declared.marks.Marker.{Marker}
use Rattle.targets.specs.Markers.{MarkerGraph, MarksName, MarksLink}
use Rattle.targets.proofs.Markers.{same_none, link_in}
use Rattle.targets.specs.Marking.{Markable, Adds, NameMarked, LinkMarked, UnitsKept, MarkedIs}
use Rattle.work.proofs.Filling.{Filling, filling_start, filling_ahead, filling_behind, filling_more, filling_end}
use Rattle.targets.proofs.Adding.{eligible_marks, tables_kept, tables_same, marked_by, markable_put, cleared_marks, adds_none, adds_alike, adds_then}

-- ---- self-links

-- two names are both a third exactly if they are one name, and that is the third
module _ (x y name : List ℕ) where
  other_name : same x y ≡ false → ◌≡◌ {A = Bool} false (same x name && same y name)
  other_name h =
      sym (refute (same x name && same y name)
      (λ e. (let q = both e in clash (equal_same x y (same_equal x name q.0 ∙ sym (same_equal y name q.1))) h)))

  one_name : same x y ≡ true → same name x ≡ (same x name && same y name)
  one_name h = same_sym name x ∙ rw (← same_equal x y h) (by_test (same x name) (λ e. rw e) (λ e. rw e))

module _ {text w : List ℕ} {b : Bases} {n : Counts} {marks i : ℕ} {l : LinkWords} {r : Bool} (q : LinkIs text w b i l)
    (e : r ≡ is_self_link (link_of text l)) where
  pub link_other : Markable text w b n marks → r ≡ false → LinkMarked text w w b n marks i
  unfolding is_self_link
  link_other m h = record { adds = adds_alike (adds_none m) (λ s. rw q.link (other_name (bytes_in text l.from) (bytes_in text l.to) s.id (sym e ∙ h))) }

  pub link_marked : {w' : List ℕ} → r ≡ true → NameMarked text w w' b n marks l.from → LinkMarked text w w' b n marks i
  unfolding is_self_link
  link_marked h a = record { adds = adds_alike a.adds (λ s. rw q.link (one_name (bytes_in text l.from) (bytes_in text l.to) s.id (sym e ∙ h))) }

-- what a marker makes of a link
module _ {m : Marker} {g : Graph} {i : ℕ} {l : LinkWords} {r : Bool} (o : MarkerGraph m g) (q : LinkIs g.text.now g.work.now g.b i l) (e : r ≡ is_self_link (link_of g.text.now l)) where
  pub passed_other : r ≡ false → MarksLink m i m
  passed_other h = record { same = same_none; adds = link_other (link_in o q) (rw o.text at e) m.markable h }

  pub passed_linked : {m' : Marker} → r ≡ true → MarksName m l.from m' → MarksLink m i m'
  passed_linked h a = record { same = a.same; adds = link_marked (link_in o q) (rw o.text at e) h a.adds }

-- what the marking of a link goes on by
pub ruleset passing = (passed_other, passed_linked)

-- The state at link i: the segments with a self-link among those before it are marked.
pub record Linking (text before work : List ℕ) (b : Bases) (n : Counts) (marks i : ℕ) : Type 0 where
  pub markable : Markable text before b n marks
  pub high : i ≤ n.links
  pub adds : Adds (λ s. self_linked (links_to text before b i) s.id) text before work b n marks

module _ {text before : List ℕ} {b : Bases} {n : Counts} {marks : ℕ} where
  pub linking_start : Markable text before b n marks → Linking text before before b n marks 0
  unfolding self_linked any
  linking_start m = record { markable = m; high = omega arith; adds = rw links_zero (adds_none m) }

  module _ {work : List ℕ} {i : ℕ} (s : Linking text before work b n marks i) where
    pub linking_more : {work' : List ℕ} → i < n.links → LinkMarked text work work' b n marks i → Linking text before work' b n marks (i + 1)
    linking_more h a =
        let here = link_stands s.markable.readable (tables_kept s.markable s.adds.only) i h in
        record {
          markable = s.markable;
          high = omega arith;
          adds = adds_alike (adds_then s.adds a.adds) (λ t. rw (links_more, here) (sym (linked_snoc (links_to text before b i) (link_no text before b i) t.id)));
        }

-- ---- units

empty_list : (unit : List ℕ) → length unit ≡ 0 → unit ≡ []
empty_list [] e = refl
empty_list (b ∷ unit) e = absurd (omega arith)

not_empty : (unit : List ℕ) → (length unit ≡ 0 → ⊥) → is_empty unit ≡ false
unfolding is_empty
not_empty [] h = absurd (h refl)
not_empty (b ∷ unit) h = refl

module _ (unit : List ℕ) (cap : ℕ) where
  pub unit_empty : length unit ≡ 0 → ◌≡◌ {A = Bool} false (is_unit cap unit)
  unfolding is_unit is_empty same star
  unit_empty e = rw (empty_list unit e)

  pub unit_star : {r : Bool} → r ≡ same unit star → r ≡ true → ◌≡◌ {A = Bool} false (is_unit cap unit)
  unfolding is_unit
  unit_star e h = rw (sym e ∙ h)

  module _ (some : length unit ≡ 0 → ⊥) {r : Bool} (e : r ≡ same unit star) (h : r ≡ false) where
    unit_within : within cap (length unit) ≡ is_unit cap unit
    unfolding is_unit
    unit_within = rw (sym e ∙ h, not_empty unit some)

    pub unit_free : cap ≡ 0 → eqb cap 0 ≡ is_unit cap unit
    unfolding within
    unit_free z = rw (eq-eqb cap 0 z) (rw (eq-eqb cap 0 z) at unit_within)

    pub unit_capped : (cap ≡ 0 → ⊥) → leb (length unit) cap ≡ is_unit cap unit
    unfolding within
    unit_capped z = rw (ne_eqb cap 0 z) at unit_within

pub ruleset units = (unit_empty, unit_star, unit_free, unit_capped)

-- the mark that segment i is left with
abbrev pub unit_at : ℕ → List ℕ → List ℕ → Bases → ℕ → ℕ → ℕ
unit_at cap text before b marks i = bit (eqb (get_or before (marks + i) 0) 1 && is_unit cap (segment_no text before b i).sequence)

-- The state at segment i: the marks before it are left as they stay.
pub record Leaving (cap : ℕ) (text before work : List ℕ) (b : Bases) (n : Counts) (marks i : ℕ) : Type 0 where
  pub markable : Markable text before b n marks
  pub ready : Markable text work b n marks
  pub stored : Filling (unit_at cap text before b marks) before work marks n.segs i

module _ {cap : ℕ} {text before : List ℕ} {b : Bases} {n : Counts} {marks : ℕ} where
  pub leaving_more : {work : List ℕ} {i x : ℕ} {r : SegmentWords} {t : Bool} → Leaving cap text before work b n marks i → i < n.segs → SegmentIs text work b i r
      → t ≡ (eqb (get_or work (marks + i) 0) 1 && is_unit cap (bytes_in text r.sequence)) → x ≡ bool_byte t
      → Leaving cap text before (set work (marks + i) x) b n marks (i + 1)
  leaving_more {work} {i} {x} {t = t} s h q et ex =
      let behind = s.markable.behind in
      let tables : TablesKept b n before work = record { word = λ j l u. filling_behind s.stored j (omega arith) } in
      let here = sym (segment_stands s.markable.readable tables i h) ∙ q.segment in
      record {
        markable = s.markable;
        ready = markable_put x s.ready h;
        stored = filling_more s.stored x h ((bit_byte t ex).0 ∙ rw (et, here, filling_ahead s.stored (marks + i) (omega arith)));
      }

  pub leaving_start : Markable text before b n marks → Leaving cap text before before b n marks 0
  leaving_start m = record { markable = m; ready = m; stored = filling_start m.room }

  pub leaving_end : {work : List ℕ} {i : ℕ} → Leaving cap text before work b n marks i → n.segs ≤ i → UnitsKept cap text before work b n marks
  leaving_end s h =
      let z = filling_end s.stored h in
      record {
        marked = λ p m. marked_by s.markable z.1 (λ t. p t && is_unit cap t.sequence) (λ i l. z.0 i l ∙ rw (m.mark i l, bit_set));
        long = s.stored.long;
        only = z.1;
      }

-- ---- the eligible segments

module _ {cap : ℕ} {text w v u w' x : List ℕ} {b : Bases} {n : Counts} {g : Layout} (s : Source text w b n g) (c : Cleared w v g.eligible n.segs)
    (a : Adds (λ s. self_linked (links_to text v b n.links) s.id) text v u b n g.eligible) (k : UnitsKept cap text u w' b n g.eligible) (e : x ≡ w') where
  pub eligible_marked : MarkedIs cap text w x b n g
  eligible_marked =
      let m = eligible_marks s in
      let all = span g.eligible (g.eligible + n.segs) ∷ [] in
      rw e
      (record {
        marked = rw (← (tables_same m c.only).of_links) (k.marked _ (a.marked (λ s. false) (cleared_marks m c)));
        long = k.long ∙ a.long ∙ c.long;
        only = only_then all (only_then all c.only a.only (λ i o. (o, o))) k.only (λ i o. (o, o));
      })

  -- and the tables stay
  pub eligible_source : Source text x b n g
  eligible_source = let m = eligible_marked in source_behind s (omega arith) m.only m.long
