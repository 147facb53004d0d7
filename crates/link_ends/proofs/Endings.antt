-- The words of the links' ends. Assumes nothing.
use Prim.Native.Nat.{ℕ, ◌+◌, ◌≤◌, ◌<◌}
use native.Mathlib.Omega.{arith}
use mathlib.Core.Bool.{Bool, true, false, not, and-false}
use mathlib.Core.List.{List, [], ◌∷◌, ◌++◌, map}
use mathlib.Core.Logic.{inl}
use Rattle.std.proofs.Common.{Option, Some, None}
use mathlib.Core.Path.{◌≡◌, refl, sym, ap, ◌∙◌}
use lib.Dec.{eqb}
use lib.ListN.{length, get_or}
use borrow.Author.Tests.{not-true, not-false}
use borrow.Author.Count.{below_more}
use Rattle.gfa_spec.specs.Bytes.{count, keep, distinct}
use Rattle.gfa_spec.specs.Reading.{Segment, Link}
use Rattle.gfa_spec.specs.Records.{is_self_link}
use Rattle.gfa_spec.specs.Runs.{bit}
use Rattle.gfa_spec.proofs.Tests.{by_test, any_keep}
use Rattle.gfa_spec.proofs.Counting.{bit_set, bit_small, bit_byte, count_one, count_append}
use Rattle.normalize_spec.specs.Folding.{taken}
use Rattle.normalize_spec.specs.Links.{is_removed}
use Rattle.scan.specs.Places.{bytes_in}
use Rattle.work.specs.Rows.{Only, word_of}
use Rattle.work.proofs.Rows.{KeptWords, only_none, only_kept}
use Rattle.tables.specs.declared.tables.Bases.{Bases}
use Rattle.tables.specs.declared.tables.Counts.{Counts}
use Rattle.tables.specs.Segments.{ids_of}
use Rattle.scan.specs.declared.places.Place.{Place}
use Rattle.scan.proofs.Orientations.{eq_signs}
use Rattle.scan.specs.contracts.orientation.Orientation.{the_type}
use denote.Enum.Bare.{sameb}
use Rattle.tables.specs.declared.rows.LinkWords.{LinkWords}
use Rattle.tables.specs.ByNumber.{link_no, segments_of, links_to, LinkIs, link_of}
use Rattle.tables.proofs.ByNumber.{links_more, link_stands, segments_length, links_zero}
use Rattle.normalize_tables.specs.declared.layout.Layout.{Layout}
use Rattle.normalize_tables.specs.declared.layout.Made.{Made}
use Rattle.normalize_tables.specs.Layout.{Source}
use Rattle.normalize_tables.specs.Marks.{Marked}
use Rattle.normalize_tables.specs.News.{first_of, news_at, names_at, place_of}
use Rattle.normalize_tables.proofs.Sources.{marked_stands, standing}
use Rattle.normalize_tables.proofs.Numbered.{passes_named, passes_none}
use Rattle.normalize_tables.proofs.NewByNumber.{ends_joined, ends_stand}
use Rattle.normalize_tables.proofs.NewsStand.{new_rows_kept, paths_kept, source_kept, names_kept, front_kept}
use Rattle.new_ids.specs.Ids.{NodeIs}
use Rattle.normalize_tables.specs.declared.rows.Ends.{Ends}
use Rattle.normalize_tables.specs.NewByNumber.{ends_no, EndsPut, ends_span}
use Rattle.normalize_tables.specs.Rewritten.{NewRows}
use Rattle.link_ends.specs.LinkEnds.{Relinkable, GoneIs, EndsIs, EndsRow, EndsSettled, AllEnds}
use Rattle.link_ends.proofs.Places.{place_other, place_segment}
use Rattle.work.proofs.Words.{word_below}
use Rattle.gfa_spec.proofs.Options.{None-ne-Some}
use mir.Val.{bool_byte}

-- ---- a node

-- its word is small
pub node_small : {text w : List ℕ} {b : Bases} {n : Counts} {g : Layout} {first q : ℕ} {name : Place} {r : Option ℕ} → NodeIs text w b n g first q name r → word_of r ≤ n.segs + q
node_small {n = n} {q = q} {r = r} f = word_below r (n.segs + q) (λ k e. rw e at f.below)

-- ---- a link that is removed

-- What is to be shown of a link: whether it is removed, where the marks and the number of its first node are as they are said.
abbrev Goes : List ℕ → List ℕ → Bases → Counts → Layout → LinkWords → Option ℕ → Bool → Type 0
Goes text w b n g l from r = (p : Segment → Bool) (more : List (List ℕ)) → Marked p text w b n g.folded → from ≡ place_of (ids_of (segments_of text w b n) ++ more) (bytes_in text l.from)
    → is_removed (keep p (segments_of text w b n)) (link_of text l) ≡ r

module _ {text w : List ℕ} {b : Bases} {n : Counts} {g : Layout} (l : LinkWords) (from : Option ℕ) where
  stays : Goes text w b n g l from false → GoneIs text w b n g l from false
  unfolding bit
  stays h = record { answer = λ p more k f. sym (h p more k f); few = omega arith }

  module _ {self : Bool} (q : self ≡ is_self_link (link_of text l)) where
    pub gone_other : self ≡ false → GoneIs text w b n g l from self
    unfolding is_removed
    gone_other e = rw e (stays (λ p more k f. rw (sym q ∙ e)))

  module _ {turned : Bool} (d : turned ≡ not (sameb the_type l.leaves l.enters)) where
    pub gone_turned : turned ≡ true → GoneIs text w b n g l from false
    unfolding is_removed
    gone_turned h = stays (λ p more k f. rw (sym (eq_signs l.leaves l.enters) ∙ not-true _ (sym d ∙ h)) (by_test (is_self_link (link_of text l)) (λ e. rw e) (λ e. rw e)))

  module _ (apart : distinct (ids_of (segments_of text w b n)) ≡ true) where
    -- the first node is no segment of the text
    unknown : ((k : ℕ) → from ≡ Some k → n.segs ≤ k) → GoneIs text w b n g l from false
    unfolding is_removed
    unknown z =
        stays (λ p more k f.
        (let none_so = place_other (segments_of text w b n) more (bytes_in text l.from) (λ j e. rw segments_length (z j (f ∙ e))) in
        rw (any_keep, passes_none text w b n apart (bytes_in text l.from) p none_so) (simp and-false)))

    pub gone_unknown : from ≡ None → GoneIs text w b n g l from false
    gone_unknown e = unknown (λ k f. absurd (None-ne-Some k (sym e ∙ f)))

    module _ {k : ℕ} (e : from ≡ Some k) where
      pub gone_new : n.segs ≤ k → GoneIs text w b n g l from false
      gone_new h = unknown (λ j f. let one : j ≡ k = cc in omega arith)

      -- the mark decides
      module _ (low : k < n.segs) {self turned marked : Bool} (q : self ≡ is_self_link (link_of text l)) (t : self ≡ true) (d : turned ≡ not (sameb the_type l.leaves l.enters)) (h : turned ≡ false)
          (m : marked ≡ eqb (get_or w (g.folded + k) 0) 1) where
        pub gone_marked : GoneIs text w b n g l from marked
        unfolding is_removed
        gone_marked = record { answer = λ p more x f. sym (by_mark p more x f); few = rw (sym q ∙ t) (unfold bit in bit_small marked) }
          where
            by_mark : Goes text w b n g l from marked
            by_mark p more x f =
                let number = place_segment (segments_of text w b n) more (bytes_in text l.from) k (sym f ∙ e) (rw segments_length low) in
                rw (sym q ∙ t, sym (eq_signs l.leaves l.enters) ∙ not-false _ (sym d ∙ h), any_keep)
                (passes_named text w b n apart (bytes_in text l.from) p k number low ∙ rw (m, x.mark k low, bit_set))

-- the ends, by the searches for their nodes
pub ends_are : {text w : List ℕ} {b : Bases} {n : Counts} {g : Layout} {m : Made} {l : LinkWords} {from to : Option ℕ} {gone : Bool} → Source text w b n g → NewRows w n g m
    → NodeIs text w b n g (first_of m.first) m.segs l.from from → NodeIs text w b n g (first_of m.first) m.segs l.to to → GoneIs text w b n g l from gone
    → EndsIs text w b n g m l (record { from = from; to = to; gone = gone })
ends_are s rows f t d =
    let few = s.readable.few in
    let room = s.placed.room in
    record { from = f; to = t; gone = d; small = (omega (arith, node_small f), omega (arith, node_small t)); room = omega arith }

-- ---- what is kept

module _ {text w w' : List ℕ} {b : Bases} {n : Counts} {g : Layout} (k : KeptWords 0 g.added w w') where
  pub relinkable_stands : {m : Made} → length w' ≡ length w → Relinkable text w b n g m → Relinkable text w' b n g m
  relinkable_stands e s =
      record {
        source = source_kept s.source k e;
        rows = new_rows_kept s.source.placed k s.rows;
        apart = rw (names_kept s.source k s.rows) s.apart;
        steps = rw (names_kept s.source k s.rows, paths_kept s.source.placed k s.rows) s.steps;
      }

  pub marks_stand : {p : Segment → Bool} → Source text w b n g → Marked p text w b n g.folded → Marked p text w' b n g.folded
  marks_stand s q = let d = s.placed in marked_stands g.folded s k (omega arith) (omega arith) q

-- the row of link i, where it and the link are kept
pub ends_kept : {text : List ℕ} {names : List (List ℕ)} {fs : List Segment} {w w' : List ℕ} {b : Bases} {g : Layout} {i : ℕ} → ends_no w' g i ≡ ends_no w g i
    → link_no text w' b i ≡ link_no text w b i → EndsRow text names fs w b g i → EndsRow text names fs w' b g i
ends_kept k l r =
    record { from = ap (λ e. e.from) k ∙ r.from ∙ rw l; to = ap (λ e. e.to) k ∙ r.to ∙ rw l; gone = ap (λ e. e.gone) k ∙ r.gone ∙ rw l }

-- ---- a link

module _ {text w w' : List ℕ} {b : Bases} {n : Counts} {g : Layout} {m : Made} {i : ℕ} {l : LinkWords} {r : Ends} (s : Relinkable text w b n g m × (i < n.links))
    (here : LinkIs text w b i l) (q : EndsIs text w b n g m l r) (put : EndsPut w w' g i r) where
  put_kept : KeptWords 0 g.added w w'
  put_kept = let p = s.0.source.placed in only_kept 0 g.added put.only (inl (omega arith), tt)

  -- the link is as it was
  link_same : link_no text w' b i ≡ link_of text l
  link_same = link_stands s.0.source.readable (front_kept s.0.source put_kept) i s.1 ∙ here.link

  settled_row : (p : Segment → Bool) → Marked p text w b n g.folded → EndsRow text (names_at text w b n g (first_of m.first) m.segs) (keep p (segments_of text w b n)) w' b g i
  settled_row p k =
      let news = map (λ x. x.id) (news_at text w b g (first_of m.first) m.segs) in
      record {
        from = rw link_same (ap (λ e. e.from) put.words ∙ q.from.answer);
        to = rw link_same (ap (λ e. e.to) put.words ∙ q.to.answer);
        gone = rw link_same (ap (λ e. e.gone) put.words ∙ q.gone.answer p news k (q.from.answer ∙ (unfold names_at taken ids_of in refl)));
      }

  pub ends_settled : EndsSettled text w w' b n g m i r.gone
  ends_settled =
      record {
        ready = relinkable_stands put_kept put.long s.0;
        row = settled_row;
        answer = sym (ap (λ e. e.gone) put.words);
        few = rw here.link q.gone.few;
        long = put.long;
        only = put.only;
      }

-- ---- all links

-- one link more
count_more : (t : Link → Bool) (text w : List ℕ) (b : Bases) (i : ℕ) → count t (links_to text w b (i + 1)) ≡ count t (links_to text w b i) + bit (t (link_no text w b i))
count_more t text w b i = rw (links_more, count_append, count_one)

-- The state at link i: the words of those before it are put.
pub record Ending (text before work : List ℕ) (b : Bases) (n : Counts) (g : Layout) (m : Made) (removed i : ℕ) : Type 0 where
  pub relinkable : Relinkable text before b n g m
  pub ready : Relinkable text work b n g m
  pub high : i ≤ n.links
  pub rows : (p : Segment → Bool) → Marked p text before b n g.folded → (j : ℕ) → j < i
      → EndsRow text (names_at text before b n g (first_of m.first) m.segs) (keep p (segments_of text before b n)) work b g j
  pub counted : (p : Segment → Bool) → Marked p text before b n g.folded
      → removed ≡ count (is_removed (keep p (segments_of text before b n))) (links_to text before b i)
  pub few : removed ≤ count is_self_link (links_to text before b i)
  pub small : removed ≤ i
  pub long : length work ≡ length before
  pub only : Only (ends_span g 0 i ∷ []) before work

module _ {text before : List ℕ} {b : Bases} {n : Counts} {g : Layout} {m : Made} where
  pub ending_start : Relinkable text before b n g m → Ending text before before b n g m 0 0
  unfolding count
  ending_start s =
      record {
        relinkable = s;
        ready = s;
        high = omega arith;
        rows = λ p q j h. absurd (omega arith);
        counted = λ p q. rw links_zero;
        few = omega arith;
        small = omega arith;
        long = refl;
        only = only_none;
      }

  module _ {work : List ℕ} {removed i : ℕ} (s : Ending text before work b n g m removed i) where
    ending_kept : KeptWords 0 g.added before work
    ending_kept = let p = s.relinkable.source.placed in only_kept 0 g.added s.only (inl (omega arith), tt)

    module _ {work' : List ℕ} {r : Bool} {x : ℕ} (h : i < n.links) (q : EndsSettled text work work' b n g m i r) (e : x ≡ bool_byte r) where
      src : Source text before b n g
      src = s.relinkable.source

      -- the words before the ends of the links are as they were
      later_kept : KeptWords 0 g.added work work'
      later_kept = let p = src.placed in only_kept 0 g.added q.only (inl (omega arith), tt)

      -- the link is as it was
      same_link : link_no text work b i ≡ link_no text before b i
      same_link = link_stands src.readable (front_kept src ending_kept) i h

      -- and its row, for the names and segments of before
      new_row : (p : Segment → Bool) → Marked p text before b n g.folded
          → EndsRow text (names_at text before b n g (first_of m.first) m.segs) (keep p (segments_of text before b n)) work' b g i
      new_row p k =
          rw (names_kept src ending_kept s.relinkable.rows, (standing src (front_kept src ending_kept)).of_segments) at (q.row p (marks_stand ending_kept src k))

      old_row : {names : List (List ℕ)} {fs : List Segment} (j : ℕ) → j < i → EndsRow text names fs work b g j → EndsRow text names fs work' b g j
      old_row j l row =
          let d = src.placed in
          let now = s.ready.source in
          ends_kept (ends_stand g j q.only (inl (omega arith))) (link_stands now.readable (front_kept now later_kept) j (omega arith)) row

      gone_here : (p : Segment → Bool) → Marked p text before b n g.folded → r ≡ is_removed (keep p (segments_of text before b n)) (link_no text before b i)
      gone_here p k =
          let now = s.ready.source in
          q.answer ∙ (new_row p k).gone ∙ rw (link_stands now.readable (front_kept now later_kept) i h, same_link)

      few_here : bit r ≤ bit (is_self_link (link_no text before b i))
      few_here = rw same_link at q.few

      pub ending_more : Ending text before work' b n g m (removed + x) (i + 1)
      ending_more =
          let y = bit_byte r e in
          record {
            relinkable = s.relinkable;
            ready = q.ready;
            high = omega arith;
            rows = λ p k. below_more (λ j. EndsRow text (names_at text before b n g (first_of m.first) m.segs) (keep p (segments_of text before b n)) work' b g j) i
                (λ j l. old_row j l (s.rows p k j l)) (new_row p k);
            counted = λ p k. rw (count_more, s.counted p k, y.0, gone_here p k);
            few = rw (count_more is_self_link text before b i) (omega (arith, s.few, few_here, y.0));
            small = omega (arith, s.small, y.1);
            long = q.long ∙ s.long;
            only = ends_joined g i s.only q.only;
          }

    pub ending_end : n.links ≤ i → AllEnds text before work b n g m removed
    ending_end h =
        let e : i ≡ n.links = omega (arith, s.high) in
        record {
          ready = s.ready;
          rows = λ p k j l. s.rows p k j (omega arith);
          removed = λ p k. rw e at (s.counted p k);
          few = rw e at s.few;
          long = s.long;
          only = rw e at s.only;
        }
