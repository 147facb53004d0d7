-- All links: those that are removed, kept and added. Assumes nothing.
use Prim.Native.Nat.{ℕ, ◌+◌, ◌-◌, ◌≤◌, ◌<◌}
use native.Mathlib.Omega.{arith}
use mathlib.Core.Bool.{Bool, true, not, ◌&&◌}
use mathlib.Core.List.{List, [], ◌∷◌, map, append-nil}
use mathlib.Core.Logic.{inl}
use mathlib.Core.Path.{◌≡◌, refl, sym, ◌∙◌}
use lib.Dec.{eqb}
use lib.ListN.{length}
use Rattle.gfa_spec.specs.Bytes.{same, any, count, keep, join}
use Rattle.gfa_spec.specs.Reading.{Segment, Link}
use Rattle.gfa_spec.specs.Records.{is_self_link}
use Rattle.gfa_spec.proofs.Tests.{by_test, and_left}
use Rattle.normalize_spec.specs.Links.{is_removed, adjacent, missing}
use Rattle.work.specs.Rows.{rows_at, span}
use Rattle.work.proofs.Rows.{KeptWords, only_then, only_kept, outside_less}
use Rattle.tables.specs.declared.tables.Bases.{Bases}
use Rattle.tables.specs.declared.tables.Counts.{Counts}
use Rattle.tables.specs.ByNumber.{segments_of, links_to}
use Rattle.tables.proofs.ByNumber.{links_length}
use Rattle.normalize_tables.specs.declared.layout.Layout.{Layout}
use Rattle.normalize_tables.specs.declared.layout.Made.{Made}
use Rattle.normalize_tables.specs.Marks.{Marked}
use Rattle.normalize_tables.specs.News.{first_of, names_at, keys_at}
use Rattle.normalize_tables.specs.NewByNumber.{ends_end, new_paths_to}
use Rattle.normalize_tables.proofs.Nodes.{names_length}
use Rattle.normalize_tables.proofs.Sources.{standing}
use Rattle.normalize_tables.proofs.NewsStand.{names_kept, paths_kept, front_kept}
use Rattle.relink.specs.declared.tallies.Tally.{Tally}
use Rattle.relink.specs.Relinking.{Ended, kept_keys, is_loop, PathsAdded, SettledIs}
use Rattle.link_ends.specs.LinkEnds.{Relinkable, AllEnds}
use Rattle.relink.proofs.Adding.{before_kept, ended_stands}

-- ---- links with equal ends

-- a removed link has equal ends
removed_self : (fs : List Segment) (l : Link) → is_removed fs l ≡ true → is_self_link l ≡ true
unfolding is_removed
removed_self fs l h =
    and_left (is_self_link l) (eqb l.from_orientation l.to_orientation)
    (and_left (is_self_link l && eqb l.from_orientation l.to_orientation) (any (λ s. same s.id l.from) fs) h)

-- so all that have equal ends are kept or removed
loops_split : (fs : List Segment) (ls : List Link) → count is_self_link (keep (λ l. not (is_removed fs l)) ls) + count (is_removed fs) ls ≡ count is_self_link ls
unfolding count keep
loops_split fs [] = omega arith
loops_split fs (l ∷ ls) =
    by_test (is_removed fs l)
    (λ e. rw (e, removed_self fs l e) (omega (arith, loops_split fs ls)))
    (λ e. by_test (is_self_link l)
    (λ f. rw (e, f) (omega (arith, loops_split fs ls)))
    (λ f. rw (e, f) (omega (arith, loops_split fs ls))))

-- no more pass a test than there are
count_few : (t : Link → Bool) (ls : List Link) → count t ls ≤ length ls
unfolding count
count_few t [] = omega arith
count_few t (l ∷ ls) = by_test (t l) (λ e. rw e (omega (arith, count_few t ls))) (λ e. rw e (omega (arith, count_few t ls)))

-- ---- what the passes leave

module _ {text w v : List ℕ} {b : Bases} {n : Counts} {g : Layout} {m : Made} {removed : ℕ} (s : Relinkable text w b n g m) (a : AllEnds text w v b n g m removed)
    {u : List ℕ} {t : Tally} (c : PathsAdded text v u b n g m t) where
  -- the tables are before the ends
  ends_front : KeptWords 0 g.added w v
  ends_front = let p = s.source.placed in only_kept 0 g.added a.only (inl (omega arith), tt)

  -- no table but those of the links changes
  all_front : KeptWords 0 g.added w u
  all_front = record { word = λ i l h. (before_kept a.ready c.grows.only).word i l h ∙ ends_front.word i l h }

  links_still : {x : List ℕ} → KeptWords 0 g.added w x → links_to text x b n.links ≡ links_to text w b n.links
  links_still k = (standing s.source (front_kept s.source k)).of_links

  module _ {all : ℕ} (e : all ≡ count is_self_link (links_to text u b n.links)) where
    all_loops : all ≡ count is_self_link (links_to text w b n.links)
    all_loops = e ∙ rw (links_still all_front)

    pub settle_removed : removed ≤ all
    settle_removed = omega (arith, a.few, all_loops)

    pub settle_fits : all - removed + t.loops < 18446744073709551616
    settle_fits =
        let f = s.source.readable.few in
        let l = links_length text w b n.links in
        let few : all ≤ n.links = omega (arith, all_loops, count_few is_self_link (links_to text w b n.links)) in
        omega (arith, f.2, c.grows.loops, c.grows.high, s.rows.few, f.4)

    module _ (p : Segment → Bool) (k : Marked p text w b n g.folded) where
      fs : List Segment
      fs = keep p (segments_of text w b n)

      names : List (List ℕ)
      names = names_at text w b n g (first_of m.first) m.segs

      ended : Ended text names fs v b n g m
      unfolding fs names
      ended = record { apart = s.apart; all = names_length text w b n g (first_of m.first) m.segs; ends = a.rows p k }

      -- the added links are those that were missing
      keys : keys_at names g.steps u g.added t.added ≡ missing (kept_keys text fs w b n.links) (join (map adjacent (new_paths_to names w g n.paths)))
      unfolding keys_at rows_at missing
      keys = sym (rw (append-nil, append-nil, append-nil, links_still ends_front, paths_kept s.source.placed ends_front s.rows) at ((c.adds names fs ended).all []))

      loops : t.loops ≡ count is_loop (keys_at names g.steps u g.added t.added)
      unfolding keys_at rows_at count
      loops = (c.adds names fs ended).loops refl

    pub settled : SettledIs text w u b n g m (record { added = t.added; removed = removed; loops = all - removed + t.loops })
    unfolding fs names
    settled =
        record {
          settled = λ p k. (
            record {
              removed = λ i h. ((ended_stands a.ready c.grows.only (ended p k)).ends i h).gone;
              keys = rw (names_kept s.source all_front s.rows, links_still all_front, paths_kept s.source.placed all_front s.rows) (keys p k);
              rows = c.grows.rows.keys;
              few = omega (arith, c.grows.high);
            },
            a.removed p k,
            omega (arith, loops p k, all_loops, a.removed p k, loops_split (fs p k) (links_to text w b n.links)),
          );
          rows = c.grows.rows.keys;
          few = omega (arith, c.grows.high);
          long = c.grows.long ∙ a.long;
          only = (let d = s.source.placed in only_then (span g.added (ends_end g n.links) ∷ []) a.only c.grows.only
              (λ i o. (let ends = outside_less (ends_end g 0) (ends_end g n.links) o.0 (omega arith) (omega arith) in
              let added = outside_less g.added (g.added + n.steps) o.0 (omega arith) (omega arith) in
              ((ends, tt), (added, tt)))));
        }

-- where the work area comes back from a relinker, and from an adder
module _ {text w v y u x : List ℕ} {b : Bases} {n : Counts} {g : Layout} {m : Made} {removed all : ℕ} {t : Tally} (s : Relinkable text w b n g m) (a : AllEnds text w v b n g m removed)
    (c : PathsAdded text y u b n g m t) (e : all ≡ count is_self_link (links_to text x b n.links)) (i : y ≡ v) (z : x ≡ u) where
  same_added : PathsAdded text v u b n g m t
  same_added = rw i at c

  same_all : all ≡ count is_self_link (links_to text u b n.links)
  same_all = rw z at e

  pub removed_given : removed ≤ all
  removed_given = settle_removed s a same_added same_all

  pub fits_given : all - removed + t.loops < 18446744073709551616
  fits_given = settle_fits s a same_added same_all

  pub settled_given : SettledIs text w x b n g m (record { added = t.added; removed = removed; loops = all - removed + t.loops })
  settled_given = rw z (settled s a same_added same_all)
