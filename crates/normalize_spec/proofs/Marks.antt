-- Folding by segment numbers: what a table with a mark for each segment has to say. Assumes nothing.
use Prim.Native.Nat.{ℕ, suc}
use mathlib.Core.Bool.{Bool, true, false, not, ◌&&◌, ◌||◌, and-true, and-false, or-false}
use mathlib.Core.List.{List, [], ◌∷◌, ◌++◌, map}
use Rattle.std.specs.Prelude.{Option, None, Some, option_map}
use Rattle.gfa_spec.specs.Options.{map_or}
use mathlib.Core.Path.{◌≡◌, refl, ap, ◌∙◌}
use borrow.Author.Tests.{not-true}
use Rattle.gfa_spec.specs.Bytes.{same, any, keep, nth, distinct}
use Rattle.gfa_spec.specs.Reading.{Segment, Link, Entry}
use Rattle.gfa_spec.specs.Records.{segments, segment_number}
use Rattle.gfa_spec.specs.Runs.{Run, is_repeat}
use Rattle.gfa_spec.proofs.Tests.{by_test, and_left, and_right, or_left, or_right, same_equal, same_sym, any_append, any_keep}
use Rattle.normalize_spec.specs.Folding.{self_linked, is_folded, folded, is_folded_run}

-- ---- names and numbers

module _ (p : Segment → Bool) where
  -- no segment passes that has a name which none has
  absent : (ss : List Segment) (name : List ℕ) → any (same name) (map (λ s. s.id) ss) ≡ false → any (λ s. p s && same s.id name) ss ≡ false
  unfolding any
  absent [] name h = refl
  absent (s ∷ ss) name h =
      let other : same s.id name ≡ false = same_sym s.id name ∙ or_left (same name s.id) (any (same name) (map (λ s. s.id) ss)) h in
      rw (other, and-false, absent ss name (or_right (same name s.id) (any (same name) (map (λ s. s.id) ss)) h))

  module _ (d : Segment) where
    -- a number behind a first segment
    behind_first : (s : Segment) (ss : List Segment) (o : Option ℕ)
        → map_or (option_map suc o) false (λ k. p (nth k (s ∷ ss) d)) ≡ map_or o false (λ k. p (nth k ss d))
    unfolding map_or nth
    behind_first s ss None = refl
    behind_first s ss (Some k) = refl

    -- Where no two segments have one name, some segment passes and has the name exactly if the segment of that number passes.
    pub named : (ss : List Segment) (name : List ℕ) → distinct (map (λ s. s.id) ss) ≡ true
        → any (λ s. p s && same s.id name) ss ≡ map_or (segment_number ss name) false (λ k. p (nth k ss d))
    unfolding any segment_number distinct
    named [] name h = unfold map_or in refl
    named (s ∷ ss) name h =
        let ids = map (λ s. s.id) ss in
        let alone = not-true (any (same s.id) ids) (and_left (not (any (same s.id) ids)) (distinct ids) h) in
        by_test (same s.id name)
        (λ e.
        let here = same_equal s.id name e in
        rw (e, absent ss name (rw here at alone), and-true, or-false) (unfold map_or nth in refl))
        (λ e. rw (e, and-false, behind_first s ss (segment_number ss name)) (named ss name (and_right (not (any (same s.id) ids)) (distinct ids) h)))

-- ---- folded runs

-- where the segments that pass a test are folded, a run is exactly if it is of two or more, and the segment of its name's number passes
pub kept_run : (p : Segment → Bool) (ss : List Segment) (d : Segment) (r : Run) → distinct (map (λ s. s.id) ss) ≡ true
    → is_folded_run (keep p ss) r ≡ (is_repeat r && map_or (segment_number ss r.step.name.bytes) false (λ k. p (nth k ss d)))
unfolding is_folded_run
kept_run p ss d r h = ap (λ (t : Bool). is_repeat r && t) (any_keep (λ s. same s.id r.step.name.bytes) p ss ∙ named p d ss r.step.name.bytes h)

-- so it is for a text under a cap
pub folded_run : (es : List Entry) (cap : ℕ) (d : Segment) (r : Run) → distinct (map (λ s. s.id) (segments es)) ≡ true
    → is_folded_run (folded es cap) r
    ≡ (is_repeat r && map_or (segment_number (segments es) r.step.name.bytes) false (λ k. is_folded es cap (nth k (segments es) d)))
unfolding folded
folded_run es cap d r h = kept_run (is_folded es cap) (segments es) d r h

-- ---- self-links, one link more

-- a name has a self-link among links and one more
pub linked_snoc : (ls : List Link) (l : Link) (name : List ℕ) → self_linked (ls ++ (l ∷ [])) name ≡ (self_linked ls name || (same l.from name && same l.to name))
unfolding self_linked
linked_snoc ls l name = any_append (λ k. same k.from name && same k.to name) ls (l ∷ []) ∙ (unfold any in rw or-false)
