-- The counters of the output are counts of the output, read again. Assumes nothing.
use Prim.Native.Nat.{ℕ, suc, ◌+◌}
use native.Mathlib.Omega.{arith}
use mathlib.Core.Bool.{Bool}
use mathlib.Core.List.{List, [], ◌∷◌, ◌++◌, map, map-map}
use mathlib.Core.Path.{◌≡◌, refl, sym, ap, ◌∙◌}
use lib.ListN.{length, length-map}
use Rattle.gfa_spec.specs.Bytes.{count, sum}
use Rattle.gfa_spec.specs.Reading.{Step, Path, Entry}
use Rattle.gfa_spec.specs.Records.{links, paths, is_self_link, self_links}
use Rattle.gfa_spec.specs.Runs.{same_node, same_step, pairs, over_paths, same_node_pairs, same_step_pairs, step_count}
use Rattle.gfa_spec.proofs.Tests.{by_test}
use Rattle.gfa_spec.proofs.Counting.{count_append}
use Rattle.normalize_spec.specs.Folding.{NewStep, same_new_node, same_new_step, as_new, transform}
use Rattle.normalize_spec.specs.Links.{kept, added}
use Rattle.normalize_spec.specs.Counting.{unchanged, rewritten_stats}
use Rattle.normalize_spec.specs.Guarantees.{Counted}
use Rattle.normalize_spec.proofs.Output.{as_link}
use Rattle.normalize_spec.proofs.Reread.{Reread}

-- ---- counts

-- the count of images
count_map : {A B : Type 0} (p : B → Bool) (f : A → B) (xs : List A) → count p (map f xs) ≡ count (λ x. p (f x)) xs
unfolding count
count_map p f [] = refl
count_map p f (x ∷ xs) = by_test (p (f x)) (λ e. rw e (ap suc (count_map p f xs))) (λ e. rw e (count_map p f xs))

-- the pairs of steps are those of the same steps of a new path, if the tests agree
pub pairs_as_new : (old : Step → Step → Bool) (new : NewStep → NewStep → Bool) → ((s t : Step) → new (as_new s) (as_new t) ≡ old s t) → (steps : List Step)
    → pairs new (map as_new steps) ≡ pairs old steps
unfolding pairs
pairs_as_new old new f [] = refl
pairs_as_new old new f (s ∷ []) = refl
pairs_as_new old new f (s ∷ (t ∷ steps)) = rw (f s t, pairs_as_new old new f (t ∷ steps))

-- pairs on one node
pub node_as_new : (steps : List Step) → pairs same_new_node (map as_new steps) ≡ pairs same_node steps
unfolding same_new_node same_node as_new
node_as_new steps = pairs_as_new same_node same_new_node (λ s t. refl) steps

-- pairs of equal steps
pub step_as_new : (steps : List Step) → pairs same_new_step (map as_new steps) ≡ pairs same_step steps
unfolding same_new_step same_new_node same_step same_node as_new
step_as_new steps = pairs_as_new same_step same_new_step (λ s t. refl) steps

-- a count over the new paths is one over the paths read again
over_paths_same : (f : List Step → ℕ) (g : List NewStep → ℕ) → ((steps : List Step) → g (map as_new steps) ≡ f steps) → (ps : List Path) (new : List (List NewStep))
    → map (λ p. map as_new p.steps) ps ≡ new → sum (map g new) ≡ sum (map (λ p. f p.steps) ps)
over_paths_same f g same ps new e = ap sum (ap (map g) (sym e) ∙ map-map g (λ p. map as_new p.steps) ps ∙ simp same)

-- ---- the counters

-- the self-links of the output are those that are kept and those that are added
self_links_split : (es : List Entry) (cap : ℕ) (after : List Entry) → links after ≡ kept es cap ++ map as_link (added es cap)
    → count is_self_link (kept es cap) + count (λ k. same_new_node k.from k.to) (added es cap) ≡ self_links after
unfolding self_links
self_links_split es cap after e =
    let here : count is_self_link (map as_link (added es cap)) ≡ count (λ k. same_new_node k.from k.to) (added es cap) = unfold is_self_link as_link same_new_node in count_map is_self_link as_link (added es cap) in
    rw e (omega (arith, count_append is_self_link (kept es cap) (map as_link (added es cap)), here))

-- a rewritten text is counted
pub counted_rewritten : (es : List Entry) (cap : ℕ) (text : List ℕ) (after : List Entry) → Reread es cap text after → Counted es after (rewritten_stats es cap)
unfolding rewritten_stats same_node_pairs same_step_pairs step_count over_paths
counted_rewritten es cap text after r =
    let new = (transform es cap).paths in
    record {
      self_links_before = refl;
      self_links_after = self_links_split es cap after r.new_links_read;
      node_pairs_before = refl;
      node_pairs_after = over_paths_same (pairs same_node) (pairs same_new_node) node_as_new (paths after) new r.new_paths_read;
      step_pairs_before = refl;
      step_pairs_after = over_paths_same (pairs same_step) (pairs same_new_step) step_as_new (paths after) new r.new_paths_read;
      steps_before = refl;
      steps_after = over_paths_same length length (λ steps. length-map steps as_new) (paths after) new r.new_paths_read;
    }

-- a text that is returned is counted
pub counted_unchanged : (es : List Entry) → Counted es es (unchanged es)
unfolding unchanged
counted_unchanged es = record {
  self_links_before = refl;
  self_links_after = refl;
  node_pairs_before = refl;
  node_pairs_after = refl;
  step_pairs_before = refl;
  step_pairs_after = refl;
  steps_before = refl;
  steps_after = refl;
}
