-- The counters of a node, with one path more: they are what the definitions say of the paths with it. Assumes nothing.
use Prim.Native.Nat.{ℕ, zero, suc, ◌+◌, ◌≤◌, ◌<◌, max}
use native.Mathlib.Omega.{arith}
use mathlib.Core.Bool.{Bool, true, false, cond, ◌&&◌, ◌||◌, false≢true}
use mathlib.Core.List.{List, [], ◌∷◌, ◌++◌, map, map-append}
use mathlib.Core.Path.{◌≡◌, refl, ◌∙◌}
use Rattle.std.specs.Prelude.{Option, Some, None}
use Rattle.gfa_spec.specs.Options.{map_or}
use lib.Dec.{eqb, ltb}
use lib.ListN.{length, length-append}
use borrow.Author.Tests.{ltb-true, ltb-false, leb-true, eq-eqb, ne_eqb}
use Rattle.gfa_spec.specs.Bytes.{any, count, sum, join, is_empty, Each}
use Rattle.gfa_spec.specs.Reading.{Path}
use Rattle.gfa_spec.specs.Runs.{Run, runs, is_repeat, pairs, bit, same_step}
use Rattle.gfa_spec.specs.Services.{nth_path}
use Rattle.gfa_spec.proofs.Tests.{by_test, any_append}
use Rattle.gfa_spec.proofs.Each.{each_always, each_implies, each_append, each_keep, each_join, each_map}
use Rattle.writers.proofs.Joining.{join_last}
use Rattle.report_spec.specs.Nodes.{on, visits, repeats, repeats_at, longest, path_name, first_with, total}
use Rattle.gfa_spec.proofs.Runs.{sum_append}
use Rattle.nodes.specs.declared.counters.Counter.{Counter}
use Rattle.tables.specs.declared.entry.PathNo.{PathNo}
use Rattle.nodes.specs.Counters.{PathBelow, no_counter, finish, named, CounterOf}
use Rattle.nodes.proofs.Paths.{below_more, below_other, below_either}
use Rattle.nodes.proofs.Counting.{repeats_on, finished, summed}

-- ---- one more behind the others

pub sum_last : {A : Type 0} (f : A → ℕ) (xs : List A) (x : A) → sum (map f (xs ++ (x ∷ []))) ≡ sum (map f xs) + f x
unfolding sum
sum_last f xs x = omega (arith, sum_append f xs (x ∷ []))

pub total_last : (f : Path → ℕ) (ps : List Path) (p : Path) → total f (ps ++ (p ∷ [])) ≡ total f ps + f p
unfolding total
total_last f ps p = sum_last f ps p

count_last : {A : Type 0} (t : A → Bool) (xs : List A) (x : A) → count t (xs ++ (x ∷ [])) ≡ cond (t x) (count t xs + 1) (count t xs)
unfolding count
count_last t [] x = by_test (t x) (λ e. rw e) (λ e. rw e)
count_last t (y ∷ ys) x = by_test (t y) (λ e. by_test (t x) (λ f. rw (e, f) (omega (arith, rw f at (count_last t ys x)))) (λ f. rw (e, f) (omega (arith, rw f at (count_last t ys x))))) (λ e. rw e (count_last t ys x))

pub joined_last : {A : Type 0} (f : Path → List A) (ps : List Path) (p : Path) → join (map f (ps ++ (p ∷ []))) ≡ join (map f ps) ++ f p
joined_last f ps p = rw (map-append f ps (p ∷ [])) (join_last (map f ps) (f p))

-- ---- the longest run

pub longest_append : (xs ys : List Run) → longest (xs ++ ys) ≡ max (longest xs) (longest ys)
unfolding longest
longest_append [] ys = omega arith
longest_append (x ∷ xs) ys = omega (arith, longest_append xs ys)

-- a list that has a longest run has a run of that length
longest_there : (xs : List Run) → 0 < longest xs → any (λ r. eqb r.count (longest xs)) xs ≡ true
unfolding longest any
longest_there [] h = absurd (omega arith)
longest_there (x ∷ xs) h =
    by_test (ltb x.count (longest xs))
    (λ e.
    let l : max x.count (longest xs) ≡ longest xs = omega (arith, ltb-true x.count (longest xs) e) in
    later (max x.count (longest xs)) l (longest_there xs (omega (arith, ltb-true x.count (longest xs) e))))
    (λ e. rw (eq-eqb x.count (max x.count (longest xs)) (omega (arith, ltb-false x.count (longest xs) e))))
  where
    last : (t : Bool) → (t || true) ≡ true
    last true = refl
    last false = refl

    later : (m : ℕ) → m ≡ longest xs → any (λ r. eqb r.count (longest xs)) xs ≡ true → (eqb x.count m || any (λ r. eqb r.count m) xs) ≡ true
    later m e w = rw (e, w) (last (eqb x.count (longest xs)))

-- no run is longer
none_longer : (n : ℕ) (xs : List Run) → longest xs < n → any (λ r. eqb r.count n) xs ≡ false
unfolding longest any
none_longer n [] h = refl
none_longer n (x ∷ xs) h = rw (ne_eqb x.count n (λ e. omega arith)) (none_longer n xs (omega arith))

-- runs of two or more: there is none where there is no longest
some_longest : (xs : List Run) → Each (λ r. is_repeat r ≡ true) xs → longest xs ≡ 0 → is_empty xs ≡ true
unfolding longest is_empty is_repeat
some_longest [] h e = refl
some_longest (x ∷ xs) h e = absurd (omega (arith, leb-true 2 x.count h.0))

longest_some : (xs : List Run) → 0 < longest xs → is_empty xs ≡ false
unfolding longest is_empty
longest_some [] h = absurd (omega arith)
longest_some (x ∷ xs) h = refl

-- ---- the name of a path

named_less : (o : Option PathNo) (ps : List Path) (p : Path) → PathBelow (length ps) o → named o (ps ++ (p ∷ [])) ≡ named o ps
unfolding named nth_path
named_less None ps p h = refl
named_less (Some k) ps p h = rw (less k.0 ps h)
  where
    less : (k : ℕ) (ps : List Path) → suc k ≤ length ps → nth_path k (ps ++ (p ∷ [])) ≡ nth_path k ps
    less k [] h = absurd (omega arith)
    less zero (q ∷ ps) h = refl
    less (suc k) (q ∷ ps) h = less k ps (omega arith)

named_last : (ps : List Path) (p : Path) → named (Some (record { 0 = length ps })) (ps ++ (p ∷ [])) ≡ path_name p
unfolding named nth_path map_or
named_last [] p = refl
named_last (q ∷ ps) p = named_last ps p

-- a count with one element more
bit_cond : (n : ℕ) (t : Bool) → n + bit t ≡ cond t (n + 1) n
unfolding bit
bit_cond n true = refl
bit_cond n false = omega arith

module _ (node : List ℕ) where
  -- ---- the first path with a run

  first_new : (n : ℕ) (ps : List Path) (p : Path) → longest (join (map (repeats_at node) ps)) < n → first_with n node (ps ++ (p ∷ [])) ≡ first_with n node (p ∷ [])
  unfolding first_with join
  first_new n [] p h = refl
  first_new n (q ∷ ps) p h =
      let l = longest_append (repeats_at node q) (join (map (repeats_at node) ps)) in
      rw (none_longer n (repeats_at node q) (omega arith)) (first_new n ps p (omega arith))

  first_old : (n : ℕ) (ps : List Path) (p : Path) → any (λ r. eqb r.count n) (join (map (repeats_at node) ps)) ≡ true → first_with n node (ps ++ (p ∷ [])) ≡ first_with n node ps
  unfolding first_with join any
  first_old n [] p h = absurd (false≢true h)
  first_old n (q ∷ ps) p h =
      by_test (any (λ r. eqb r.count n) (repeats_at node q))
      (λ e. rw e)
      (λ e. rw e (first_old n ps p (rw e at (rw any_append at h))))

  each_repeats : (p : Path) → Each (λ r. is_repeat r ≡ true) (repeats_at node p)
  unfolding repeats_at repeats
  each_repeats p =
      let rs = each_keep (λ r. Unit {0}) is_repeat (runs p.steps) (each_always (λ r. tt) (runs p.steps)) in
      each_implies {P = λ r. (on node r.step ≡ true) × ((is_repeat r ≡ true) × Unit {0})} (λ r h. h.1.0) (repeats_at node p) (each_keep (λ r. (is_repeat r ≡ true) × Unit {0}) (λ r. on node r.step) (repeats p) rs)

  all_repeats : (ps : List Path) → Each (λ r. is_repeat r ≡ true) (join (map (repeats_at node) ps))
  all_repeats ps = each_join (λ r. is_repeat r ≡ true) (map (repeats_at node) ps) (each_map (Each (λ r. is_repeat r ≡ true)) (repeats_at node) ps (each_always each_repeats ps))

  -- ---- one path more

  module _ (ps : List Path) (p : Path) (k : Option PathNo) (known : PathBelow (length ps) k) (old new : List Run) (eo : join (map (repeats_at node) ps) ≡ old) (en : repeats_at node p ≡ new)
      (is : named k ps ≡ cond (is_empty old) [] (first_with (longest old) node ps)) where
    first_path : named (cond (ltb (longest old) (longest new)) (Some (record { 0 = length ps })) k) (ps ++ (p ∷ [])) ≡ cond (is_empty (old ++ new)) [] (first_with (longest (old ++ new)) node (ps ++ (p ∷ [])))
    first_path = by_test (ltb (longest old) (longest new)) longer (λ e. rw e (named_less k ps p known ∙ is ∙ shorter (ltb-false (longest old) (longest new) e)))
      where
        longer : ltb (longest old) (longest new) ≡ true → named (cond (ltb (longest old) (longest new)) (Some (record { 0 = length ps })) k) (ps ++ (p ∷ [])) ≡ cond (is_empty (old ++ new)) [] (first_with (longest (old ++ new)) node (ps ++ (p ∷ [])))
        longer e =
            let h = ltb-true (longest old) (longest new) e in
            let l : longest (old ++ new) ≡ longest new = longest_append old new ∙ omega arith in
            let f : first_with (longest new) node (p ∷ []) ≡ path_name p = unfold first_with in rw (en, longest_there new (omega arith)) in
            rw (e, longest_some (old ++ new) (omega arith), l, named_last, first_new (longest new) ps p (rw eo h), f)

        shorter : longest new ≤ longest old → cond (is_empty old) [] (first_with (longest old) node ps) ≡ cond (is_empty (old ++ new)) [] (first_with (longest (old ++ new)) node (ps ++ (p ∷ [])))
        shorter h =
            let l : longest (old ++ new) ≡ longest old = longest_append old new ∙ omega arith in
            by_test (ltb 0 (longest old))
            (λ e.
            let there = ltb-true 0 (longest old) e in
            rw (longest_some old there, longest_some (old ++ new) (omega arith), l, first_old (longest old) ps p (rw eo (longest_there old there))))
            (λ e.
            let none = ltb-false 0 (longest old) e in
            let each = each_append (λ r. is_repeat r ≡ true) old new (rw eo at (all_repeats ps)) (rw en at (each_repeats p)) in
            rw (some_longest old (rw eo at (all_repeats ps)) (omega arith), some_longest (old ++ new) each (omega arith)))

  pub counted_path : (ps : List Path) (p : Path) (c : Counter) → CounterOf node ps c → CounterOf node (ps ++ (p ∷ [])) (finish node (length ps) c (runs p.steps))
  unfolding visits repeats_at repeats repeats_on bit
  counted_path ps p c h =
      let f = finished node (length ps) c (runs p.steps) in
      let s = summed node p.steps in
      let rs = joined_last (repeats_at node) ps p in
      record {
        visits = omega (arith, f.visits, s.visits, h.visits, total_last (visits node) ps p);
        paths = f.paths ∙ rw (below_other _ c.last h.last, s.some, h.paths, count_last) (bit_cond (count (λ q. any (on node) q.steps) ps) (any (on node) p.steps));
        last = simp length-append (f.last (below_more _ _ c.last (omega arith) h.last));
        adjacent = omega (arith, f.adjacent, s.adjacent, h.adjacent, total_last (λ p. pairs (λ s t. on node s && on node t) p.steps) ps p);
        equal = omega (arith, f.equal, s.equal, h.equal, total_last (λ p. pairs (λ s t. on node s && same_step s t) p.steps) ps p);
        runs = f.runs ∙ rw (rs, length-append, h.runs);
        longest = f.longest ∙ rw (rs, longest_append, h.longest);
        first = rw (f.first, rs, h.longest) (first_path ps p c.first h.known (join (map (repeats_at node) ps)) (repeats_at node p) refl refl h.first);
        known = simp length-append (rw f.first (below_either _ _ _ (ltb c.longest (longest (repeats_on node (runs p.steps)))) (omega arith) (below_more _ _ c.first (omega arith) h.known)));
      }

  -- no path
  pub counted_none : CounterOf node [] no_counter
  unfolding total sum count join longest is_empty named
  counted_none = record { visits = refl; paths = refl; last = tt; adjacent = refl; equal = refl; runs = refl; longest = refl; first = refl; known = tt }
