-- The counters of a node, with one path more: what its runs add is what its steps add. Assumes nothing.
use Prim.Native.Nat.{ℕ, suc, ◌+◌, ◌-◌, ◌≤◌, max}
use native.Mathlib.Omega.{arith}
use mathlib.Core.Bool.{Bool, true, false, cond, ◌&&◌}
use mathlib.Core.List.{List, [], ◌∷◌}
use mathlib.Core.Path.{◌≡◌, refl, ◌∙◌}
use lib.Dec.{leb, ltb}
use lib.ListN.{length}
use borrow.Author.Tests.{ltb-true, ltb-false, lt-ltb, le-ltb, eq-eqb}
use Rattle.gfa_spec.specs.Bytes.{any, count, keep}
use Rattle.gfa_spec.specs.Reading.{Step}
use Rattle.gfa_spec.specs.Runs.{Run, runs, extend, is_repeat, pairs, bit, same_step}
use Rattle.gfa_spec.proofs.Tests.{by_test}
use Rattle.gfa_spec.proofs.Runs.{same_name, extend_first}
use Rattle.report_spec.specs.Nodes.{on, longest as longest_of}
use Rattle.std.specs.Prelude.{Option, Some}
use Rattle.tables.specs.declared.entry.PathNo.{PathNo}
use Rattle.nodes.specs.declared.counters.Counter.{Counter}
use Rattle.nodes.specs.Counters.{is_path, PathBelow, is_longer, counted_of, goes_on, finish}

-- the same, whatever the test says
either : {A : Type 0} {a : A} (t : Bool) → cond t a a ≡ a
either true = refl
either false = refl

-- a number that is covered does not matter to the larger
covered : (n a b : ℕ) → a ≤ n → ltb n (max a b) ≡ ltb n b
covered n a b h = by_test (ltb n b) (λ e. rw e (lt-ltb n (max a b) (omega (arith, ltb-true n b e)))) (λ e. rw e (le-ltb n (max a b) (omega (arith, ltb-false n b e))))

module _ (node : List ℕ) where
  -- ---- what runs add

  -- the steps of runs on the node
  unfoldable pub steps_on : List Run → ℕ
  steps_on [] = 0
  steps_on (r ∷ rs) = cond (on node r.step) r.count 0 + steps_on rs

  -- the equal pairs
  unfoldable pub equal_on : List Run → ℕ
  equal_on [] = 0
  equal_on (r ∷ rs) = cond (on node r.step) (r.count - 1) 0 + equal_on rs

  -- the pairs of runs that are next to each other
  unfoldable pub turns_on : List Run → ℕ
  turns_on [] = 0
  turns_on (r ∷ rs) = bit (on node r.step && goes_on node rs) + turns_on rs

  -- the runs of two or more
  unfoldable pub repeats_on : List Run → List Run
  repeats_on rs = keep (λ r. on node r.step) (keep is_repeat rs)

  -- The counters c', with these runs of a path, are the counters c and what the runs add.
  pub record Finished (path : ℕ) (c c' : Counter) (rs : List Run) : Type 0 where
    pub visits : c'.visits ≡ c.visits + steps_on rs
    pub paths : c'.paths ≡ cond (is_path c.last path) c.paths (c.paths + bit (any (λ r. on node r.step) rs))
    pub last : PathBelow (path + 1) c.last → PathBelow (path + 1) c'.last
    pub adjacent : c'.adjacent ≡ c.adjacent + equal_on rs + turns_on rs
    pub equal : c'.equal ≡ c.equal + equal_on rs
    pub runs : c'.runs ≡ c.runs + length (repeats_on rs)
    pub longest : c'.longest ≡ max c.longest (longest_of (repeats_on rs))
    pub first : c'.first ≡ cond (ltb c.longest (longest_of (repeats_on rs))) (Some (record { 0 = path })) c.first

  -- what a run on the node adds to what the runs behind it add, and what one elsewhere does
  repeats_here : (r : Run) (rs : List Run) → on node r.step ≡ true → repeats_on (r ∷ rs) ≡ cond (leb 2 r.count) (r ∷ repeats_on rs) (repeats_on rs)
  unfolding repeats_on keep is_repeat
  repeats_here r rs e = by_test (leb 2 r.count) (λ f. rw (f, e)) (λ f. rw f)

  repeats_elsewhere : (r : Run) (rs : List Run) → on node r.step ≡ false → repeats_on (r ∷ rs) ≡ repeats_on rs
  unfolding repeats_on keep is_repeat
  repeats_elsewhere r rs e = by_test (leb 2 r.count) (λ f. rw (f, e)) (λ f. rw f)

  module _ (path : ℕ) (c : Counter) (r : Run) (rs : List Run) {d : Counter} where
    finished_here : on node r.step ≡ true → Finished path (counted_of c r.count path (goes_on node rs)) d rs → Finished path c d (r ∷ rs)
    unfolding steps_on equal_on turns_on any bit is_longer longest_of
    finished_here e m =
        record {
          visits = rw e (omega (arith, m.visits));
          paths = m.paths ∙ rw (e, eq-eqb path path refl);
          last = λ h. m.last (omega arith);
          adjacent = rw e (omega (arith, m.adjacent));
          equal = rw e (omega (arith, m.equal));
          runs = rw (repeats_here r rs e) (by_test (leb 2 r.count) (λ f. rw f (omega (arith, rw f at m.runs))) (λ f. rw f (omega (arith, rw f at m.runs))));
          longest = rw (repeats_here r rs e) (long m.longest);
          first = rw (repeats_here r rs e) (m.first ∙ earliest);
        }
      where
        long : d.longest ≡ max (cond (is_longer c r.count) r.count c.longest) (longest_of (repeats_on rs)) → d.longest ≡ max c.longest (longest_of (cond (leb 2 r.count) (r ∷ repeats_on rs) (repeats_on rs)))
        long h = by_test (leb 2 r.count) (λ f. by_test (ltb c.longest r.count) (λ g. rw f (omega (arith, rw (f, g) at h, ltb-true c.longest r.count g))) (λ g. rw f (omega (arith, rw (f, g) at h, ltb-false c.longest r.count g)))) (λ f. rw f (rw f at h))

        its : Option PathNo
        its = Some (record { 0 = path })

        earliest : cond (ltb (cond (is_longer c r.count) r.count c.longest) (longest_of (repeats_on rs))) its (cond (is_longer c r.count) its c.first) ≡ cond (ltb c.longest (longest_of (cond (leb 2 r.count) (r ∷ repeats_on rs) (repeats_on rs)))) its c.first
        earliest =
            by_test (leb 2 r.count)
            (λ f. by_test (ltb c.longest r.count)
            (λ g. rw (f, g, lt-ltb c.longest (max r.count (longest_of (repeats_on rs))) (omega (arith, ltb-true c.longest r.count g))) (either (ltb r.count (longest_of (repeats_on rs)))))
            (λ g. rw (f, g, covered c.longest r.count (longest_of (repeats_on rs)) (ltb-false c.longest r.count g))))
            (λ f. rw f)

    finished_elsewhere : on node r.step ≡ false → Finished path c d rs → Finished path c d (r ∷ rs)
    unfolding steps_on equal_on turns_on any bit
    finished_elsewhere e m =
        record {
          visits = rw e (omega (arith, m.visits));
          paths = rw e m.paths;
          last = m.last;
          adjacent = rw e (omega (arith, m.adjacent));
          equal = rw e (omega (arith, m.equal));
          runs = rw (repeats_elsewhere r rs e) m.runs;
          longest = rw (repeats_elsewhere r rs e) m.longest;
          first = rw (repeats_elsewhere r rs e) m.first;
        }

  finished_none : (path : ℕ) (c : Counter) → Finished path c c []
  unfolding steps_on equal_on turns_on repeats_on any keep longest_of bit
  finished_none path c =
      record {
        visits = omega arith;
        paths = by_test (is_path c.last path) (λ e. rw e) (λ e. rw e (omega arith));
        last = λ h. h;
        adjacent = omega arith;
        equal = omega arith;
        runs = omega arith;
        longest = omega arith;
        first = rw (le-ltb c.longest 0 (omega arith));
      }

  -- a run on the node is counted, one elsewhere is not
  pub finish_here : (path : ℕ) (c : Counter) (r : Run) (rs : List Run) → on node r.step ≡ true → finish node path c (r ∷ rs) ≡ finish node path (counted_of c r.count path (goes_on node rs)) rs
  unfolding finish
  finish_here path c r rs e = rw (e, finish)

  pub finish_elsewhere : (path : ℕ) (c : Counter) (r : Run) (rs : List Run) → on node r.step ≡ false → finish node path c (r ∷ rs) ≡ finish node path c rs
  unfolding finish
  finish_elsewhere path c r rs e = rw (e, finish)

  pub finished : (path : ℕ) (c : Counter) (rs : List Run) → Finished path c (finish node path c rs) rs
  finished path c [] = unfold finish in finished_none path c
  finished path c (r ∷ rs) =
      by_test (on node r.step)
      (λ e. finished_here path c r rs e (rw (finish_here path c r rs e) (finished path (counted_of c r.count path (goes_on node rs)) rs)))
      (λ e. finished_elsewhere path c r rs e (rw (finish_elsewhere path c r rs e) (finished path c rs)))

  -- ---- what the runs of steps add

  -- equal steps are on the same nodes
  on_same : (s t : Step) → same_step s t ≡ true → on node s ≡ on node t
  unfolding on
  on_same s t e = rw (same_name s t e)

  -- The runs of some steps have on the node what the steps have.
  pub record Summed (steps : List Step) (rs : List Run) : Type 0 where
    pub visits : steps_on rs ≡ count (on node) steps
    pub some : any (λ r. on node r.step) rs ≡ any (on node) steps
    pub equal : equal_on rs ≡ pairs (λ s t. on node s && same_step s t) steps
    pub adjacent : equal_on rs + turns_on rs ≡ pairs (λ s t. on node s && on node t) steps

  -- a step before steps, whose first run is t's
  module _ (s t : Step) (ts : List Step) (n : ℕ) (rs : List Run) (m : Summed (t ∷ ts) (record { step = t; count = suc n } ∷ rs)) where
    summed_equal : same_step s t ≡ true → Summed (s ∷ (t ∷ ts)) (record { step = s; count = suc (suc n) } ∷ rs)
    unfolding steps_on equal_on turns_on any count pairs bit
    summed_equal e =
        by_test (on node t)
        (λ f. record {
          visits = rw (on_same s t e, f) (omega (arith, rw f at m.visits));
          some = rw (on_same s t e, f);
          equal = rw (e, on_same s t e, f) (omega (arith, rw f at m.equal));
          adjacent = rw (on_same s t e, f) (omega (arith, rw f at m.adjacent));
        })
        (λ f. record {
          visits = rw (on_same s t e, f) (rw f at m.visits);
          some = rw (on_same s t e, f) (rw f at m.some);
          equal = rw (on_same s t e, f) (omega (arith, rw f at m.equal));
          adjacent = rw (on_same s t e, f) (omega (arith, rw f at m.adjacent));
        })

    summed_other : same_step s t ≡ false → Summed (s ∷ (t ∷ ts)) (record { step = s; count = 1 } ∷ (record { step = t; count = suc n } ∷ rs))
    unfolding steps_on equal_on turns_on any count pairs bit goes_on
    summed_other e =
        by_test (on node s)
        (λ f. record {
          visits = rw f (omega (arith, m.visits));
          some = rw f;
          equal = rw (f, e) (omega (arith, m.equal));
          adjacent = rw f (omega (arith, m.adjacent));
        })
        (λ f. record {
          visits = rw f (omega (arith, m.visits));
          some = rw f m.some;
          equal = rw f (omega (arith, m.equal));
          adjacent = rw f (omega (arith, m.adjacent));
        })

    summed_more : Summed (s ∷ (t ∷ ts)) (extend s (record { step = t; count = suc n } ∷ rs))
    unfolding extend
    summed_more = by_test (same_step s t) (λ e. rw e (summed_equal e)) (λ e. rw e (summed_other e))

  pub summed : (steps : List Step) → Summed steps (runs steps)
  unfolding runs extend steps_on equal_on turns_on any count pairs bit goes_on
  summed [] = record { visits = refl; some = refl; equal = refl; adjacent = refl }
  summed (s ∷ []) =
      by_test (on node s)
      (λ f. record { visits = rw f; some = rw f; equal = rw f; adjacent = rw f })
      (λ f. record { visits = rw f; some = rw f; equal = rw f; adjacent = rw f })
  summed (s ∷ (t ∷ ts)) = go (summed (t ∷ ts)) (extend_first t (runs ts))
    where
      go : Summed (t ∷ ts) (extend t (runs ts)) → (n : ℕ) × (more : List Run) × (extend t (runs ts) ≡ record { step = t; count = suc n } ∷ more) → Summed (s ∷ (t ∷ ts)) (extend s (extend t (runs ts)))
      go m (n, rs, e) = rw e (summed_more s t ts n rs (rw e at m))
