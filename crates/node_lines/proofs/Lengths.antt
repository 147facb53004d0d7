-- Buckets: those of nodes are those of the nodes sorted by length, group by group. Assumes nothing.
use Prim.Native.Nat.{ℕ, ◌≤◌, ◌<◌}
use native.Mathlib.Omega.{arith}
use mathlib.Core.Bool.{Bool, true, false, cond}
use mathlib.Core.List.{List, [], ◌∷◌, ◌++◌, map, append-nil}
use mathlib.Core.Path.{◌≡◌, refl, ap, ◌∙◌}
use lib.Dec.{eqb, ltb}
use lib.ListN.{length}
use borrow.Author.Tests.{ltb-true, ltb-false, eqb-true, eqb-false, lt-ltb, le-ltb, eq-eqb, ne_eqb}
use Rattle.gfa_spec.specs.Bytes.{keep, sum, Each}
use Rattle.gfa_spec.proofs.Tests.{by_test}
use Rattle.gfa_spec.proofs.Each.{each_implies}
use Rattle.report_spec.specs.Nodes.{Node}
use Rattle.report_spec.specs.Order.{insert_len, lengths}
use Rattle.report_spec.specs.Lines.{bucket_line}
use Rattle.ranks.specs.Sorting.{insert_by, sort_by}
use Rattle.node_lines.specs.Groups.{bucket_of, buckets, Rising}

-- the order of nodes by length
unfoldable pub by_length : Node → Node → Bool
by_length a b = ltb a.sequence_len b.sequence_len

-- ---- lengths, each once, rising

-- by the order of two numbers
by_numbers : {P : Type 0} (a b : ℕ) → (a < b → P) → (a ≡ b → P) → (b < a → P) → P
by_numbers a b f g h = by_test (ltb a b) (λ e. f (ltb-true a b e)) (λ e. by_test (eqb a b) (λ d. g (eqb-true a b d)) (λ d. h (omega (arith, ltb-false a b e, eqb-false a b d))))

less : (n m : ℕ) (ms : List ℕ) → n < m → insert_len n (m ∷ ms) ≡ n ∷ (m ∷ ms)
unfolding insert_len
less n m ms h = rw (lt-ltb n m h)

there : (n m : ℕ) (ms : List ℕ) → n ≡ m → insert_len n (m ∷ ms) ≡ m ∷ ms
unfolding insert_len
there n m ms h = rw (le-ltb n m (omega arith), eq-eqb n m h)

more : (n m : ℕ) (ms : List ℕ) → m < n → insert_len n (m ∷ ms) ≡ m ∷ insert_len n ms
unfolding insert_len
more n m ms h = rw (le-ltb n m (omega arith), ne_eqb n m (λ e. omega arith))

-- two lengths go in in either order
swap : (n m : ℕ) (ls : List ℕ) → insert_len n (insert_len m ls) ≡ insert_len m (insert_len n ls)
swap n m [] =
    unfold insert_len in
    by_numbers n m
    (λ h. rw (lt-ltb n m h, le-ltb m n (omega arith), ne_eqb m n (λ e. omega arith)))
    (λ h. rw h)
    (λ h. rw (lt-ltb m n h, le-ltb n m (omega arith), ne_eqb n m (λ e. omega arith)))
swap n m (k ∷ ks) = go (swap n m ks)
  where
    go : insert_len n (insert_len m ks) ≡ insert_len m (insert_len n ks) → insert_len n (insert_len m (k ∷ ks)) ≡ insert_len m (insert_len n (k ∷ ks))
    go r =
        by_numbers n k
        (λ a. by_numbers m k
        (λ b. rw (less m k ks b, less n k ks a) (by_numbers n m
        (λ c. rw (less n m (k ∷ ks) c, more m n (k ∷ ks) c, less m k ks b))
        (λ c. rw c)
        (λ c. rw (more n m (k ∷ ks) c, less n k ks a, less m n (k ∷ ks) c))))
        (λ b. rw (there m k ks b, less n k ks a, more m n (k ∷ ks) (omega arith), there m k ks b))
        (λ b. rw (more m k ks b, less n k (insert_len m ks) a, less n k ks a, more m n (k ∷ ks) (omega arith), more m k ks b)))
        (λ a. by_numbers m k
        (λ b. rw (less m k ks b, there n k ks a, more n m (k ∷ ks) (omega arith), there n k ks a, less m k ks b))
        (λ b. rw (there m k ks b, there n k ks a, there m k ks b))
        (λ b. rw (more m k ks b, there n k (insert_len m ks) a, there n k ks a, more m k ks b)))
        (λ a. by_numbers m k
        (λ b. rw (less m k ks b, more n k ks a, more n m (k ∷ ks) (omega arith), more n k ks a, less m k (insert_len n ks) b))
        (λ b. rw (there m k ks b, more n k ks a, there m k (insert_len n ks) b))
        (λ b. rw (more m k ks b, more n k ks a, more n k (insert_len m ks) a, more m k (insert_len n ks) b, r)))

-- the lengths of sorted nodes are those of the nodes
lengths_insert : (a : Node) (xs : List Node) → lengths (insert_by by_length a xs) ≡ insert_len a.sequence_len (lengths xs)
unfolding lengths insert_by
lengths_insert a [] = refl
lengths_insert a (b ∷ bs) =
    by_test (by_length b a)
    (λ e. rw (e, lengths_insert a bs) (swap b.sequence_len a.sequence_len (lengths bs)))
    (λ e. rw e)

lengths_sorted : (ns : List Node) → lengths (sort_by by_length ns) ≡ lengths ns
unfolding lengths sort_by
lengths_sorted [] = refl
lengths_sorted (a ∷ ns) = lengths_insert a (sort_by by_length ns) ∙ ap (insert_len a.sequence_len) (lengths_sorted ns)

-- ---- the nodes of a length

module _ (n : ℕ) where
  -- is the node of that length?
  unfoldable of_length : Node → Bool
  of_length a = eqb a.sequence_len n

  keep_insert : (a : Node) (xs : List Node) → keep of_length (insert_by by_length a xs) ≡ keep of_length (a ∷ xs)
  unfolding keep insert_by
  keep_insert a [] = refl
  keep_insert a (b ∷ bs) =
      by_test (by_length b a)
      (λ e. rw (e, keep_insert a bs) (apart e (of_length a) (of_length b) refl refl))
      (λ e. rw e)
    where
      apart : by_length b a ≡ true → (s t : Bool) → of_length a ≡ s → of_length b ≡ t → cond (of_length b) (b ∷ cond (of_length a) (a ∷ keep of_length bs) (keep of_length bs)) (cond (of_length a) (a ∷ keep of_length bs) (keep of_length bs)) ≡
          cond (of_length a) (a ∷ cond (of_length b) (b ∷ keep of_length bs) (keep of_length bs)) (cond (of_length b) (b ∷ keep of_length bs) (keep of_length bs))
      apart e true true p q = absurd (unfold of_length by_length in omega (arith, eqb-true a.sequence_len n p, eqb-true b.sequence_len n q, ltb-true b.sequence_len a.sequence_len e))
      apart e true false p q = rw (p, q)
      apart e false t p q = rw p

  keep_sorted : (ns : List Node) → keep of_length (sort_by by_length ns) ≡ keep of_length ns
  unfolding keep sort_by
  keep_sorted [] = refl
  keep_sorted (a ∷ ns) = keep_insert a (sort_by by_length ns) ∙ rw (keep_sorted ns)

-- The buckets of nodes are those of the nodes sorted by length.
pub buckets_sorted : (ns : List Node) → buckets (sort_by by_length ns) ≡ buckets ns
unfolding buckets
buckets_sorted ns = rw (lengths_sorted ns) (same (lengths ns))
  where
    one : (k : ℕ) → bucket_line (sort_by by_length ns) k ≡ bucket_line ns k
    one k = given (unfold of_length in keep_sorted k ns)
      where
        given : keep (λ a. eqb a.sequence_len k) (sort_by by_length ns) ≡ keep (λ a. eqb a.sequence_len k) ns → bucket_line (sort_by by_length ns) k ≡ bucket_line ns k
        given e = unfold bucket_line in rw e

    same : (ls : List ℕ) → map (bucket_line (sort_by by_length ns)) ls ≡ map (bucket_line ns) ls
    same [] = refl
    same (l ∷ ls) = rw (one l, same ls)

-- ---- sorted nodes

-- The nodes sorted by length rise.
pub sorted_rising : (ns : List Node) → Rising (sort_by by_length ns)
unfolding sort_by insert_by
sorted_rising [] = tt
sorted_rising (a ∷ ns) = inserted (sort_by by_length ns) (sorted_rising ns)
  where
    behind : (b : Node) (xs : List Node) → b.sequence_len ≤ a.sequence_len → Each (λ c. b.sequence_len ≤ c.sequence_len) xs → Each (λ c. b.sequence_len ≤ c.sequence_len) (insert_by by_length a xs)
    behind b [] h k = (h, tt)
    behind b (c ∷ xs) h k = by_test (by_length c a) (λ e. rw e (k.0, behind b xs h k.1)) (λ e. rw e (h, k))

    inserted : (xs : List Node) → Rising xs → Rising (insert_by by_length a xs)
    inserted [] r = (tt, tt)
    inserted (b ∷ xs) r =
        by_test (by_length b a)
        (λ e. rw e (behind b xs (unfold by_length in omega (arith, ltb-true b.sequence_len a.sequence_len e)) r.0, inserted xs r.1))
        (λ e.
        let h : a.sequence_len ≤ b.sequence_len = unfold by_length in ltb-false b.sequence_len a.sequence_len e in
        rw e ((h, each_implies (λ c l. omega arith) xs r.0), r))

-- ---- the first group

-- what each length has, the lengths with one more have
each_length : (P : ℕ → Type 0) (n : ℕ) (ls : List ℕ) → P n → Each P ls → Each P (insert_len n ls)
unfolding insert_len
each_length P n [] h k = (h, tt)
each_length P n (m ∷ ms) h k = by_test (ltb n m) (λ e. rw e (h, k)) (λ e. by_test (eqb n m) (λ d. rw (e, d) k) (λ d. rw (e, d) (k.0, each_length P n ms h k.1)))

above : (n : ℕ) (ys : List Node) → Each (λ a. n < a.sequence_len) ys → Each (λ l. n < l) (lengths ys)
unfolding lengths
above n [] h = tt
above n (y ∷ ys) h = each_length (λ l. n < l) y.sequence_len (lengths ys) h.0 (above n ys h.1)

first_length : (n : ℕ) (ls : List ℕ) → Each (λ l. n < l) ls → insert_len n ls ≡ n ∷ ls
first_length n [] h = unfold insert_len in refl
first_length n (l ∷ ls) h = less n l ls h.0

lengths_group : (n : ℕ) (g ys : List Node) → 0 < length g → Each (λ a. a.sequence_len ≡ n) g → Each (λ a. n < a.sequence_len) ys → lengths (g ++ ys) ≡ n ∷ lengths ys
unfolding lengths
lengths_group n [] ys l h k = absurd (omega arith)
lengths_group n (a ∷ []) ys l h k = rw h.0 (first_length n (lengths ys) (above n ys k))
lengths_group n (a ∷ (b ∷ g)) ys l h k = rw (h.0, lengths_group n (b ∷ g) ys (omega arith) h.1 k) (there n n (lengths ys) refl)

keep_none : (k : ℕ) (ys : List Node) → Each (λ a. a.sequence_len ≡ k → ⊥) ys → keep (λ a. eqb a.sequence_len k) ys ≡ []
unfolding keep
keep_none k [] h = refl
keep_none k (y ∷ ys) h = rw (ne_eqb y.sequence_len k h.0) (keep_none k ys h.1)

keep_all : (k : ℕ) (g ys : List Node) → Each (λ a. a.sequence_len ≡ k) g → keep (λ a. eqb a.sequence_len k) (g ++ ys) ≡ g ++ keep (λ a. eqb a.sequence_len k) ys
unfolding keep
keep_all k [] ys h = refl
keep_all k (a ∷ g) ys h = rw (eq-eqb a.sequence_len k h.0, keep_all k g ys h.1)

keep_rest : (k : ℕ) (g ys : List Node) → Each (λ a. a.sequence_len ≡ k → ⊥) g → keep (λ a. eqb a.sequence_len k) (g ++ ys) ≡ keep (λ a. eqb a.sequence_len k) ys
unfolding keep
keep_rest k [] ys h = refl
keep_rest k (a ∷ g) ys h = rw (ne_eqb a.sequence_len k h.0) (keep_rest k g ys h.1)

-- Nodes of one length, before longer ones, are the first bucket.
pub buckets_group : (n : ℕ) (g ys : List Node) → 0 < length g → Each (λ a. a.sequence_len ≡ n) g → Each (λ a. n < a.sequence_len) ys →
    buckets (g ++ ys) ≡ bucket_of n (length g) (sum (map (λ a. a.links) g)) ∷ buckets ys
unfolding buckets
buckets_group n g ys l h k = rw (lengths_group n g ys l h k, first) (ap (λ r. bucket_of n (length g) (sum (map (λ a. a.links) g)) ∷ r) (rest (lengths ys) (above n ys k)))
  where
    first : bucket_line (g ++ ys) n ≡ bucket_of n (length g) (sum (map (λ a. a.links) g))
    first = given (keep_all n g ys h ∙ rw (keep_none n ys (each_implies (λ a b z. omega arith) ys k), append-nil))
      where
        given : keep (λ a. eqb a.sequence_len n) (g ++ ys) ≡ g → bucket_line (g ++ ys) n ≡ bucket_of n (length g) (sum (map (λ a. a.links) g))
        given e = unfold bucket_line bucket_of in rw e

    other : (m : ℕ) → n < m → bucket_line (g ++ ys) m ≡ bucket_line ys m
    other m b = given (keep_rest m g ys (each_implies (λ a c z. omega arith) g h))
      where
        given : keep (λ a. eqb a.sequence_len m) (g ++ ys) ≡ keep (λ a. eqb a.sequence_len m) ys → bucket_line (g ++ ys) m ≡ bucket_line ys m
        given e = unfold bucket_line in rw e

    rest : (ls : List ℕ) → Each (λ m. n < m) ls → map (bucket_line (g ++ ys)) ls ≡ map (bucket_line ys) ls
    rest [] b = refl
    rest (m ∷ ls) b = rw (other m b.0, rest ls b.1)
