-- The loops that find a group and write the buckets. Assumes nothing.
use Prim.Native.Nat.{ℕ, zero, suc, ◌+◌, ◌*◌, ◌-◌, ◌≤◌, ◌<◌}
use native.Mathlib.Decide.{ℕ_discrete}
use native.Mathlib.Omega.{arith}
use mathlib.Core.List.{List, [], ◌∷◌, ◌++◌, map, map-append, append_assoc, append-nil}
use mathlib.Core.Path.{◌≡◌, refl, sym, ap, ◌∙◌}
use lib.ListN.{length, get_or, length-map}
use Rattle.gfa_spec.specs.Bytes.{sum, join, end_line, ended, Each}
use Rattle.gfa_spec.proofs.Each.{each_append, each_map, each_implies}
use Rattle.work.specs.Rows.{rows_at}
use Rattle.work.proofs.Rows.{rows_length}
use Rattle.writers.specs.declared.writer.Writer.{Writer}
use Rattle.writers.specs.Writers.{Puts}
use Rattle.writers.proofs.Writing.{as_piece, puts_nothing, ◌▷◌}
use Rattle.writers.proofs.Joining.{ended_first}
use Rattle.report_spec.specs.Nodes.{Node}
use Rattle.report_spec.specs.Order.{lengths}
use Rattle.nodes.specs.declared.nodes.NodeWords.{NodeWords}
use Rattle.nodes.specs.Table.{nodes_end, node_no, NodeRead}
use Rattle.node_lines.specs.declared.buckets.Group.{Group}
use Rattle.ranks.specs.Ranking.{word_at, nums_at}
use Rattle.node_lines.specs.declared.buckets.Groups.{Groups}
use Rattle.node_lines.specs.Groups.{buckets, bucket_of, Rising, RowNumbers, long_of, group_links, GroupIs, Sized, BucketsIs}
use Rattle.node_lines.specs.GroupsLeft.{GroupsOf, FirstGroup, NoGroup}
use Rattle.tally.proofs.PathCounting.{sum_last}
use Rattle.ranks.proofs.Merges.{nums_snoc, nums_split, nums_cons, nums_none}
use Rattle.node_lines.proofs.Lengths.{buckets_group}

-- ---- a group

-- The state at j: the numbers from i up to j have one length.
pub record Grouping (work : List ℕ) (table nums m i long links j : ℕ) : Type 0 where
  pub numbered : RowNumbers work table nums m
  pub start : i < m
  pub is : long ≡ long_of work table nums i
  pub low : i ≤ j
  pub high : j ≤ m
  pub same : (k : ℕ) → i ≤ k → k < j → long_of work table nums k ≡ long
  pub total : links ≡ group_links work table nums i (j - i)
  pub small : links ≤ (j - i) * 4294967295

-- the self-links with one more number
links_more : (work : List ℕ) (table nums i j : ℕ) → i ≤ j → group_links work table nums i (j + 1 - i) ≡ group_links work table nums i (j - i) + (node_no work table (get_or work (nums + j) 0)).links
unfolding group_links
links_more work table nums i j h =
    let e : j + 1 - i ≡ j - i + 1 = omega arith in
    let f : nums + i + (j - i) ≡ nums + j = omega arith in
    rw (e, nums_snoc work (nums + i) (j - i), f) (sum_last (λ k. (node_no work table k).links) (nums_at work (nums + i) (j - i)) (get_or work (nums + j) 0))

-- number k is that of a row
pub number_room : {work : List ℕ} {table nums m v k : ℕ} → RowNumbers work table nums m → k < m → v ≡ get_or work (nums + k) 0 → nodes_end table (v + 1) ≤ length work
number_room {k = k} s h e = rw e (s.rows k h)

module _ {work : List ℕ} {table nums m i : ℕ} where
  pub grouping_start : {v : ℕ} {w : NodeWords} → RowNumbers work table nums m → i < m → v ≡ get_or work (nums + i) 0 → NodeRead work table v w → Grouping work table nums m i w.long 0 i
  unfolding long_of
  grouping_start {v} {w} s h f e =
      record {
        numbered = s;
        start = h;
        is = ap (λ a. a.long) e.is ∙ ap (λ v. (node_no work table v).long) f;
        low = omega arith;
        high = omega arith;
        same = λ k l u. absurd (omega arith);
        total = (let z : i - i ≡ 0 = omega arith in rw z (unfold group_links nums_at rows_at sum in refl));
        small = omega arith;
      }

  module _ {long links j : ℕ} (s : Grouping work table nums m i long links j) where
    module _ {v : ℕ} {w : NodeWords} (e : NodeRead work table v w) (f : v ≡ get_or work (nums + j) 0) where
      here : w.long ≡ long_of work table nums j
      unfolding long_of
      here = ap (λ a. a.long) e.is ∙ ap (λ v. (node_no work table v).long) f

      pub grouping_stop : j < m → (w.long ≡ long → ⊥) → GroupIs work table nums m i (record { start = i; end = j; long = long; links = links })
      grouping_stop h d =
          record {
            start = refl;
            low = beyond (ℕ_discrete i j);
            high = s.high;
            long = s.is;
            same = s.same;
            stop = λ u z. d (here ∙ z);
            links = s.total;
          }
        where
          beyond : Dec (i ≡ j) → i < j
          beyond (yes z) = absurd (d (here ∙ rw (← z) (sym s.is)))
          beyond (no z) = omega (arith, s.low)

      pub grouping_more : j < m → w.long ≡ long → Grouping work table nums m i long (links + w.links) (j + 1)
      grouping_more h d =
          record {
            numbered = s.numbered;
            start = s.start;
            is = s.is;
            low = omega (arith, s.low);
            high = omega arith;
            same = λ k a b. go k a b (ℕ_discrete k j);
            total = rw (links_more work table nums i j s.low, ← s.total, ← f) (ap (λ a. links + a.links) e.is);
            small = omega (arith, s.small, s.low, e.small);
          }
        where
          go : (k : ℕ) → i ≤ k → k < j + 1 → Dec (k ≡ j) → long_of work table nums k ≡ long
          go k a b (yes z) = rw z (sym here ∙ d)
          go k a b (no z) = s.same k a (omega arith)

    pub grouping_end : m ≤ j → GroupIs work table nums m i (record { start = i; end = m; long = long; links = links })
    grouping_end h =
        let all : j ≡ m = omega (arith, s.high) in
        record {
          start = refl;
          low = s.start;
          high = omega arith;
          long = s.is;
          same = λ k a l. s.same k a (omega arith);
          stop = λ u z. absurd (omega arith);
          links = rw all at s.total;
        }

-- The bucket of a group from number i on, which ends at r, was written.
record Bucketed (before : Writer) (work : List ℕ) (table nums m i : ℕ) (after : Writer) (r : ℕ) : Type 0 where
  low : i < r
  high : r ≤ m
  same : (k : ℕ) → i ≤ k → k < r → long_of work table nums k ≡ long_of work table nums i
  stop : r < m → long_of work table nums r ≡ long_of work table nums i → ⊥
  puts : Puts before (end_line (bucket_of (long_of work table nums i) (r - i) (group_links work table nums i (r - i)))) after

bucketed : {v w : Writer} {work : List ℕ} {table nums m i : ℕ} {g : Group} → GroupIs work table nums m i g → Puts v (end_line (bucket_of g.long (g.end - g.start) g.links)) w
    → Bucketed v work table nums m i w g.end
bucketed q p =
    record {
      low = q.low;
      high = q.high;
      same = λ k a b. q.same k a b ∙ q.long;
      stop = λ u z. q.stop u (z ∙ sym q.long);
      puts = rw (q.start, q.long, q.links) at p;
    }

-- ---- the buckets

-- a fact of each number of a part of the list
each_nums : (P : ℕ → Type 0) (work : List ℕ) (nums i d : ℕ) → ((k : ℕ) → i ≤ k → k < i + d → P (get_or work (nums + k) 0)) → Each P (nums_at work (nums + i) d)
each_nums P work nums i zero h = unfold nums_at rows_at in tt
each_nums P work nums i (suc d) h =
    let e : suc d ≡ d + 1 = omega arith in
    let f : nums + i + d ≡ nums + (i + d) = omega arith in
    rw (e, nums_snoc work (nums + i) d, f)
    (each_append P (nums_at work (nums + i) d) (get_or work (nums + (i + d)) 0 ∷ [])
    (each_nums P work nums i d (λ k a b. h k a (omega arith)))
    (h (i + d) (omega arith) (omega arith), tt))

-- the first node, where there is one
unfoldable first_node : List Node → List Node
first_node [] = []
first_node (x ∷ xs) = x ∷ []

-- what rises rises behind a front, and is no shorter
rising_back : (g ys : List Node) → Rising (g ++ ys) → Rising ys
rising_back [] ys h = h
rising_back (a ∷ g) ys h = rising_back g ys h.1

rising_above : (n : ℕ) (g ys : List Node) → 0 < length g → Each (λ a. a.sequence_len ≡ n) g → Rising (g ++ ys) → Each (λ a. n ≤ a.sequence_len) ys
rising_above n [] ys l h r = absurd (omega arith)
rising_above n (a ∷ g) ys l h r = each_implies (λ b q. omega (arith, h.0)) ys (behind g r.0)
  where
    behind : (g : List Node) → Each (λ b. a.sequence_len ≤ b.sequence_len) (g ++ ys) → Each (λ b. a.sequence_len ≤ b.sequence_len) ys
    behind [] h = h
    behind (b ∷ g) h = behind g h.1

rising_over : (n : ℕ) (ys : List Node) → Each (λ a. n ≤ a.sequence_len) ys → Rising ys → Each (λ a. a.sequence_len ≡ n → ⊥) (first_node ys) → Each (λ a. n < a.sequence_len) ys
unfolding first_node
rising_over n [] h r d = tt
rising_over n (y ∷ ys) h r d =
    let l : n < y.sequence_len = omega (arith, h.0, d.0) in
    (l, each_implies (λ b q. omega arith) ys r.0)

-- the self-links of nodes are those of their rows
sized_links : {work : List ℕ} {table : ℕ} (node : ℕ → Node) → Sized node work table → (ns : List ℕ) → sum (map (λ a. a.links) (map node ns)) ≡ sum (map (λ k. (node_no work table k).links) ns)
unfolding sum
sized_links node z [] = refl
sized_links node z (k ∷ ns) = rw (z.links k, sized_links node z ns)

-- The front of a whole, of which a rest is left, was put.
pub record Front (first now : Writer) (whole rest : List ℕ) : Type 0 where
  pub piece : List ℕ
  pub puts : Puts first piece now
  pub split : whole ≡ piece ++ rest

-- The buckets of the numbers before number i are written.
record Written (first : Writer) (work : List ℕ) (table nums m : ℕ) (now : Writer) (i : ℕ) : Type 0 where
  high : i ≤ m
  same : now.out.ghost_name ≡ first.out.ghost_name
  limit : now.limit ≡ first.limit
  front : (node : ℕ → Node) → Sized node work table → Rising (map node (nums_at work nums m)) →
      Front first now (ended (buckets (map node (nums_at work nums m)))) (ended (buckets (map node (nums_at work (nums + i) (m - i)))))
  rising : (node : ℕ → Node) → Rising (map node (nums_at work nums m)) → Rising (map node (nums_at work (nums + i) (m - i)))

-- The state of the loop over groups: the buckets of those before the ones that are left are written.
pub record Bucketing (first : Writer) (work : List ℕ) (table nums m : ℕ) (now : Writer) (it : Groups) : Type 0 where
  at : ℕ
  ahead : GroupsOf work table nums m at it
  written : Written first work table nums m now at

module _ {first : Writer} {work : List ℕ} {table nums m : ℕ} where
  written_start : Written first work table nums m first 0
  written_start =
      let a : nums + 0 ≡ nums = omega arith in
      let c : m - 0 ≡ m = omega arith in
      record {
        high = omega arith;
        same = refl;
        limit = refl;
        front = λ node z r. record { piece = []; puts = puts_nothing; split = rw (a, c) };
        rising = λ node r. rw (a, c) r;
      }

  pub bucketing_start : {of it : Groups} → GroupsOf work table nums m 0 of → it ≡ of → Bucketing first work table nums m first it
  bucketing_start o e = record { at = 0; ahead = rw e o; written = written_start }

  module _ {now : Writer} {i : ℕ} (s : Written first work table nums m now i) where
    written_more : {after : Writer} {r : ℕ} → Bucketed now work table nums m i after r → Written first work table nums m after r
    written_more {after} {r} q =
        record {
          high = q.high;
          same = q.puts.same ∙ s.same;
          limit = q.puts.limit ∙ s.limit;
          front = λ node z u. let f = s.front node z u in record { piece = f.piece ++ _; puts = f.puts ▷ q.puts; split = f.split ∙ rw (cut node z (s.rising node u), append_assoc) };
          rising = λ node u. rising_back (map node (nums_at work (nums + i) (r - i))) (map node (nums_at work (nums + r) (m - r))) (rw (halves node) at (s.rising node u));
        }
      where
        halves : (node : ℕ → Node) → map node (nums_at work (nums + i) (m - i)) ≡ map node (nums_at work (nums + i) (r - i)) ++ map node (nums_at work (nums + r) (m - r))
        halves node =
            let e : m - i ≡ r - i + (m - r) = omega (arith, q.low, q.high) in
            let f : nums + i + (r - i) ≡ nums + r = omega (arith, q.low) in
            ap (λ d. map node (nums_at work (nums + i) d)) e
            ∙ ap (map node) (nums_split work (nums + i) (r - i) (m - r))
            ∙ map-append node (nums_at work (nums + i) (r - i)) (nums_at work (nums + i + (r - i)) (m - r))
            ∙ rw f

        cut : (node : ℕ → Node) → Sized node work table → Rising (map node (nums_at work (nums + i) (m - i))) →
            ended (buckets (map node (nums_at work (nums + i) (m - i))))
            ≡ end_line (bucket_of (long_of work table nums i) (r - i) (group_links work table nums i (r - i)))
            ++ ended (buckets (map node (nums_at work (nums + r) (m - r))))
        cut node z u =
            let ns = nums_at work (nums + i) (r - i) in
            let g = map node ns in
            let ys = map node (nums_at work (nums + r) (m - r)) in
            let n = long_of work table nums i in
            let size : length g ≡ r - i = length-map ns node ∙ (unfold nums_at in rows_length word_at 1 work (nums + i) (r - i)) in
            let some : 0 < length g = omega (arith, size, q.low) in
            let group : Each (λ a. a.sequence_len ≡ n) g =
            each_map (λ a. a.sequence_len ≡ n) node ns
            (each_nums (λ k. (node k).sequence_len ≡ n) work nums i (r - i)
            (λ k a b. unfold long_of in (z.long (get_or work (nums + k) 0) ∙ q.same k a (omega (arith, q.low))))) in
            let all = rw (halves node) at u in
            let over = rising_over n ys (rising_above n g ys some group all) (rising_back g ys all) (next_longer node z (ℕ_discrete r m)) in
            rw (halves node, buckets_group n g ys some group over, ended_first, size, sized_links node z ns) (unfold group_links in refl)
          where
            next_longer : (node : ℕ → Node) → Sized node work table → Dec (r ≡ m)
                → Each (λ a. a.sequence_len ≡ long_of work table nums i → ⊥) (first_node (map node (nums_at work (nums + r) (m - r))))
            next_longer node z (yes e) = rw (nums_none work nums r m (omega arith)) (unfold first_node in tt)
            next_longer node z (no e) =
                let l : r < m = omega (arith, q.high) in
                rw (nums_cons work nums r m l) (unfold first_node long_of in ((λ d. q.stop l (sym (z.long (get_or work (nums + r) 0)) ∙ d)), tt))

    written_end : m ≤ i → BucketsIs first work table nums m now
    written_end h =
        record {
          same = s.same;
          limit = s.limit;
          puts = λ node z u. let f = s.front node z u in as_piece (sym (f.split ∙ rw (nums_none work nums i m h) (unfold buckets lengths ended join in append-nil f.piece))) f.puts;
        }

  module _ {now : Writer} {it it' : Groups} (s : Bucketing first work table nums m now it) where
    module _ {g : Group} (f : FirstGroup it g it') where
      its_group : GroupIs work table nums m s.at g
      its_group = let a = s.ahead in rw (a.its_work, a.its_table, a.its_nums, a.its_count, a.its_first) at f.group

      pub bucketing_more : {after : Writer} → Puts now (end_line (bucket_of g.long (g.end - g.start) g.links)) after → Bucketing first work table nums m after it'
      bucketing_more p =
          let a = s.ahead in
          record { at = g.end; ahead = rw (a.its_work, a.its_table, a.its_nums, a.its_count) at f.left; written = written_more s.written (bucketed its_group p) }

    pub bucketing_end : NoGroup it it' → BucketsIs first work table nums m now
    bucketing_end n = let a = s.ahead in written_end s.written (rw (a.its_count, a.its_first) at n.none)
