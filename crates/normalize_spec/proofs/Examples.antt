-- The graphs that document 01 marks (p) under "Graphs to try", as one computed table, and its wrong ideas, refuted. Assumes nothing.
use Prim.Native.Nat.{ℕ, ◌+◌, ◌-◌, ◌*◌}
use Prim.Native.String.{String}
use native.Mathlib.Omega.{arith}
use mathlib.Core.Bool.{Bool, true, false, ◌&&◌}
use mathlib.Core.List.{List, [], ◌∷◌, map}
use mathlib.Core.Path.{◌≡◌, refl}
use lib.Dec.{T, eqb}
use lib.ListN.{length}
use Rattle.gfa_spec.specs.Bytes.{bytes, same, any, all, nth, join_with}
use Rattle.gfa_spec.specs.Reading.{Entry, Parsed, refused_at, parsed, parse}
use Rattle.gfa_spec.specs.Sequences.{complement}
use Rattle.gfa_spec.specs.Runs.{runs}
use Rattle.gfa_spec.specs.Calls.{Outcome, answer}
use Rattle.gfa_spec.specs.Services.{spell_path}
use Rattle.gfa_spec.proofs.Tests.{clash, equal_same}
use Rattle.normalize_spec.specs.Folding.{folded, is_folded_run, as_new, transform}
use Rattle.normalize_spec.specs.Links.{same_key, adjacent, added}
use Rattle.normalize_spec.specs.Writing.{p_token}
use Rattle.normalize_spec.specs.Counting.{Stats, unchanged}
use Rattle.normalize_spec.specs.Services.{Normal, normal, normalize}
use Rattle.normalize_spec.specs.Guarantees.{steps_of}
use Rattle.normalize_spec.proofs.Computing.{computing}

-- ---- how a row is said

-- a text, normalized under a cap with room and work enough
run : List ℕ → ℕ → Normal
run text cap = normalize text cap 16384 (4 * length text + 64)

-- the text of an accepted answer; a refusal has none
text_of : Normal → List ℕ
text_of (Normal.refusal r) = []
text_of (normal text st) = text

-- its counters; those of a refusal are 0
stats_of : Normal → Stats
stats_of (Normal.refusal r) = unchanged []
stats_of (normal text st) = st

-- is the answer this text?
answers : String → Normal → Bool
answers out (Normal.refusal r) = false
answers out (normal text st) = same text (bytes out)

-- is it the refusal of this number, line, place and length?
refuses : ℕ → ℕ → ℕ → ℕ → Normal → Bool
refuses number line from length (Normal.refusal r) = eqb r.number number && eqb r.line line && eqb r.from from && eqb r.length length
refuses number line from length (normal text st) = false

-- the text is accepted and becomes this text
becomes : String → ℕ → String → Bool
becomes text cap out = answers out (run (bytes text) cap)

-- it is refused so
stops : String → ℕ → (number line from length : ℕ) → Bool
stops text cap number line from length = refuses number line from length (run (bytes text) cap)

-- these of its counters are these numbers
counts : String → ℕ → (Stats → List ℕ) → List ℕ → Bool
counts text cap f ns = same (f (stats_of (run (bytes text) cap))) ns

-- the entries of a text
entries_of : Parsed → List Entry
entries_of (refused_at number line) = []
entries_of (parsed es) = es

-- the steps of the first path, as a P line has them
visits : String → String → Bool
visits text out = same (join_with 44 (map p_token (map as_new (steps_of (entries_of (parse (bytes text))) 0)))) (bytes out)

-- is the answer these bytes?
spelt_as : List ℕ → Outcome → Bool
spelt_as out (Outcome.refusal r) = false
spelt_as out (answer bs) = same out bs

-- what the first path spells
spells : String → String → Bool
spells text out = spelt_as (bytes out) (spell_path (bytes text) 0 16384 (4 * length (bytes text) + 64))

-- the fourteen counters
fourteen : Stats → List ℕ
fourteen s =
    s.input_direct_self_loop_edges
    ∷ s.output_direct_self_loop_edges
    ∷ s.input_adjacent_same_node_path_steps
    ∷ s.output_adjacent_same_node_path_steps
    ∷ s.input_adjacent_same_step_path_steps
    ∷ s.output_adjacent_same_step_path_steps
    ∷ s.normalized_nodes
    ∷ s.collapsed_runs
    ∷ s.created_segments
    ∷ s.added_links
    ∷ s.removed_self_loop_links
    ∷ s.paths_changed
    ∷ s.path_steps_before
    ∷ s.path_steps_after
    ∷ []

-- ---- the graphs

-- the listing's input
listing : String
listing = "S\t1\tAC\nL\t1\t+\t1\t+\t0M\nP\tp\t1+,1+,1+\t*\n"

-- the same with a path on the unknown segment 9
unknown : String
unknown = "S\t1\tAC\nL\t1\t+\t1\t+\t0M\nP\tp\t1+,1+,1+\t*\nP\tq\t9+\t*\n"

-- a path that turns round on its segment
turning : String
turning = "S\t1\tAC\nL\t1\t+\t1\t+\t0M\nP\tp\t1+,1+,1-,1-\t*\n"

-- a segment 2 without a self-link
second : String
second = "S\t1\tAC\nS\t2\tG\nL\t1\t+\t1\t+\t0M\nP\tp\t1+,1+,2+,2+\t*\n"

-- ---- the table

-- The rows, in the order of the document.
pub table : List Bool
table =
    -- the empty text
    becomes "" 0 ""
    ∷ counts "" 0 fourteen (0 ∷ 0 ∷ 0 ∷ 0 ∷ 0 ∷ 0 ∷ 0 ∷ 0 ∷ 0 ∷ 0 ∷ 0 ∷ 0 ∷ 0 ∷ 0 ∷ [])
    -- the listing's input: steps 3 to 1, created 1, removed 1, added 0; cap 1 returns it, cap 2 folds
    ∷ becomes listing 0 "S\t1\tAC\nS\t2\tACACAC\nP\tp\t2+\t*\n"
    ∷ counts listing 0 fourteen (1 ∷ 0 ∷ 2 ∷ 0 ∷ 2 ∷ 0 ∷ 1 ∷ 1 ∷ 1 ∷ 0 ∷ 1 ∷ 1 ∷ 3 ∷ 1 ∷ [])
    ∷ becomes listing 1 listing
    ∷ counts listing 1 fourteen (1 ∷ 1 ∷ 2 ∷ 2 ∷ 2 ∷ 2 ∷ 0 ∷ 0 ∷ 0 ∷ 0 ∷ 0 ∷ 0 ∷ 3 ∷ 3 ∷ [])
    ∷ becomes listing 2 "S\t1\tAC\nS\t2\tACACAC\nP\tp\t2+\t*\n"
    -- with a path on unknown 9, the byte at 39: cap 1 accepted, cap 0 gives 18
    ∷ becomes unknown 1 unknown
    ∷ stops unknown 0 18 0 39 1
    -- pairs on one node 3 to 1, equal pairs 2 to 0
    ∷ becomes turning 0 "S\t1\tAC\nS\t2\tACAC\nL\t2\t+\t2\t-\t0M\nP\tp\t2+,2-\t*\n"
    ∷ counts turning 0 fourteen (1 ∷ 1 ∷ 3 ∷ 1 ∷ 2 ∷ 0 ∷ 1 ∷ 2 ∷ 1 ∷ 1 ∷ 1 ∷ 1 ∷ 4 ∷ 2 ∷ [])
    -- 3+ 2+ and 2+ 2+ are added
    ∷ becomes second 0 "S\t1\tAC\nS\t2\tG\nS\t3\tACAC\nL\t3\t+\t2\t+\t0M\nL\t2\t+\t2\t+\t0M\nP\tp\t3+,2+,2+\t*\n"
    -- IDs 1 and 007: next is 8; +5 alone: 6
    ∷ becomes "S\t1\tAC\nS\t007\tG\nL\t1\t+\t1\t+\t0M\nP\tp\t1+,1+\t*\n" 0 "S\t1\tAC\nS\t007\tG\nS\t8\tACAC\nP\tp\t8+\t*\n"
    ∷ becomes "S\t+5\tAC\nL\t+5\t+\t+5\t+\t0M\nP\tp\t+5+,+5+\t*\n" 0 "S\t+5\tAC\nS\t6\tACAC\nP\tp\t6+\t*\n"
    -- the largest ID ends in 613: next ends in 614; in 614: names are used
    ∷ becomes "S\t18446744073709551613\tAC\nL\t18446744073709551613\t+\t18446744073709551613\t+\t0M\nP\tp\t18446744073709551613+,18446744073709551613+\t*\n" 0
    "S\t18446744073709551613\tAC\nS\t18446744073709551614\tACAC\nP\tp\t18446744073709551614+\t*\n"
    ∷ becomes "S\t18446744073709551614\tAC\nL\t18446744073709551614\t+\t18446744073709551614\t+\t0M\nP\tp\t18446744073709551614+,18446744073709551614+\t*\n" 0
    "S\t18446744073709551614\tAC\nS\t18446744073709551614_selfloop_run2\tACAC\nP\tp\t18446744073709551614_selfloop_run2+\t*\n"
    -- segments a+ and a-, folded in that order, runs of 2
    ∷ becomes "S\ta+\tA\nS\ta-\tC\nL\ta+\t+\ta+\t+\t0M\nL\ta-\t+\ta-\t+\t0M\nP\tp\ta++,a++,a-+,a-+\t*\n" 0
    "S\ta+\tA\nS\ta-\tC\nS\ta__selfloop_run2\tAA\nS\ta__selfloop_run2_1\tCC\nL\ta__selfloop_run2\t+\ta__selfloop_run2_1\t+\t0M\nP\tp\ta__selfloop_run2+,a__selfloop_run2_1+\t*\n"
    -- walks: ab>c is c+; >< 15; abc 16; > 17
    ∷ visits "W\ts\t0\tn\t0\t1\tab>c\n" "c+"
    ∷ stops "W\ts\t0\tn\t0\t1\t><\n" 0 15 1 0 0
    ∷ stops "W\ts\t0\tn\t0\t1\tabc\n" 0 16 1 0 0
    ∷ stops "W\ts\t0\tn\t0\t1\t>\n" 0 17 1 0 0
    -- step lists: ,1+,, one step; 1 and + 13; ++ names +
    ∷ visits "P\tp\t,1+,,\t*\n" "1+"
    ∷ stops "P\tp\t1\t*\n" 0 13 1 0 0
    ∷ stops "P\tp\t+\t*\n" 0 13 1 0 0
    ∷ visits "P\tp\t++\t*\n" "++"
    -- the sequence acGN reversed spells NCGT
    ∷ spells "S\t1\tacGN\nP\tp\t1-\t*\n" "NCGT"
    -- of the reviewer's checklist: every path is folded, not the first alone
    ∷ becomes "S\t1\tAC\nL\t1\t+\t1\t+\t0M\nP\tp\t1+,1+\t*\nP\tq\t1-,1-\t*\n" 0 "S\t1\tAC\nS\t2\tACAC\nP\tp\t2+\t*\nP\tq\t2-\t*\n"
    ∷ []

-- Every row holds.
pub table_holds : T (all (λ b. b) table)
unfolding table listing unknown turning second becomes stops counts visits spells spelt_as entries_of answers refuses stats_of run fourteen computing
table_holds = tt

-- ---- wrong ideas

-- what a text becomes under no cap
unfoldable pub normalized : List ℕ → List ℕ
unfolding run text_of
normalized text = text_of (run text 0)

-- a counter of a text under no cap
unfoldable pub counter : (Stats → ℕ) → List ℕ → ℕ
unfolding run stats_of
counter f text = f (stats_of (run text 0))

-- the first normalization adds the link 2+ 2+, so that segment 2 is eligible in the second
second_again : same (normalized (normalized (bytes second))) (normalized (bytes second)) ≡ false
unfolding normalized second computing
second_again = refl

-- Wrong: to normalize twice is to normalize once.
pub twice_is_not_once : ((text : List ℕ) → normalized (normalized text) ≡ normalized text) → ⊥
twice_is_not_once h = clash (equal_same (normalized (normalized (bytes second))) (normalized (bytes second)) (h (bytes second))) second_again

-- Wrong: to complement twice restores a byte; a becomes A.
pub complement_loses_case : ((b : ℕ) → complement (complement b) ≡ b) → ⊥
unfolding computing
complement_loses_case h = omega (arith, h 97)

-- a run that turns round once: one step is lost, and two pairs on one node
half_turn : String
half_turn = "S\t1\tAC\nL\t1\t+\t1\t+\t0M\nP\tp\t1+,1+,1-\t*\n"

-- Wrong: the lost steps are the fall in pairs on one node.
pub lost_is_not_node_fall : ((text : List ℕ)
    → counter (λ s. s.path_steps_before - s.path_steps_after) text
    ≡ counter (λ s. s.input_adjacent_same_node_path_steps - s.output_adjacent_same_node_path_steps) text) → ⊥
unfolding counter half_turn computing
lost_is_not_node_fall h = omega (arith, h (bytes half_turn))

-- a path on segment 1 that changes, and a path on segment 2 that does not
bystander : String
bystander = "S\t1\tAC\nS\t2\tG\nL\t1\t+\t1\t+\t0M\nP\tp\t1+,1+\t*\nP\tq\t2+,2+\t*\n"

-- path k has a folded run
unfoldable pub changes : List Entry → ℕ → Bool
changes es k = any (is_folded_run (folded es 0)) (runs (steps_of es k))

-- a link was added for a pair of path k
unfoldable pub gets_link : List Entry → ℕ → Bool
gets_link es k = any (λ key. any (same_key key) (added es 0)) (adjacent (nth k (transform es 0).paths []))

-- Wrong: only changed paths get links.
pub unchanged_paths_get_links : ((es : List Entry) (k : ℕ) → gets_link es k ≡ true → changes es k ≡ true) → ⊥
unfolding changes gets_link bystander entries_of computing
unchanged_paths_get_links h = let es = entries_of (parse (bytes bystander)) in clash (h es 1 refl) refl
