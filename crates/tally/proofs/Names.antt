-- The names of nodes, each once, and the self-links of a node, with one link more. Assumes nothing.
use Prim.Native.Nat.{ℕ}
use mathlib.Core.Bool.{Bool, true, false, cond, ◌&&◌, ◌||◌}
use mathlib.Core.List.{List, [], ◌∷◌, ◌++◌, map, map-append}
use mathlib.Core.Path.{◌≡◌, refl, sym, ap, ◌∙◌}
use Rattle.gfa_spec.specs.Bytes.{same, any, keep}
use Rattle.gfa_spec.specs.Reading.{Link}
use Rattle.gfa_spec.specs.Records.{is_self_link}
use Rattle.gfa_spec.proofs.Tests.{by_test, clash, both, or_left, or_right, refute, same_equal, equal_same, same_sym}
use Rattle.report_spec.specs.Nodes.{each_once}
use Rattle.nodes.specs.Table.{links_among}
use Rattle.nodes.proofs.Pairs.{or_false}

-- ---- each name once

-- the first test of two does not matter where the second passes
pub or_true : (t : Bool) → (t || true) ≡ true
or_true true = refl
or_true false = refl

-- a name that is seen is seen under an equal name
seen_same : (x y : List ℕ) (seen : List (List ℕ)) → same x y ≡ true → any (same x) seen ≡ any (same y) seen
seen_same x y seen e = rw (same_equal x y e)

-- the names with one more: it is new where it was not seen
pub once_last : (seen xs : List (List ℕ)) (x : List ℕ) → each_once seen (xs ++ (x ∷ [])) ≡ each_once seen xs ++ cond (any (same x) seen || any (same x) xs) [] (x ∷ [])
unfolding each_once any
once_last seen [] x = rw (or_false (any (same x) seen))
once_last seen (y ∷ ys) x =
    by_test (any (same y) seen)
    (λ e. rw (e, once_last seen ys x, known e))
    (λ e. rw (e, once_last (y ∷ seen) ys x, swap (same x y) (any (same x) seen) (any (same x) ys)))
  where
    known : any (same y) seen ≡ true → (any (same x) seen || (same x y || any (same x) ys)) ≡ (any (same x) seen || any (same x) ys)
    known e = by_test (same x y) (λ f. rw (seen_same x y seen f, e)) (λ f. rw f)

    swap : (a b c : Bool) → ((a || b) || c) ≡ (b || (a || c))
    swap true true c = refl
    swap true false c = refl
    swap false b c = refl

-- a name is among them where it is among all
pub once_there : (seen xs : List (List ℕ)) (x : List ℕ) → any (same x) seen ≡ false → any (same x) (each_once seen xs) ≡ any (same x) xs
unfolding each_once any
once_there seen [] x h = refl
once_there seen (y ∷ ys) x h =
    by_test (any (same y) seen)
    (λ e. rw e (once_there seen ys x h ∙ absent e))
    (λ e. rw e (by_test (same x y) (λ f. rw f) (λ f. rw f (once_there (y ∷ seen) ys x (rw f h)))))
  where
    absent : any (same y) seen ≡ true → any (same x) ys ≡ (same x y || any (same x) ys)
    absent e = by_test (same x y) (λ f. clash e (sym (seen_same x y seen f) ∙ h)) (λ f. rw f)

-- ---- links of a node

-- a link's ends are both the node
unfoldable pub is_on : List ℕ → Link → Bool
is_on node l = same l.from node && same l.to node

keep_last : {A : Type 0} (p : A → Bool) (xs : List A) (x : A) → keep p (xs ++ (x ∷ [])) ≡ keep p xs ++ cond (p x) (x ∷ []) []
unfolding keep
keep_last p [] x = refl
keep_last p (y ∷ ys) x = by_test (p y) (λ e. rw (e, keep_last p ys x)) (λ e. rw (e, keep_last p ys x))

pub among_last : (ls : List Link) (l : Link) (node : List ℕ) → links_among (ls ++ (l ∷ [])) node ≡ links_among ls node ++ cond (is_on node l) (l ∷ []) []
unfolding links_among is_on
among_last ls l node = keep_last (is_on node) ls l

-- the names of self-links
unfoldable pub loop_names : List Link → List (List ℕ)
loop_names ls = map (λ l. l.from) (keep is_self_link ls)

pub loops_last : (ls : List Link) (l : Link) → loop_names (ls ++ (l ∷ [])) ≡ loop_names ls ++ cond (is_self_link l) (l.from ∷ []) []
unfolding loop_names
loops_last ls l = ap (map (λ l. l.from)) (keep_last is_self_link ls l) ∙ map-append (λ l. l.from) (keep is_self_link ls) (cond (is_self_link l) (l ∷ []) []) ∙ by_test (is_self_link l) (λ e. rw e) (λ e. rw e)

-- a self-link is on its name, and on no other
pub self_on : (l : Link) (node : List ℕ) → is_self_link l ≡ true → is_on node l ≡ same l.from node
unfolding is_self_link is_on
self_on l node e = rw (← same_equal l.from l.to e) (twice (same l.from node))
  where
    twice : (t : Bool) → (t && t) ≡ t
    twice true = refl
    twice false = refl

pub other_on : (l : Link) (node : List ℕ) → is_self_link l ≡ false → is_on node l ≡ false
unfolding is_self_link is_on
other_on l node e = refute (same l.from node && same l.to node) (λ t. let (p, q) = both t in clash (equal_same l.from l.to (same_equal l.from node p ∙ sym (same_equal l.to node q))) e)

-- a name that no self-link has has no self-links
pub among_none : (ls : List Link) (node : List ℕ) → any (same node) (loop_names ls) ≡ false → links_among ls node ≡ []
unfolding loop_names links_among keep any
among_none [] node h = refl
among_none (l ∷ ls) node h =
    by_test (is_self_link l)
    (λ e.
    let g : any (same node) (l.from ∷ map (λ l. l.from) (keep is_self_link ls)) ≡ false = rw e at h in
    let d = same_sym l.from node ∙ or_left (same node l.from) (any (same node) (map (λ l. l.from) (keep is_self_link ls))) g in
    rw d (among_none ls node (or_right (same node l.from) (any (same node) (map (λ l. l.from) (keep is_self_link ls))) g)))
    (λ e. let o : (same l.from node && same l.to node) ≡ false = other e in rw o (among_none ls node (rw e at h)))
  where
    other : is_self_link l ≡ false → (same l.from node && same l.to node) ≡ false
    other e = unfold is_on in other_on l node e
