-- The steps of P and W lines that the specification allows are read as it states them. Assumes nothing.
use Prim.Native.Nat.{ℕ, suc}
use mathlib.Core.Bool.{Bool, true, false, cond, not, true≢false, false≢true}
use mathlib.Core.List.{List, [], ◌∷◌, map, drop_last}
use mathlib.Core.Path.{◌≡◌, refl, sym, ap, ◌∙◌}
use lib.Dec.{eqb}
use borrow.Author.Tests.{not-true, eqb-true}
use Rattle.gfa_spec.specs.Bytes.{bytes, star, is_empty, all, Part, bytes_of, split, last_byte, prepend, between, same}
use Rattle.gfa_spec.specs.Reading.{Step, Read, accepted, then, is_step, step_of, parse_items, parse_psteps, is_mark, orientation_of, walk, non_empty, parse_wsteps}
use Rattle.gfa_spec.specs.Reading as reading
use Rattle.gfa_spec.specs.Gfa1.{in_class, matches, is_name, is_sign, ends_item, items, is_item, are_items, starts_step, walk_steps, is_walk_step, is_walk, Visit, item_visit, walk_visit, lacks_comma}
use Rattle.gfa_spec.specs.Gfa1Read.{visit_of}
use Rattle.gfa_spec.proofs.Tests.{by_test, both, same_equal, all_cons, cons_all}
use Rattle.gfa_spec.proofs.Each.{each_map, each_of_map, each_implies, all_each}
use Rattle.gfa_spec.proofs.Splitting.{split_between}
use Rattle.gfa_spec.proofs.Steps.{non_empty_kept}

-- strings that a test tells apart differ
differs : (p : List ℕ → Bool) (f g : List ℕ) → p f ≡ true → p g ≡ false → same f g ≡ false
differs p f g h k = by_test (same f g) (λ e. absurd (true≢false (sym h ∙ ap p (same_equal f g e) ∙ k))) (λ e. e)

-- ---- the items of a P list

-- + and - are no commas
sign_comma : (b : ℕ) → is_sign b ≡ true → eqb b 44 ≡ false
unfolding is_sign in_class bytes
sign_comma b h =
    by_test (eqb b 43)
    (λ e. rw (eqb-true b 43 e))
    (λ e. rw (eqb-true b 45 (rw e at h)))

-- where an item ends there is a comma, and no comma before it
pub ends_item_bytes : (b c : ℕ) → ends_item b c ≡ true → (eqb b 44 ≡ false) × (eqb c 44 ≡ true)
unfolding ends_item
ends_item_bytes b c h = let hs = both h in (sign_comma b hs.0, hs.1)

-- what a string lacks, its first byte and the rest lack
lacks_cons : (b : ℕ) (s : List ℕ) → lacks_comma (b ∷ s) ≡ true → (eqb b 44 ≡ false) × (lacks_comma s ≡ true)
unfolding lacks_comma all
lacks_cons b s h = let hs = both h in (not-true (eqb b 44) hs.0, hs.1)

-- what strings lack, a byte put before the first being no comma
lacks_prepend : (b : ℕ) (ss : List (List ℕ)) → all lacks_comma (prepend b ss) ≡ true → (eqb b 44 ≡ false) × (all lacks_comma ss ≡ true)
unfolding prepend all
lacks_prepend b [] h = ((lacks_cons b [] (both h).0).0, refl)
lacks_prepend b (s ∷ ss) h = let hs = both h in let k = lacks_cons b s hs.0 in (k.0, cons_all lacks_comma s ss k.1 hs.1)

-- with no comma in an item, the items stand between the commas
items_between : (s : List ℕ) → all lacks_comma (items s) ≡ true → items s ≡ between 44 s
unfolding items between all prepend
items_between [] h = refl
items_between (b ∷ []) h = rw (lacks_cons b [] (both h).0).0
items_between (b ∷ (c ∷ bs)) h =
    by_test (ends_item b c)
    (λ e. let k = ends_item_bytes b c e in rw (e, k.0, k.1, items_between bs (all_cons lacks_comma (b ∷ []) (items bs) (rw e at h)).1))
    (λ e. let k = lacks_prepend b (items (c ∷ bs)) (rw e at h) in rw (e, k.0, items_between (c ∷ bs) k.1))

-- an item lacks what its name lacks
lacks_item : (i : List ℕ) → is_sign (last_byte i) ≡ true → lacks_comma (drop_last i) ≡ true → lacks_comma i ≡ true
unfolding last_byte lacks_comma all
lacks_item [] h k = refl
lacks_item (b ∷ []) h k = rw (sign_comma b h)
lacks_item (b ∷ (c ∷ bs)) h k = let ks = both k in cons_all (λ x. not (eqb x 44)) b (c ∷ bs) ks.0 (lacks_item (c ∷ bs) h ks.1)

-- items lack commas where their names do
lacks_items : (is : List (List ℕ)) → all is_item is ≡ true → all (λ v. lacks_comma v.name) (map item_visit is) ≡ true → all lacks_comma is ≡ true
unfolding all is_item item_visit
lacks_items [] h k = refl
lacks_items (i ∷ is) h k =
    let hs = both h in
    let ks = both k in
    cons_all lacks_comma i is (lacks_item i (both hs.0).0 ks.0) (lacks_items is hs.1 ks.1)

-- a name is not empty
name_some : (s : List ℕ) → is_name s ≡ true → is_empty s ≡ false
unfolding is_name matches is_empty
name_some [] h = absurd (false≢true h)
name_some (b ∷ bs) h = refl

-- an item is not empty
item_some : (i : List ℕ) → is_item i ≡ true → is_empty i ≡ false
unfolding is_item is_name matches is_empty is_sign last_byte in_class bytes
item_some [] h = absurd (false≢true h)
item_some (b ∷ bs) h = refl

-- the reader and the definition have one + and -
sign_orientation : (b : ℕ) → reading.is_orientation b ≡ is_sign b
unfolding is_sign reading.is_orientation in_class bytes
sign_orientation b = refl

-- an item is a step of the reader
item_step : (i : List ℕ) → is_item i ≡ true → is_step i ≡ true
unfolding is_step is_item
item_step i h = let hs : (is_sign (last_byte i) ≡ true) × (is_name (drop_last i) ≡ true) = both h in rw (sign_orientation (last_byte i), hs.0, name_some (drop_last i) hs.1)

-- the reader accepts items as they are
items_read : (ps : List Part) → all is_item (map bytes_of ps) ≡ true → parse_items ps ≡ accepted (map step_of ps)
unfolding parse_items all then bytes_of
items_read [] h = refl
items_read (p ∷ ps) h = let hs = both h in rw (item_some p.bytes hs.0, item_step p.bytes hs.0, items_read ps hs.1)

-- a list of steps was read, and states the visits
pub record ReadAs (visits : List Visit) (r : Read (List Step)) : Type 0 where
  pub steps : List Step
  pub accepts : r ≡ accepted steps
  pub equal : map visit_of steps ≡ visits

-- and states their visits
items_visits : (ps : List Part) → map visit_of (map step_of ps) ≡ map item_visit (map bytes_of ps)
unfolding visit_of step_of item_visit bytes_of
items_visits [] = refl
items_visits (p ∷ ps) = rw (items_visits ps)

-- `*` is no P list
star_items : are_items star ≡ false
unfolding are_items all items is_item is_sign last_byte in_class bytes star
star_items = refl

-- a P list that is allowed, with no comma in a name, is read as its visits
pub p_steps : (f : Part) → are_items f.bytes ≡ true → all (λ v. lacks_comma v.name) (map item_visit (items f.bytes)) ≡ true
    → ReadAs (map item_visit (items f.bytes)) (parse_psteps f)
unfolding parse_psteps are_items
p_steps f h k =
    let parts : List Part = split 44 f.at f.bytes in
    let e : map bytes_of parts ≡ items f.bytes = split_between 44 f.at f.bytes ∙ sym (items_between f.bytes (lacks_items (items f.bytes) h k)) in
    record {
      steps = map step_of parts;
      accepts = rw (differs are_items f.bytes star h star_items) (items_read parts (rw e h));
      equal = items_visits parts ∙ ap (map item_visit) e;
    }

-- ---- the steps of a walk

-- the reader and the definition have one > and <
mark_starts : (b : ℕ) (bs : List ℕ) → starts_step (b ∷ bs) ≡ is_mark b
unfolding starts_step is_mark in_class bytes
mark_starts b bs = refl

-- a walk from its first byte on: that byte, the bytes before the next mark, and the steps from there
record Walked (at b : ℕ) (bs : List ℕ) : Type 0 where
  more : List (List ℕ)
  cut : walk_steps (b ∷ bs) ≡ (b ∷ (walk at bs).before) ∷ more
  equal : map visit_of (walk at bs).steps ≡ map walk_visit more

-- the clause of `walk_steps`
steps_cons : (b : ℕ) (bs : List ℕ) → walk_steps (b ∷ bs) ≡ cond (starts_step bs) ((b ∷ []) ∷ walk_steps bs) (prepend b (walk_steps bs))
unfolding walk_steps
steps_cons b bs = refl

-- the reader's step states the visit of the walk step
step_visit : (at b : ℕ) (name : List ℕ) → visit_of (record { name = record { at = at; bytes = name }; orientation = orientation_of b }) ≡ walk_visit (b ∷ name)
unfolding visit_of walk_visit orientation_of
step_visit at b name = refl

-- the reader cuts a walk where the definition does
walked : (at b : ℕ) (bs : List ℕ) → Walked at b bs
unfolding walk prepend
walked at b [] = unfold walk_steps starts_step in record { more = []; cut = refl; equal = refl }
walked at b (c ∷ bs) =
    let w : Walked (suc at) c bs = walked (suc at) c bs in
    by_test (is_mark c)
    (λ e. record {
      more = (c ∷ (walk (suc at) bs).before) ∷ w.more;
      cut = rw (steps_cons b (c ∷ bs), mark_starts c bs, e, w.cut);
      equal = rw (e, step_visit (suc at) c (walk (suc at) bs).before, w.equal);
    })
    (λ e. record {
      more = w.more;
      cut = rw (steps_cons b (c ∷ bs), mark_starts c bs, e, w.cut);
      equal = rw (e, w.equal);
    })

-- the visit of a walk step has a name
step_named : (p : List ℕ) → is_walk_step p ≡ true → is_empty (walk_visit p).name ≡ false
unfolding is_walk_step matches walk_visit is_empty
step_named [] h = absurd (false≢true h)
step_named (b ∷ []) h = absurd (false≢true (both {a = in_class (bytes "><") b} h).1)
step_named (b ∷ (c ∷ bs)) h = refl

-- steps that state the visits of walk steps are accepted as they are
named_read : (ss : List Step) (ps : List (List ℕ)) → is_empty ss ≡ false → map visit_of ss ≡ map walk_visit ps → all is_walk_step ps ≡ true → non_empty ss ≡ accepted ss
unfolding visit_of
named_read ss ps some e h =
    let names = each_map (λ v. is_empty v.name ≡ false) walk_visit ps (each_implies step_named ps (all_each is_walk_step ps h)) in
    non_empty_kept ss some (each_of_map (λ v. is_empty v.name ≡ false) visit_of ss (rw e names))

-- a walk step begins with a mark
step_mark : (b : ℕ) (bs : List ℕ) → is_walk_step (b ∷ bs) ≡ true → is_mark b ≡ true
unfolding is_walk_step matches is_mark in_class bytes
step_mark b bs h = (both h).0

-- `*` is no walk
star_walk : is_walk star ≡ false
unfolding is_walk is_empty all walk_steps starts_step prepend is_walk_step matches in_class bytes star
star_walk = refl

-- a walk has steps, each by the expression
walk_steps_allowed : (f : List ℕ) → is_walk f ≡ true → all is_walk_step (walk_steps f) ≡ true
unfolding is_walk
walk_steps_allowed f h = (both {a = not (is_empty f)} h).1

-- a walk that is allowed is read as its visits
pub w_steps : (at : ℕ) (s : List ℕ) → is_walk s ≡ true → ReadAs (map walk_visit (walk_steps s)) (parse_wsteps (record { at = at; bytes = s }))
unfolding parse_wsteps is_empty walk
w_steps at [] h = absurd (false≢true (unfold is_walk in h))
w_steps at (b ∷ bs) h =
    let w : Walked (suc at) b bs = walked (suc at) b bs in
    let first : Step = record { name = record { at = suc at; bytes = (walk (suc at) bs).before }; orientation = orientation_of b } in
    let rest : List Step = (walk (suc at) bs).steps in
    let e : map visit_of (first ∷ rest) ≡ map walk_visit (walk_steps (b ∷ bs)) = rw (w.cut, step_visit (suc at) b (walk (suc at) bs).before, w.equal) in
    let hs : all is_walk_step (walk_steps (b ∷ bs)) ≡ true = walk_steps_allowed (b ∷ bs) h in
    let mark : is_mark b ≡ true = step_mark b (walk (suc at) bs).before (all_cons is_walk_step (b ∷ (walk (suc at) bs).before) w.more (rw w.cut at hs)).0 in
    record {
      steps = first ∷ rest;
      accepts = rw (differs is_walk (b ∷ bs) star h star_walk, mark) (named_read (first ∷ rest) (walk_steps (b ∷ bs)) refl e hs);
      equal = e;
    }
