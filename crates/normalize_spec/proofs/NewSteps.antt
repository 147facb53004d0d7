-- The steps of new paths and the ends of added links: old steps, or old steps with a new ID for a name. Assumes nothing.
use Prim.Native.Nat.{ℕ, ◌<◌}
use native.Mathlib.Omega.{arith}
use mathlib.Core.Bool.{true, false, not, ◌&&◌}
use mathlib.Core.List.{List, [], ◌∷◌, ◌++◌, map}
use mathlib.Core.Path.{◌≡◌, refl}
use lib.Dec.{eqb, leb}
use borrow.Author.Tests.{eqb-true, leb-true, lt-leb, not-true}
use Rattle.gfa_spec.specs.Bytes.{any, all, is_empty, join, Each}
use Rattle.gfa_spec.specs.Decimal.{is_digit}
use Rattle.gfa_spec.specs.Reading.{Step, Segment, Kind, P, W, Path, Entry}
use Rattle.gfa_spec.specs.Records.{paths}
use Rattle.gfa_spec.specs.Runs.{Run, runs}
use Rattle.gfa_spec.proofs.Tests.{by_test, clash, and_left, and_right, or_either, refute}
use Rattle.gfa_spec.proofs.Each.{Lacks, each_join, each_both, each_implies, each_map, each_of_map, all_each}
use Rattle.gfa_spec.proofs.Runs.{runs_each}
use Rattle.gfa_spec.proofs.Clean.{is_line_byte, is_field_byte, FieldBytes}
use Rattle.normalize_spec.specs.Folding.{folded, is_folded_run, is_plain, New, NewStep, as_new, transform}
use Rattle.normalize_spec.specs.Links.{Key, kept, key_of, same_key, adjacent, missing, added}
use Rattle.normalize_spec.proofs.Images.{id_for, image, images, images_each, HasId, transform_images}
use Rattle.normalize_spec.proofs.Ids.{is_plain_name}
use Rattle.normalize_spec.proofs.Segments.{new_ids}
use Rattle.normalize_spec.proofs.Lookup.{made_each}
use Rattle.normalize_spec.proofs.WrittenLines.{Plain, StepWritable}

-- ---- the bytes of a new ID

-- a byte that is not plain is no plain byte
plain_other : (b : ℕ) → is_plain b ≡ false → (c : ℕ) → is_plain c ≡ true → eqb c b ≡ false
plain_other b n c h = refute (eqb c b) (λ e. clash (rw (eqb-true c b e) at h) n)

-- a plain byte is at most z
plain_bound : (c : ℕ) → is_plain c ≡ true → c < 128
unfolding is_plain is_digit
plain_bound c h =
    or_either _ (eqb c 35) h
    (λ h. or_either _ (eqb c 58) h
    (λ h. or_either _ (eqb c 46) h
    (λ h. or_either _ (eqb c 95) h
    (λ h. or_either _ (leb 48 c && leb c 57) h
    (λ h. or_either (leb 65 c && leb c 90) (leb 97 c && leb c 122) h
    (λ h. omega (arith, leb-true c 90 (and_right (leb 65 c) (leb c 90) h)))
    (λ h. omega (arith, leb-true c 122 (and_right (leb 97 c) (leb c 122) h))))
    (λ h. omega (arith, leb-true c 57 (and_right (leb 48 c) (leb c 57) h))))
    (λ h. omega (arith, eqb-true c 95 h)))
    (λ h. omega (arith, eqb-true c 46 h)))
    (λ h. omega (arith, eqb-true c 58 h)))
    (λ h. omega (arith, eqb-true c 35 h))

-- a plain byte is one that a field may hold
plain_field : (c : ℕ) → is_plain c ≡ true → is_field_byte c ≡ true
unfolding is_field_byte is_line_byte is_plain is_digit
plain_field c h = rw (plain_other 9 refl c h, plain_other 10 refl c h, plain_other 13 refl c h, lt-leb 128 c (plain_bound c h))

-- a name is made of plain bytes
name_plain : (id : List ℕ) → is_plain_name id ≡ true → Each (λ c. is_plain c ≡ true) id
unfolding is_plain_name
name_plain id h = all_each is_plain id (and_right (not (is_empty id)) (all is_plain id) h)

-- and is not empty
name_some : (id : List ℕ) → is_plain_name id ≡ true → is_empty id ≡ false
unfolding is_plain_name
name_some id h = not-true (is_empty id) (and_left (not (is_empty id)) (all is_plain id) h)

-- a name is made of bytes that a field may hold
pub name_field : (id : List ℕ) → is_plain_name id ≡ true → FieldBytes id
name_field id h = each_implies plain_field id (name_plain id h)

-- and lacks each byte that is not plain
name_lacks : (b : ℕ) → is_plain b ≡ false → (id : List ℕ) → is_plain_name id ≡ true → Lacks b id
name_lacks b n id h = each_implies (plain_other b n) id (name_plain id h)

-- ---- a step with a new ID for a name

-- the step with another name
unfoldable pub renamed : NewStep → List ℕ → NewStep
renamed s id = record { name = id; orientation = s.orientation }

-- what a step has it keeps under a new ID
abbrev pub Renamable : (NewStep → Type 0) → Type 0
Renamable S = (s : NewStep) (id : List ℕ) → S s → is_plain_name id ≡ true → S (renamed s id)

-- such are the steps that a line of the kind can hold
pub writable_renamed : (k : Kind) → Renamable (StepWritable k)
unfolding renamed is_plain is_digit
writable_renamed P s id h n = record { named = name_some id n; plain = name_lacks 44 refl id n; oriented = h.oriented }
writable_renamed W s id h n = record { named = name_some id n; no_right = name_lacks 62 refl id n; no_left = name_lacks 60 refl id n; oriented = h.oriented }

-- and those of bytes that a field may hold
pub plain_renamed : Renamable (Plain (λ b. is_field_byte b ≡ true))
unfolding renamed
plain_renamed s id h n = record { oriented = h.oriented; bytes = name_field id n }

-- ---- the steps of a new path

module _ (S : NewStep → Type 0) (kept_under : Renamable S) (fs : List Segment) (new : List New) (names : all is_plain_name (new_ids new) ≡ true) where
  -- a run's image has what its step has
  image_step : (r : Run) → HasId fs new r → S (as_new r.step) → S (image fs new r)
  unfolding image as_new renamed
  image_step r has h =
      by_test (is_folded_run fs r)
      (λ e. rw e (kept_under (as_new r.step) (id_for new r) h
      (made_each (λ id. is_plain_name id ≡ true) r.step.name.bytes r.count new (id_for new r) (has e) (all_each is_plain_name (new_ids new) names))))
      (λ e. rw e h)

  -- the steps of a new path have what the steps of the path have
  pub images_steps : (steps : List Step) → Each (HasId fs new) (runs steps) → Each S (map as_new steps) → Each S (images fs new (runs steps))
  images_steps steps has h =
      images_each S fs new (runs steps)
      (each_implies (λ r q. image_step r q.0 q.1) (runs steps)
      (each_both (HasId fs new) (λ r. S (as_new r.step)) (runs steps) has (runs_each (λ s. S (as_new s)) steps (each_of_map S as_new steps h))))

-- ---- the ends of added links

-- both ends of a link have S
abbrev pub Ends : (NewStep → Type 0) → Key → Type 0
Ends S k = S k.from × S k.to

-- the ends of adjacent pairs are steps
adjacent_ends : (S : NewStep → Type 0) (steps : List NewStep) → Each S steps → Each (Ends S) (adjacent steps)
unfolding adjacent
adjacent_ends S [] h = tt
adjacent_ends S (s ∷ []) h = tt
adjacent_ends S (s ∷ (t ∷ ts)) h = ((h.0, h.1.0), adjacent_ends S (t ∷ ts) h.1)

-- what each pair has, each missing pair has
missing_each : (F : Key → Type 0) (present ks : List Key) → Each F ks → Each F (missing present ks)
unfolding missing
missing_each F present [] h = tt
missing_each F present (k ∷ ks) h =
    by_test (any (same_key k) present)
    (λ e. rw e (missing_each F present ks h.1))
    (λ e. rw e (h.0, missing_each F (present ++ (k ∷ [])) ks h.1))

-- what each step of each new path has, the ends of each added link have
pub added_ends : (S : NewStep → Type 0) (es : List Entry) (cap : ℕ)
    → Each (λ p. Each S (images (folded es cap) (transform es cap).made.new (runs p.steps))) (paths es) → Each (Ends S) (added es cap)
unfolding added
added_ends S es cap h =
    let steps : Path → List NewStep = λ p. images (folded es cap) (transform es cap).made.new (runs p.steps) in
    missing_each (Ends S) (map key_of (kept es cap)) (join (map adjacent (transform es cap).paths))
    (each_join (Ends S) (map adjacent (transform es cap).paths)
    (each_map (Each (Ends S)) adjacent (transform es cap).paths
    (each_implies (adjacent_ends S) (transform es cap).paths (rw transform_images (each_map (Each S) steps (paths es) h)))))
