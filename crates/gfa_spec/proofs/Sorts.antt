-- The records of an entry list, by their sorts. Assumes nothing.
use Prim.Native.Nat.{ℕ}
use mathlib.Core.Bool.{Bool, true, false}
use mathlib.Core.List.{List, [], ◌∷◌, ◌++◌, map, append_assoc}
use mathlib.Core.Path.{◌≡◌, refl, ap, sym}
use Rattle.gfa_spec.specs.Bytes.{keep, one, nil, Each}
use Rattle.gfa_spec.specs.Reading.{Segment, Link, Path, Entry, header, comment, blank, other, segment, link, path, choose}
use Rattle.gfa_spec.specs.Records.{leading, others, segments, links, paths, collect}
use Rattle.gfa_spec.proofs.Places.{erase, erase_path}
use Rattle.gfa_spec.proofs.Rereading.{written, is_path}

-- The entries hold these raw lines, segments, links and paths.
pub record Sorted (es : List Entry) (first last : List (List ℕ)) (ss : List Segment) (ls : List Link) (ps : List Path) : Type 0 where
  pub of_leading : leading es ≡ first
  pub of_others : others es ≡ last
  pub of_segments : segments es ≡ ss
  pub of_links : links es ≡ ls
  pub of_paths : paths es ≡ ps

-- ---- an entry in front

-- no entry
sorted_none : Sorted [] [] [] [] [] []
unfolding leading others segments links paths collect
sorted_none = record { of_leading = refl; of_others = refl; of_segments = refl; of_links = refl; of_paths = refl }

-- an entry gives to the list of its sort
with_entry : (e : Entry) {es : List Entry} {a b : List (List ℕ)} {ss : List Segment} {ls : List Link} {ps : List Path} → Sorted es a b ss ls ps
    → Sorted (e ∷ es) (choose one nil nil nil nil e ++ a) (choose nil one nil nil nil e ++ b) (choose nil nil one nil nil e ++ ss)
    (choose nil nil nil one nil e ++ ls) (choose nil nil nil nil one e ++ ps)
unfolding leading others segments links paths collect
with_entry e r = record {
  of_leading = cc r.of_leading;
  of_others = cc r.of_others;
  of_segments = cc r.of_segments;
  of_links = cc r.of_links;
  of_paths = cc r.of_paths;
}

-- ---- lists in a row

-- what two lists in a row give
collect_append : {A : Type 0} (f : Entry → List A) (es fs : List Entry) → collect f (es ++ fs) ≡ collect f es ++ collect f fs
unfolding collect
collect_append f [] fs = refl
collect_append f (e ∷ es) fs = rw (collect_append f es fs, append_assoc)

-- the records of two lists in a row
pub append_sorted : (es fs : List Entry)
    → Sorted (es ++ fs) (leading es ++ leading fs) (others es ++ others fs) (segments es ++ segments fs) (links es ++ links fs) (paths es ++ paths fs)
unfolding leading others segments links paths
append_sorted es fs = record {
  of_leading = collect_append _ es fs;
  of_others = collect_append _ es fs;
  of_segments = collect_append _ es fs;
  of_links = collect_append _ es fs;
  of_paths = collect_append _ es fs;
}

-- the same of lists whose records are known
pub sorted_append : {es fs : List Entry} {a b a' b' : List (List ℕ)} {ss ss' : List Segment} {ls ls' : List Link} {ps ps' : List Path}
    → Sorted es a b ss ls ps → Sorted fs a' b' ss' ls' ps' → Sorted (es ++ fs) (a ++ a') (b ++ b') (ss ++ ss') (ls ++ ls') (ps ++ ps')
sorted_append {es} {fs} h k =
    let r = append_sorted es fs in
    record {
      of_leading = cc (r.of_leading, h.of_leading, k.of_leading);
      of_others = cc (r.of_others, h.of_others, k.of_others);
      of_segments = cc (r.of_segments, h.of_segments, k.of_segments);
      of_links = cc (r.of_links, h.of_links, k.of_links);
      of_paths = cc (r.of_paths, h.of_paths, k.of_paths);
    }

-- ---- lists of one sort

-- segments alone
pub sorted_segments : (ss : List Segment) → Sorted (map segment ss) [] [] ss [] []
unfolding choose one nil
sorted_segments [] = sorted_none
sorted_segments (s ∷ ss) = with_entry (segment s) (sorted_segments ss)

-- links alone
pub sorted_links : (ls : List Link) → Sorted (map link ls) [] [] [] ls []
unfolding choose one nil
sorted_links [] = sorted_none
sorted_links (l ∷ ls) = with_entry (link l) (sorted_links ls)

-- paths alone
pub sorted_paths : (ps : List Path) → Sorted (map path ps) [] [] [] [] ps
unfolding choose one nil
sorted_paths [] = sorted_none
sorted_paths (p ∷ ps) = with_entry (path p) (sorted_paths ps)

-- a header, a comment or a blank
unfoldable pub is_leading : Entry → Bool
is_leading e = choose (λ l. true) (λ l. false) (λ s. false) (λ l. false) (λ p. false) e

-- a raw line of the last sort
unfoldable pub is_other : Entry → Bool
is_other e = choose (λ l. false) (λ l. true) (λ s. false) (λ l. false) (λ p. false) e

-- headers, comments and blanks alone
pub sorted_leading : (es : List Entry) → Sorted (keep is_leading es) (leading es) [] [] [] []
unfolding keep is_leading leading collect choose one nil
sorted_leading [] = sorted_none
sorted_leading (header l ∷ es) = with_entry (header l) (sorted_leading es)
sorted_leading (comment l ∷ es) = with_entry (comment l) (sorted_leading es)
sorted_leading (blank l ∷ es) = with_entry (blank l) (sorted_leading es)
sorted_leading (other l ∷ es) = sorted_leading es
sorted_leading (segment s ∷ es) = sorted_leading es
sorted_leading (link l ∷ es) = sorted_leading es
sorted_leading (path p ∷ es) = sorted_leading es

-- the other raw lines alone
pub sorted_others : (es : List Entry) → Sorted (keep is_other es) [] (others es) [] [] []
unfolding keep is_other others collect choose one nil
sorted_others [] = sorted_none
sorted_others (header l ∷ es) = sorted_others es
sorted_others (comment l ∷ es) = sorted_others es
sorted_others (blank l ∷ es) = sorted_others es
sorted_others (other l ∷ es) = with_entry (other l) (sorted_others es)
sorted_others (segment s ∷ es) = sorted_others es
sorted_others (link l ∷ es) = sorted_others es
sorted_others (path p ∷ es) = sorted_others es

-- ---- places, lines and facts

-- erasing the places changes no record but the paths
pub sorted_erase : (es : List Entry) → Sorted (map erase es) (leading es) (others es) (segments es) (links es) (map erase_path (paths es))
unfolding leading others segments links paths collect choose one nil erase
sorted_erase [] = sorted_none
sorted_erase (header l ∷ es) = with_entry (header l) (sorted_erase es)
sorted_erase (comment l ∷ es) = with_entry (comment l) (sorted_erase es)
sorted_erase (blank l ∷ es) = with_entry (blank l) (sorted_erase es)
sorted_erase (other l ∷ es) = with_entry (other l) (sorted_erase es)
sorted_erase (segment s ∷ es) = with_entry (segment s) (sorted_erase es)
sorted_erase (link l ∷ es) = with_entry (link l) (sorted_erase es)
sorted_erase (path p ∷ es) = with_entry (path (erase_path p)) (sorted_erase es)

-- what each entry has, each record has
pub sorted_each : (F : Entry → Type 0) (es : List Entry) → Each F es
    → Each (λ s. F (segment s)) (segments es) × Each (λ l. F (link l)) (links es) × Each (λ p. F (path p)) (paths es)
unfolding segments links paths collect choose one nil
sorted_each F [] h = (tt, tt, tt)
sorted_each F (header l ∷ es) h = sorted_each F es h.1
sorted_each F (comment l ∷ es) h = sorted_each F es h.1
sorted_each F (blank l ∷ es) h = sorted_each F es h.1
sorted_each F (other l ∷ es) h = sorted_each F es h.1
sorted_each F (segment s ∷ es) h = let r = sorted_each F es h.1 in ((h.0, r.0), r.1, r.2)
sorted_each F (link l ∷ es) h = let r = sorted_each F es h.1 in (r.0, (h.0, r.1), r.2)
sorted_each F (path p ∷ es) h = let r = sorted_each F es h.1 in (r.0, r.1, (h.0, r.2))

-- the lines of headers, comments and blanks
pub leading_written : (es : List Entry) → map written (keep is_leading es) ≡ leading es
unfolding leading collect keep is_leading written choose one nil
leading_written [] = refl
leading_written (header l ∷ es) = ap (λ x. l ∷ x) (leading_written es)
leading_written (comment l ∷ es) = ap (λ x. l ∷ x) (leading_written es)
leading_written (blank l ∷ es) = ap (λ x. l ∷ x) (leading_written es)
leading_written (other l ∷ es) = leading_written es
leading_written (segment s ∷ es) = leading_written es
leading_written (link l ∷ es) = leading_written es
leading_written (path p ∷ es) = leading_written es

-- the lines of the other raw lines
pub others_written : (es : List Entry) → map written (keep is_other es) ≡ others es
unfolding others collect keep is_other written choose one nil
others_written [] = refl
others_written (header l ∷ es) = others_written es
others_written (comment l ∷ es) = others_written es
others_written (blank l ∷ es) = others_written es
others_written (other l ∷ es) = ap (λ x. l ∷ x) (others_written es)
others_written (segment s ∷ es) = others_written es
others_written (link l ∷ es) = others_written es
others_written (path p ∷ es) = others_written es

-- a header, a comment or a blank is no path
pub leading_pathless : (e : Entry) → is_leading e ≡ true → is_path e ≡ false
unfolding is_leading is_path choose
leading_pathless (header l) h = refl
leading_pathless (comment l) h = refl
leading_pathless (blank l) h = refl
leading_pathless (other l) h = refl
leading_pathless (segment s) h = refl
leading_pathless (link l) h = refl
leading_pathless (path p) h = sym h

-- nor is another raw line
pub other_pathless : (e : Entry) → is_other e ≡ true → is_path e ≡ false
unfolding is_other is_path choose
other_pathless (header l) h = refl
other_pathless (comment l) h = refl
other_pathless (blank l) h = refl
other_pathless (other l) h = refl
other_pathless (segment s) h = refl
other_pathless (link l) h = refl
other_pathless (path p) h = sym h
