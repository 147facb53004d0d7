-- The service that spells a path. Assumes nothing.
use Prim.Native.Nat.{ℕ, ◌+◌, ◌≤◌, ◌<◌}
use native.Mathlib.Omega.{arith}
use mathlib.Core.List.{List}
use Rattle.std.specs.Prelude.{Some, Result, Ok, Err}
use mathlib.Core.Path.{◌≡◌, sym, ap, ◌∙◌}
use lib.ListN.{length}
use Rattle.tables.specs.declared.tables.Bases.{Bases}
use Rattle.tables.specs.declared.tables.Counts.{Counts}
use Rattle.refusals.specs.declared.refusal.Refusal.{Refusal}
use Rattle.refusals.specs.Refusals.{stated}
use Rattle.gfa_spec.specs.Sequences.{complement}
use Rattle.gfa_spec.specs.Spelling.{Spelt, spell}
use Rattle.gfa_spec.specs.Calls.{plainly, Outcome}
use Rattle.gfa_spec.specs.Services.{of_spelt, of_path, spell_entries, spell_path}
use Rattle.gfa_spec.proofs.Answered.{path_some, path_none}
use Rattle.writers.specs.declared.writer.Writer.{Writer}
use Rattle.writers.specs.Writers.{Starts}
use Rattle.tables.specs.declared.rows.PathWords.{PathWords}
use Rattle.tables.specs.ByNumber.{path_no, segments_of, paths_to, steps_from, PathIs}
use Rattle.tables.proofs.ByNumber.{paths_length, paths_nth}
use Rattle.reader.specs.Inputs.{InputIs}
use Rattle.spelling.specs.Spelled.{SpeltIs}
use Rattle.reader.specs.Served.{answer_in, Answered}
use Rattle.spelling.proofs.Spelled.{bad_refusal, spelt_wrote}
use Rattle.reader.proofs.Serving.{refuses, full, fits, was_read}

-- ---- measured, and then refused or written

module _ {text out : List ℕ} {s : Spelt} {v w : Writer} {m : Result (Unit {0}) Refusal} (h : SpeltIs text v s w m) where
  -- a bad step
  pub answered_bad : {f : Refusal} → m ≡ Err f → Answered out out (answer_in (Err f)) (of_spelt (length out) s)
  unfolding of_spelt
  answered_bad {f} e =
      let got = rw e at h.says in
      refuses f (of_spelt (length out) s) (ap (of_spelt (length out)) got.spells ∙ ap Outcome.refusal (sym (bad_refusal got)))

  module _ {blank : List ℕ} {u : Unit {0}} (e : m ≡ Ok u) (b : Starts blank (length out + 1) v) where
    -- no room
    pub answered_full : (f : Refusal) → length out < w.at → stated f ≡ plainly 22 → Answered out out (answer_in (Err f)) (of_spelt (length out) s)
    unfolding of_spelt
    answered_full f l q =
        let got = rw e at h.says in
        rw got.spells (full b got.puts f l q)

    -- room
    pub answered_all : {x y : Writer} {out' : List ℕ} {k : Result (Unit {0}) Refusal} → w.at ≤ length out → Starts out (length out + 1) x → SpeltIs text x s y k → out' ≡ y.out.now
        → Answered out out' (answer_in (Ok w.at)) (of_spelt (length out) s)
    unfolding of_spelt
    answered_all {k = k} l t v i =
        let got = rw e at h.says in
        rw got.spells (fits b got.puts l t (spelt_wrote k got.bytes v got.spells) i)

-- ---- path k

module _ {text before work : List ℕ} {r : Result (Bases × Counts) Refusal} (k : ℕ) (h : InputIs text before work r) where
  -- the text is refused
  pub answered_refused : {out : List ℕ} {q : Refusal} → r ≡ Err q → Answered out out (answer_in (Err q)) (spell_path text k (length out) (length before))
  unfolding spell_path spell_entries
  answered_refused {out} {q} e = refuses q (spell_path text k (length out) (length before)) (ap (spell_entries k (length out)) (rw e at h.says))

  module _ {b : Bases} {n : Counts} (e : r ≡ Ok (b, n)) where
    -- no path has that number
    pub answered_no_path : {out : List ℕ} (q : Refusal) → n.paths ≤ k → stated q ≡ plainly 21 → Answered out out (answer_in (Err q)) (spell_path text k (length out) (length before))
    unfolding spell_path spell_entries of_path
    answered_no_path {out} q l f =
        let read = was_read h e in
        let gone = path_none k (paths_to text work b n.paths) (rw paths_length l) in
        refuses q (spell_path text k (length out) (length before)) (rw (read.read, read.tables.of_paths, gone, f))

    -- its number fits into a word
    pub path_small : k < n.paths → k < 4294967296
    path_small l = let few = (was_read h e).tables.few.3 in omega arith

    -- path k is spelled
    pub answered_path : {out out' : List ℕ} (a : Result ℕ Refusal) {p : PathWords} → k < n.paths → PathIs text work b n k p
        → Answered out out' (answer_in a) (of_spelt (length out) (spell complement (segments_of text work b n) (steps_from text work b p.steps.first p.steps.end)))
        → Answered out out' (answer_in a) (spell_path text k (length out) (length before))
    unfolding spell_path spell_entries of_path
    answered_path a l q =
        let read = was_read h e in
        let d = path_no text work b 0 in
        let there = path_some k (paths_to text work b n.paths) d (rw paths_length l) ∙ ap Some (paths_nth text work b n.paths k d l ∙ q.path) in
        λ h. rw (read.read, read.tables.of_paths, there, read.tables.of_segments) h
