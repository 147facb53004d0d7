-- Refusals 1 to 4, then what the lines say. Assumes nothing.
use Rattle.std.specs.Prelude.{Result, Ok, Err, Option, None, Some}
use Rattle.refusals.specs.declared.refusal.Refusal.{Refusal}
use Rattle.refusals.specs.Refusals.{stated}
use Prim.Native.Nat.{ℕ, ◌+◌, ◌*◌, ◌≤◌, ◌<◌}
use mathlib.Core.List.{List}
use mathlib.Core.Path.{◌≡◌, ◌∙◌, ap, sym}
use lib.ListN.{length}
use borrow.Author.Tests.{lt-ltb, le-ltb}
use Rattle.tables.specs.declared.tables.Bases.{Bases}
use Rattle.tables.specs.declared.tables.Counts.{Counts}
use Rattle.gfa_spec.specs.Reading.{parse}
use Rattle.gfa_spec.specs.Calls as calls
use Rattle.gfa_spec.specs.Calls.{plainly, of_parsed, of_bytes, input}
use Rattle.tables.specs.Names.{NamesCleared}
use Rattle.work.proofs.Rows.{only_then}
use Rattle.reader.specs.Outcomes.{OutcomeIs}
use Rattle.reader.specs.Inputs.{BadIs, Admits, AdmissionIs, TextSays, TextIs, InputSays, InputIs}

-- ---- whether the lines may be read

module _ {text : List ℕ} {words : ℕ} {q : Refusal} where
  pub admit_long : 1048576 < length text → stated q ≡ plainly 1 → AdmissionIs text words (Err q)
  unfolding input plainly
  admit_long h e = record { says = rw (lt-ltb 1048576 (length text) h) (ap calls.Input.refusal (sym e)) }

  module _ (s : length text ≤ 1048576) {d : Option Refusal} (b : BadIs text d) where
    pub admit_bad : d ≡ Some q → AdmissionIs text words (Err q)
    unfolding input of_bytes
    admit_bad e = record { says = rw (le-ltb 1048576 (length text) s, (rw e at b.says)) }

    pub admit_small : d ≡ None → words < 4 * length text + 64 → stated q ≡ plainly 4 → AdmissionIs text words (Err q)
    unfolding input of_bytes plainly
    admit_small e h k = record { says = rw (le-ltb 1048576 (length text) s, (rw e at b.says), lt-ltb words (4 * length text + 64) h) (ap calls.Input.refusal (sym k)) }

-- a text that is admitted is what its lines say
admitted : {text : List ℕ} {words : ℕ} → Admits text words → input text words ≡ of_parsed (parse text)
unfolding input of_bytes
admitted {text} {words} a = rw (le-ltb 1048576 (length text) a.short, a.clean, le-ltb words (4 * length text + 64) a.room)

-- what the answer says, by its cases
module _ {text : List ℕ} {words : ℕ} {r : Result (Unit {0}) Refusal} (h : AdmissionIs text words r) {u : Unit {0}} (e : r ≡ Ok u) where
  is_admitted : Admits text words
  is_admitted = rw e at h.says

-- ---- the lines

-- read behind slots that were emptied
module _ {text before middle work : List ℕ} {b : Bases} {a : Result Counts Refusal} (c : NamesCleared before middle b) (y : OutcomeIs text middle work b a) where
  pub text_refused : {q : Refusal} → a ≡ Err q → TextIs text before work (Err q)
  text_refused e = record { says = rw e at y.says }

  pub text_taken : {n : Counts} → a ≡ Ok n → TextIs text before work (Ok (b, n))
  text_taken e =
      let r = rw e at y.says in
      let t = r.tables in
      record {
        says =
            record {
              read = r.read;
              tables =
                  record {
                    of_segments = t.of_segments;
                    of_links = t.of_links;
                    of_paths = t.of_paths;
                    visits = t.visits;
                    laid = t.laid;
                    few = t.few;
                    sound = t.sound;
                    long = t.long ∙ c.long;
                    only = only_then _ c.only t.only (λ i o. ((o.1.1.1.1.1.0, tt), o));
                  };
            };
      }

-- ---- both

module _ {text before work : List ℕ} {r : Result (Unit {0}) Refusal} (h : AdmissionIs text (length before) r) where
  pub input_refused : {q : Refusal} → r ≡ Err q → InputIs text before work (Err q)
  input_refused e = record { says = rw e at h.says }

  pub input_read : {i : Result (Bases × Counts) Refusal} {u : Unit {0}} → r ≡ Ok u → TextIs text before work i → InputIs text before work i
  unfolding of_parsed
  input_read {i} e t = record { says = go i t.says }
    where
      go : (i : Result (Bases × Counts) Refusal) → TextSays text before work i → InputSays text before work i
      go (Ok p) z = record { read = admitted (is_admitted h e) ∙ rw z.read; tables = z.tables }
      go (Err q) z = admitted (is_admitted h e) ∙ z
