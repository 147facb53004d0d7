-- Where no path has a bad step, every step of the tables names a segment. Assumes nothing.
use Prim.Native.Nat.{ℕ, zero, suc, ◌<◌}
use native.Mathlib.Omega.{arith}
use mathlib.Core.List.{List, [], ◌∷◌}
use Rattle.std.specs.Prelude.{Option, None, Some}
use mathlib.Core.Path.{◌≡◌, refl, ◌∙◌}
use lib.ListN.{length}
use Rattle.gfa_spec.specs.Bytes.{nth, Each}
use Rattle.gfa_spec.specs.Reading.{Segment, Step, Entry}
use Rattle.gfa_spec.specs.Records.{segments, paths, segment_number, sequence_of}
use Rattle.gfa_spec.specs.Services.{bad_step}
use Rattle.gfa_spec.proofs.Known.{Known, none_bad}
use Rattle.tables.specs.declared.tables.Bases.{Bases}
use Rattle.tables.specs.declared.tables.Counts.{Counts}
use Rattle.tables.specs.ByNumber.{path_no, segments_of, paths_to}
use Rattle.tables.proofs.ByNumber.{paths_nth, paths_length}
use Rattle.tables.proofs.Numbers.{number_sequence}
use Rattle.fold.specs.Turns.{KnownIn}
use Rattle.fold.specs.Transforms.{AllKnown}
use Rattle.new_segs.proofs.Lookups.{no_segment}

-- what each of a list has, element k has
each_nth : {A : Type 0} (P : A → Type 0) (xs : List A) (k : ℕ) (d : A) → Each P xs → k < length xs → P (nth k xs d)
unfolding nth
each_nth P [] k d h l = absurd (omega arith)
each_nth P (x ∷ xs) zero d h l = h.0
each_nth P (x ∷ xs) (suc k) d h l = each_nth P xs k d h.1 (omega arith)

-- a known name has a number
known_number : {ss : List Segment} {name : List ℕ} → Known ss name → KnownIn ss name
known_number {ss} {name} h = go (segment_number ss name) refl
  where
    go : (o : Option ℕ) → segment_number ss name ≡ o → KnownIn ss name
    go (Some k) e = record { number = k; is = e }
    go None e =
        let found : sequence_of ss name ≡ None = number_sequence ss name no_segment ∙ rw e in
        let z : ◌≡◌ {A = ℕ} 0 1 = cc (found, h.found) in
        absurd (omega arith)

-- Where no step is bad, the steps of all paths name segments.
pub all_known : (es : List Entry) (text work : List ℕ) (b : Bases) (n : Counts) → segments es ≡ segments_of text work b n → paths es ≡ paths_to text work b n.paths
    → bad_step es (paths es) ≡ None → AllKnown text work b n
all_known es text work b n e f h = record { paths = λ p l. record { step = λ k d m. known_number (each_nth named (path_no text work b p).steps k d (path p l) m) } }
  where
    named : Step → Type 0
    named s = Known (segments_of text work b n) s.name.bytes

    steps_known : Each (λ p. Each named p.steps) (paths_to text work b n.paths)
    steps_known = rw (e, f) at (none_bad es (paths es) h)

    path : (p : ℕ) → p < n.paths → Each named (path_no text work b p).steps
    path p l =
        rw (paths_nth text work b n.paths p (path_no text work b 0) l) at
        (each_nth (λ p. Each named p.steps) (paths_to text work b n.paths) p (path_no text work b 0) steps_known (rw paths_length l))
