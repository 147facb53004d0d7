-- Conditions of refusals, computed on texts. Assumes nothing.
use Prim.Native.String.{String}
use native.Mathlib.Omega.{arith}
use mathlib.Core.List.{List, [], ◌∷◌}
use mathlib.Core.Path.{◌≡◌, refl}
use Rattle.gfa_spec.specs.Bytes.{bytes, Part}
use Rattle.gfa_spec.specs.Reading.{fields, segment, refused_at, parse}
use Rattle.gfa_spec.specs.Conditions.{is_none, is_malformed, has_empty_step, LineRefuses, id_read, step_malformed, step_empty, TextRefuses, BadAt, alone}
use Rattle.gfa_spec.proofs.Computing.{computing}
use Rattle.gfa_spec.proofs.Conditions.{refused_parse}

-- the fields of a line that stands alone
unfoldable pub fields_of : String → List Part
fields_of line = fields (record { at = 0; bytes = bytes line })

-- a P list whose first item has no orientation: 13
pub item_named : LineRefuses [] (fields_of "P\tp\t1,2+\t*") 13
unfolding fields_of is_none is_malformed computing
item_named = step_malformed refl (omega arith) refl refl

-- a walk with two marks and nothing between them: 15
pub marks_meet : LineRefuses [] (fields_of "W\ts\t0\tn\t0\t1\t>a><b") 15
unfolding fields_of is_none has_empty_step computing
marks_meet = step_empty refl (omega arith) refl refl

-- a carriage return at the end of a text: 3, at its offset
pub return_last : BadAt (bytes "S\r") 3 1
unfolding computing
return_last = alone 1 refl (λ e. omega arith)

-- the second of two segments with one ID: 6, on line 2
pub id_twice : TextRefuses (bytes "S\t1\tA\nS\t1\tC\n") 6 2
unfolding computing
id_twice =
    record {
      earlier = record { at = 0; bytes = bytes "S\t1\tA" } ∷ [];
      line = record { at = 6; bytes = bytes "S\t1\tC" };
      later = [];
      entries = segment (record { id = bytes "1"; sequence = bytes "A"; line = bytes "S\t1\tA" }) ∷ [];
      standing = refl;
      counted = refl;
      reads = refl;
      why = id_read refl (omega arith) refl;
    }

-- so that text is refused
pub id_twice_refused : parse (bytes "S\t1\tA\nS\t1\tC\n") ≡ refused_at 6 2
id_twice_refused = refused_parse (bytes "S\t1\tA\nS\t1\tC\n") 6 2 id_twice
