-- What a refusal says, as the definitions have it.
use Rattle.refusals.specs.declared.refusal.Refusal.{Refusal}
use Rattle.refusals.specs.Reasons.{number_of}
use Rattle.gfa_spec.specs.Calls as calls

-- its number, and all that it names
abbrev pub stated : Refusal → calls.Refusal
stated r = record { number = number_of r.reason; line = r.line; from = r.from; length = r.length }
