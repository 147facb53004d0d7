-- The service that reports: the refusals in their order, and the answer. Document 01, "The four services", "Refused calls".
use Rattle.std.specs.Prelude.{ℕ, List}
use Rattle.gfa_spec.specs.Calls.{Input, entries, input, Outcome, fitted}
use Rattle.report_spec.specs.Lines.{report}

-- the answer of a call, by what was read: refusals 1 to 17, then 22
unfoldable pub report_entries : ℕ → ℕ → Input → Outcome
report_entries top room (Input.refusal r) = Outcome.refusal r
report_entries top room (entries es) = fitted room (report es top)

-- the service: a text, how many nodes, the length of the output buffer, and of the work area in words
unfoldable pub report_text : List ℕ → ℕ → ℕ → ℕ → Outcome
report_text text top room work = report_entries top room (input text work)
