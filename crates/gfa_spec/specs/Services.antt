-- The service that spells path k, and the first bad step of all paths. Document 01, "The four services", "Refused calls".
use Rattle.std.specs.Prelude.{ℕ, zero, suc, List, [], ◌∷◌}
use Rattle.std.specs.Prelude.{Option, None, Some}
use Rattle.gfa_spec.specs.Reading.{Path, Entry}
use Rattle.gfa_spec.specs.Records.{segments, paths}
use Rattle.gfa_spec.specs.Sequences.{complement}
use Rattle.gfa_spec.specs.Spelling.{Spelt, bad, spelt, spell}
use Rattle.gfa_spec.specs.Calls.{Refusal, plainly, on_name, Input, entries, input, Outcome, fitted}

-- ---- all paths

-- the first bad step, paths in text order: 18 or 19, with the place and length of its name
unfoldable pub bad_step : List Entry → List Path → Option Refusal
bad_step es [] = None
bad_step es (p ∷ ps) =
    elim (spell complement (segments es) p.steps) as (λ _. Option Refusal) [
      | bad n name ↦ Some (on_name n name)
      | spelt seq ↦ bad_step es ps
    ]

-- ---- path k

-- path k, counted from 0
unfoldable pub nth_path : ℕ → List Path → Option Path
nth_path k [] = None
nth_path zero (p ∷ ps) = Some p
nth_path (suc k) (p ∷ ps) = nth_path k ps

-- what is spelled is the answer; a bad step is refused as 18 or 19, with the place and length of its name
unfoldable pub of_spelt : ℕ → Spelt → Outcome
of_spelt room (bad n name) = Outcome.refusal (on_name n name)
of_spelt room (spelt bs) = fitted room bs

-- 21: no path of that number
unfoldable pub of_path : ℕ → List Entry → Option Path → Outcome
of_path room es None = Outcome.refusal (plainly 21)
of_path room es (Some p) = of_spelt room (spell complement (segments es) p.steps)

-- the answer of a call, by what was read
unfoldable pub spell_entries : ℕ → ℕ → Input → Outcome
spell_entries k room (Input.refusal r) = Outcome.refusal r
spell_entries k room (entries es) = of_path room es (nth_path k (paths es))

-- the service: a text, the number of a path, the length of the output buffer, and of the work area in words;
-- refusals 1 to 17, then 21, then 18 and 19, then 22
unfoldable pub spell_path : List ℕ → ℕ → ℕ → ℕ → Outcome
spell_path text k room work = spell_entries k room (input text work)
