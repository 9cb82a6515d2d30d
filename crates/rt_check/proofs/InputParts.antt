-- Where an input is parted.
use Rattle.std.proofs.Common.{◌≡◌, ℕ, ◌+◌, List, [], ◌∷◌, drop, None, refl}
use Rattle.trace_text.specs.Lines.{lines_of}
use Rattle.trace_text.specs.Reading.{parted}
use Rattle.rt_check.specs.Inputs.{job_length}

-- the bytes that are left come after lines of which none is `end`
pub record Passed (input rest : List ℕ) : Type 0 where
  pub bytes : ℕ
  pub left : rest ≡ drop bytes input
  pub count : job_length (lines_of input) ≡ bytes + job_length (lines_of rest)

pub no_lines : (ls : List (List ℕ)) → parted ls ≡ None → ls ≡ []
no_lines [] e = refl
no_lines (l ∷ ls) e = cc
