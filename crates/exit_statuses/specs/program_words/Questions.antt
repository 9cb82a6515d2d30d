-- Which words ask a program for its help or its version.
use Rattle.std.specs.Prelude.{ℕ, ◌≡◌, ◌⊎◌, List, [], ◌∷◌, codes}
use Rattle.exit_statuses.specs.declared.program_words.Question.{Question}
use Rattle.exit_statuses.specs.declared.program_words.Question.TheVariants.{Help, Version}

-- these words ask for it
abbrev pub AsksFor : List (List ℕ) → Question → Type 0
AsksFor (w ∷ []) Help = (w ≡ codes "--help") ⊎ (w ≡ codes "-h")
AsksFor (w ∷ []) Version = w ≡ codes "--version"
AsksFor words q = ⊥

-- the words ask for one of the two
abbrev pub Ask : List (List ℕ) → Type 0
Ask words = (q : Question) × AsksFor words q

-- the help or the version
abbrev pub answer_to : Question → List ℕ → List ℕ → List ℕ
answer_to Help help version = help
answer_to Version help version = version
