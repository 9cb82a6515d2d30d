-- What a script asks for: a job, where the heap on which it is run has a rate.
use Rattle.std.specs.Prelude.{ℕ, ◌+◌, ◌*◌, ◌<◌, ◌≤◌, List}
use Rattle.exit_statuses.specs.declared.refusal.Refusal.{Refusal}
use Rattle.exit_statuses.specs.declared.refusal.Refusal.TheVariants.{BadScriptLine, NoRate}
use Rattle.exit_statuses.specs.Refusals as calls
use Rattle.exit_statuses.specs.Refusals.{AreNone, IsReadWhole}
use Rattle.exit_statuses.specs.Sides.{Sides}
use Rattle.trace_text.specs.Jobs.{input_limit}
use Rattle.trace_text.specs.Reading.{tokenized}
use Rattle.array_scripts.specs.declared.header.Header.{Header}
use Rattle.array_scripts.specs.Kinds.{Kind, IsScriptOf}
use Rattle.array_scripts.specs.Parts.{IsFirstBad}

module _ {Op : Type 0} (kind : Kind Op) where
  -- a heap has a rate where one round of its threads' allocations and a block fit twice over the
  -- live limit
  abbrev pub HasRoom : Header → Type 0
  HasRoom h = (kind.config_of h).live + 2 * (1 + h.threads) ≤ h.blocks

  abbrev pub HasNoRoom : Header → Type 0
  HasNoRoom h = h.blocks < (kind.config_of h).live + 2 * (1 + h.threads)

  -- the bytes are a script whose heap has no rate, or one whose heap has
  abbrev pub HasNoRate : List ℕ → Type 0
  HasNoRate bytes =
      (h : Header) × (scripts : List (List Op)) × IsScriptOf kind bytes h scripts × HasNoRoom h

  abbrev pub IsFine : List ℕ → Type 0
  IsFine bytes =
      (h : Header) × (scripts : List (List Op)) × IsScriptOf kind bytes h scripts × HasRoom h

  -- which text is refused, and why: for a line, or for its heap
  abbrev pub Causes : List ℕ → Refusal → Type 0
  Causes bytes (BadScriptLine n) = IsFirstBad kind (tokenized bytes) n
  Causes bytes NoRate = HasNoRate bytes
  Causes bytes r = ⊥

  -- what caused a refusal, by the words, of which there are to be none, and by the source
  abbrev pub IsCause : List (List ℕ) → Sides → Refusal → Type 0
  IsCause words source r = calls.IsCause AreNone AreNone input_limit Causes words source r

  -- A script was read: this text is that script, it is not too long, and where the source told its
  -- bytes they were this text. All were read.
  pub record IsReadAs (source : Sides) (h : Header) (scripts : List (List Op)) : Type 0 where
    pub text : List ℕ
    pub whole : IsReadWhole input_limit source text
    pub script : IsScriptOf kind text h scripts
