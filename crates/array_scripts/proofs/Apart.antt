-- No text has two answers, and what a text that was read says of its source.
use Rattle.std.proofs.Common.{◌≡◌, ℕ, inl, inr, List, [], ◌∷◌, refl, sym, subst, arith}
use Rattle.exit_statuses.specs.declared.refusal.Refusal.{Refusal}
use Rattle.exit_statuses.specs.declared.refusal.Refusal.TheVariants.{BadScriptLine, NoRate}
use Rattle.exit_statuses.specs.declared.refusal.Refusal.TheVariants as refusals
use Rattle.exit_statuses.specs.Exits.{IsDue}
use Rattle.exit_statuses.specs.Refusals.{AreNone, status_of, IsReadWhole, IsReadRefusal, HasRead}
use Rattle.exit_statuses.specs.Sides.{Sides, IsUnfailed}
use Rattle.exit_statuses.proofs.ExitStatuses.{AreApart}
use Rattle.exit_statuses.proofs.WholeTexts.{few_taken, refused_unread, has_read}
use Rattle.array_scripts.specs.scripts.Scripts.{Reads}
use Rattle.array_scripts.proofs.scripts.ScriptOrBadLine.{never_both, scripts_are_one}
use Rattle.trace_text.specs.Reading.{tokenized}
use Rattle.trace_text.specs.Jobs.{input_limit}
use Rattle.array_scripts.specs.declared.header.Header.{Header}
use Rattle.array_scripts.specs.declared.script.Fault.{Fault}
use Rattle.array_scripts.specs.declared.script.Fault.TheVariants.{BadLine, OutOfMemory}
use Rattle.array_scripts.specs.Kinds.{Kind, language, IsHeader, Fits, IsScriptOf}
use Rattle.array_scripts.specs.Parts.{Blames, IsFirstBad, refusal_of}
use Rattle.array_scripts.specs.JobsOfScripts.{HasRoom, HasNoRoom, IsFine, Causes, IsCause, IsReadAs}

module _ {Op : Type 0} (kind : Kind Op) (reads : Reads (language kind) (IsHeader kind) (Fits kind))
  where
    never : (b : List ℕ) (h : Header) (scripts : List (List Op)) (n : ℕ)
        → IsScriptOf kind b h scripts → IsFirstBad kind (tokenized b) n → ⊥
    never b h scripts n =
        never_both (language kind) (IsHeader kind) (Fits kind) reads (tokenized b) h scripts n

    not_both : (b : List ℕ) (h k : Header) (scripts others : List (List Op))
        → IsScriptOf kind b h scripts → IsScriptOf kind b k others → HasNoRoom kind h
        → HasRoom kind k → ⊥
    not_both b h k scripts others one other no_room room =
        let same = scripts_are_one (language kind) (IsHeader kind) (Fits kind) reads (tokenized b) h
        k scripts others one other in
        let here : HasRoom kind h = subst (HasRoom kind) (sym same.0) room in
        omega (arith, here, no_room)

    -- a text has one refusal at most, as far as statuses tell
    one_status : (b : List ℕ) (r q : Refusal) → Causes kind b r → Causes kind b q
        → status_of r ≡ status_of q
    one_status b (BadScriptLine m) (BadScriptLine n) c d = refl
    one_status b (BadScriptLine n) NoRate c d = absurd (never b d.0 d.1 n d.2 c)
    one_status b (BadScriptLine n) _ c d = absurd d
    one_status b NoRate (BadScriptLine n) c d = absurd (never b c.0 c.1 n c.2 d)
    one_status b NoRate NoRate c d = refl
    one_status b NoRate _ c d = absurd d
    one_status b _ _ c d = absurd c

    not_fine : (b : List ℕ) (r : Refusal) → Causes kind b r → IsFine kind b → ⊥
    not_fine b (BadScriptLine n) c fine = never b fine.0 fine.1 n fine.2 c
    not_fine b NoRate c fine = not_both b c.0 fine.0 c.1 fine.1 c.2 fine.2 c.3 fine.3
    not_fine b _ c fine = absurd c

    own_status : (b : List ℕ) (r : Refusal) → Causes kind b r → IsDue (4 ∷ []) (status_of r)
    own_status b (BadScriptLine n) c = inr (inr (inl refl))
    own_status b NoRate c = inr (inr (inr (inr (inr (inl refl)))))
    own_status b _ c = absurd c

    pub are_apart : AreApart AreNone AreNone input_limit (Causes kind) (IsFine kind) (4 ∷ [])
    are_apart = record {
      asked = λ words none. none;
      one = one_status;
      not_fine = not_fine;
      due = own_status;
    }

module _ (source : Sides) (text : List ℕ) (whole : IsReadWhole input_limit source text)
    (still : IsUnfailed source) where
  -- the refusal of a text that is no script has its cause
  pub refused_by_text : {Op : Type 0} (kind : Kind Op) (fault : Fault)
      → Blames (IsFirstBad kind (tokenized text)) fault → IsCause kind [] source (refusal_of fault)
  refused_by_text kind (BadLine n) bad =
      (refl, has_read source text whole still (λ b. IsFirstBad kind (tokenized b) n) bad)
  refused_by_text kind OutOfMemory bad = (refl, (few_taken input_limit source text whole, still))

  -- and a text that is a script was read as that
  pub read_as : {Op : Type 0} (kind : Kind Op) (h : Header) (scripts : List (List Op))
      → IsScriptOf kind text h scripts → IsReadAs kind source h scripts
  read_as kind h scripts is = record { text = text; whole = whole; script = is }

module _ {Op : Type 0} (kind : Kind Op) (source : Sides) where
  -- a text that was not read is refused by its cause
  pub refused_by_source : (r : Refusal) → IsReadRefusal input_limit source r
      → IsCause kind [] source r
  refused_by_source r c =
      refused_unread AreNone AreNone input_limit (Causes kind) [] refl refl source r c

  -- ---- a script that was read

  module _ (h : Header) (scripts : List (List Op)) (read : IsReadAs kind source h scripts)
      (still : IsUnfailed source) where
    -- it was read, and its header is so
    pub script_read : (P : Header → Type 0) → P h
        → HasRead input_limit (λ bytes. (k : Header) × (others : List (List Op))
        × IsScriptOf kind bytes k others × P k) source
    script_read P p =
        has_read source read.text read.whole still
        (λ bytes. (k : Header) × (others : List (List Op)) × IsScriptOf kind bytes k others × P k)
        (h, scripts, read.script, p)

    -- want of memory after it was read has its cause
    pub without_memory : IsCause kind [] source refusals.OutOfMemory
    without_memory = (refl, (few_taken input_limit source read.text read.whole, still))

    -- and so has a heap without a rate
    pub without_rate : HasNoRoom kind h → IsCause kind [] source refusals.NoRate
    without_rate no_room = (refl, script_read (HasNoRoom kind) no_room)
