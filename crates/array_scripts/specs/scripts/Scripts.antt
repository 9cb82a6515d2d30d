-- Scripts: a header, then for each thread its line and a line for each of its operations, then the
-- end. Lines are of any type; what a line says depends on the header, on how many threads began,
-- and on what is known of the present thread.
use Rattle.std.specs.Prelude.{ℕ, ◌+◌, ◌≡◌, ◌<◌, Option, Some, None, List, [], ◌∷◌, ◌++◌, map}

-- what a line after the header says
pub data Said (Op : Type 0) : Type 0 where
  Thread : (t : ℕ) → Said Op
  Told : (op : Op) → Said Op
  End : Said Op

-- where a line is: at the header, after t thread lines, or after the end
pub data Place (H S : Type 0) : Type 0 where
  Start : Place H S
  Among : (h : H) (t : ℕ) (s : S) → Place H S
  Done : Place H S

-- How a language of scripts is read, and how it is written. Of a thread it knows what `begun` and
-- `more` make of the operations that it had so far.
pub record Language (L H S Op : Type 0) : Type 0 where
  pub header_at : L → Option H
  pub line_at : H → ℕ → S → L → Option (Said Op)
  pub threads_of : H → ℕ
  pub begun : H → ℕ → S
  pub more : S → Op → S
  pub header_line : H → L
  pub thread_line : ℕ → L
  pub op_line : Op → L
  pub end_line : L

abbrev pub line_of : {L H S Op : Type 0} → Language L H S Op → Said Op → L
line_of lang (Thread t) = lang.thread_line t
line_of lang (Told op) = lang.op_line op
line_of lang End = lang.end_line

-- the lines of threads from thread t on, and of a script
abbrev pub thread_lines : {L H S Op : Type 0} → Language L H S Op → ℕ → List (List Op) → List L
thread_lines lang t [] = lang.end_line ∷ []
thread_lines lang t (ops ∷ scripts) =
    lang.thread_line t ∷ (map lang.op_line ops ++ thread_lines lang (t + 1) scripts)

abbrev pub script_lines : {L H S Op : Type 0} → Language L H S Op → H → List (List Op) → List L
script_lines lang h scripts = lang.header_line h ∷ thread_lines lang 0 scripts

-- the place after a line
abbrev pub place_after : {L H S Op : Type 0} → Language L H S Op → H → ℕ → S → Said Op → Place H S
place_after lang h t s (Thread u) = Among h (t + 1) (lang.begun h t)
place_after lang h t s (Told op) = Among h t (lang.more s op)
place_after lang h t s End = Done

-- the place after a line that may come here
abbrev pub behind :
    {L H S Op : Type 0} → Language L H S Op → H → ℕ → S → Option (Said Op) → Option (Place H S)
behind lang h t s None = None
behind lang h t s (Some said) = Some (place_after lang h t s said)

abbrev pub begins : {L H S Op : Type 0} → Language L H S Op → Option H → Option (Place H S)
begins lang None = None
begins lang (Some h) = Some (Among h 0 (lang.begun h 0))

abbrev pub next_place : {L H S Op : Type 0} → Language L H S Op → Place H S → L → Option (Place H S)
next_place lang Start l = begins lang (lang.header_at l)
next_place lang (Among h t s) l = behind lang h t s (lang.line_at h t s l)
next_place lang Done l = None

-- The first line that is not allowed at its place; one more than there are lines where there is no
-- end. Line n is the first of these.
abbrev pub at_end : {H S : Type 0} → Place H S → ℕ → Option ℕ
at_end Done n = None
at_end _ n = Some n

abbrev pub or_bad : {H S : Type 0} → Option (Place H S) → ℕ → (Place H S → Option ℕ) → Option ℕ
or_bad None n rest = Some n
or_bad (Some p) n rest = rest p

abbrev pub bad_line : {L H S Op : Type 0} → Language L H S Op → Place H S → ℕ → List L → Option ℕ
bad_line lang p n [] = at_end p n
bad_line lang p n (l ∷ ls) =
    or_bad (next_place lang p l) n (λ q. bad_line lang q (n + 1) ls)

module _ {L H S Op : Type 0} (lang : Language L H S Op)
    (IsHeader : H → Type 0) (Fits : H → S → Op → Type 0) where
  -- what may come after t thread lines
  abbrev pub Stands : H → ℕ → S → Said Op → Type 0
  Stands h t s (Thread u) = (u ≡ t) × (t < lang.threads_of h)
  Stands h t s (Told op) = (0 < t) × Fits h s op
  Stands h t s End = t ≡ lang.threads_of h

  -- operations that fit, one after the other
  abbrev pub AreFit : H → S → List Op → Type 0
  AreFit h s [] = Unit {0}
  AreFit h s (op ∷ ops) = Fits h s op × AreFit h (lang.more s op) ops

  -- the scripts of the threads from thread t on
  abbrev pub AllFit : H → ℕ → List (List Op) → Type 0
  AllFit h t [] = t ≡ lang.threads_of h
  AllFit h t (ops ∷ scripts) =
      (t < lang.threads_of h) × AreFit h (lang.begun h t) ops × AllFit h (t + 1) scripts

  -- these lines are a script: a header, and what fits it for each of its threads
  pub record IsScript (lines : List L) (h : H) (scripts : List (List Op)) : Type 0 where
    pub header : IsHeader h
    pub fit : AllFit h 0 scripts
    pub spelled : lines ≡ script_lines lang h scripts

  -- What the readers of a header and of one line owe: each reads what may come at its place, and
  -- nothing else.
  pub record Reads : Type 0 where
    pub header_sound : (l : L) (h : H) → lang.header_at l ≡ Some h
        → (l ≡ lang.header_line h) × IsHeader h
    pub header_again : (h : H) → IsHeader h → lang.header_at (lang.header_line h) ≡ Some h
    pub line_sound : (h : H) (t : ℕ) (s : S) (l : L) (x : Said Op)
        → lang.line_at h t s l ≡ Some x → (l ≡ line_of lang x) × Stands h t s x
    pub line_again : (h : H) (t : ℕ) (s : S) (x : Said Op) → IsHeader h → Stands h t s x
        → lang.line_at h t s (line_of lang x) ≡ Some x

-- ---- the operations that lines say: those of the present thread, and those of the later ones

abbrev pub begin_thread :
    {Op : Type 0} → Option (List Op × List (List Op)) → Option (List Op × List (List Op))
begin_thread None = None
begin_thread (Some r) = Some ([], r.0 ∷ r.1)

abbrev pub front_op :
    {Op : Type 0} → Op → Option (List Op × List (List Op)) → Option (List Op × List (List Op))
front_op op None = None
front_op op (Some r) = Some (op ∷ r.0, r.1)

abbrev pub told_next :
    {L H S Op : Type 0} → Language L H S Op → H → ℕ → S → Option (Said Op) → List L
    → (ℕ → S → Option (List Op × List (List Op))) → Option (List Op × List (List Op))
told_next lang h t s None ls go = None
told_next lang h t s (Some (Thread u)) ls go = begin_thread (go (t + 1) (lang.begun h t))
told_next lang h t s (Some (Told op)) ls go = front_op op (go t (lang.more s op))
told_next lang h t s (Some End) [] go = Some ([], [])
told_next lang h t s (Some End) (l ∷ ls) go = None

abbrev pub told :
    {L H S Op : Type 0} → Language L H S Op → H → ℕ → S → List L
    → Option (List Op × List (List Op))
told lang h t s [] = None
told lang h t s (l ∷ ls) =
    told_next lang h t s (lang.line_at h t s l) ls (λ u z. told lang h u z ls)
