-- A call that was refused, or that did what its text asks for, has ended as it is to.
use Rattle.std.proofs.Common.{ℕ, ◌≡◌, ◌≢◌, ◌≤◌, ◌<◌, ◌⊎◌, ◌↔◌, inl, inr, List, length, Some, None, IfSome, Option, sym, ◌∙◌, subst, arith}
use Rattle.std.proofs.lemmas.Bool.{cases_eq}
use Rattle.trace_text.specs.Faults.{Rose}
use Rattle.trace_text.specs.Streams.{Appends, AppendsPrefix}
use Rattle.exit_statuses.specs.declared.refusal.Refusal.{Refusal}
use Rattle.exit_statuses.specs.declared.refusal.Refusal.TheVariants.{Usage, TooLong, ReadFault, OutOfMemory}
use Rattle.exit_statuses.specs.Refusals.{status_of, refusal_line, HasRead, IsCausedByText, IsCause}
use Rattle.exit_statuses.specs.Exits.{Exit, IsDue, IsDueOrFails, IsDueFor, IsToldBy, IsDoneUnfailed, IsEnded}
use Rattle.exit_statuses.specs.Sides.{Sides}

-- where a text is known and it holds of it, it holds of what is told
pub map_told : (o : Option (List ℕ)) (P Q : List ℕ → Type 0) → ((b : List ℕ) → P b → Q b)
    → IfSome o P → IfSome o Q
map_told None P Q f h = tt
map_told (Some b) P Q f h = f b h

always : (P : List ℕ → Type 0) → ((b : List ℕ) → P b) → (o : Option (List ℕ)) → IfSome o P
always P f None = tt
always P f (Some b) = f b

-- the count did not rise
not_risen : (before now : ℕ) → now ≡ before → before < now → ⊥
not_risen before now same more = omega arith

-- the status of a refusal is not that of a call that was carried out
pub never_done : (r : Refusal) → status_of r ≢ 0
never_done Usage e = absurd cc
never_done _ e = absurd cc

-- without a fault of a stream a call that was to be carried out ends with 0 or 7
pub without_faults : (source sink : Sides) (status due : ℕ) → IsToldBy sink status due
    → (due ≡ 5 → Rose source.faults source.faults_now) → IsDoneUnfailed source sink status due
without_faults source sink status due told read no_read no_write fine = elim told.any_status [
  | inr six ↦ absurd (no_write (told.rose six))
  | inl same ↦ elim fine [
    | inl zero ↦ inl (omega arith)
    | inr fails ↦ elim fails [
      | inl five ↦ absurd (no_read (read five))
      | inr seven ↦ inr (omega arith)
    ]
  ]
]

-- a write fault was told
pub write_told : (sink : Sides) (status due : ℕ) → IsToldBy sink status due
    → sink.faults < sink.faults_now → status ≡ 6
write_told sink status due told more = elim (cases_eq status 6) [
  | inl six ↦ six
  | inr ne ↦ absurd (not_risen sink.faults sink.faults_now (told.still ne) more)
]

module _ (Ask AskForText : List (List ℕ) → Type 0) (limit : ℕ)
    (Causes : List ℕ → Refusal → Type 0) where
  -- of a text of which this holds and that was read: it holds of what the source told
  told_so : (P : List ℕ → Type 0) (source : Sides) → HasRead limit P source
      → IfSome source.bytes (λ b. (length b ≤ limit) × P b)
  told_so P source h = of_told source.bytes h.whole.told
    where
      of_told : (o : Option (List ℕ)) → IfSome o (λ bytes. bytes ≡ h.text)
          → IfSome o (λ b. (length b ≤ limit) × P b)
      of_told None e = tt
      of_told (Some bytes) e =
          subst (λ (b : List ℕ). (length b ≤ limit) × P b) (sym e) (h.whole.short, h.holds)

  module _ (IsFine : List ℕ → Type 0) (own : List ℕ) where
    -- no text has two statuses, and each that is caused is one of the program's own
    pub record AreApart : Type 0 where
      pub asked : (words : List (List ℕ)) → AskForText words → Ask words
      pub one : (b : List ℕ) (r q : Refusal) → Causes b r → Causes b q → status_of r ≡ status_of q
      pub not_fine : (b : List ℕ) (r : Refusal) → Causes b r → IsFine b → ⊥
      pub due : (b : List ℕ) (r : Refusal) → Causes b r → IsDue own (status_of r)

    -- what a call that needs a text found in these bytes, by its due
    data Found (b : List ℕ) (due : ℕ) : Type 0 where
      Done : (d : due ≡ 0) → (s : length b ≤ limit) → (f : IsFine b) → Found b due
      Long : (d : due ≡ 3) → (s : limit < length b) → Found b due
      Caused : (r : Refusal) → (d : due ≡ status_of r) → (s : length b ≤ limit) → (f : Causes b r)
          → Found b due
      Fails : (d : (due ≡ 5) ⊎ (due ≡ 7)) → Found b due

    module _ (apart : AreApart) (b : List ℕ) (due : ℕ) where
      when_long : Found b due → limit < length b → IsDueOrFails 3 due
      when_long (Done d s f) l = absurd (omega arith)
      when_long (Long d s) l = inl d
      when_long (Caused r d s f) l = absurd (omega arith)
      when_long (Fails d) l = inr d

      when_caused : Found b due → (r : Refusal) → (length b ≤ limit) × Causes b r
          → IsDueOrFails (status_of r) due
      when_caused (Done d s f) r l = absurd (apart.not_fine b r l.1 f)
      when_caused (Long d s) r l = absurd (omega (arith, l.0))
      when_caused (Caused q d s f) r l = inl (d ∙ apart.one b q r f l.1)
      when_caused (Fails d) r l = inr d

      when_fine : Found b due → (length b ≤ limit) × IsFine b → IsDueOrFails 0 due
      when_fine (Done d s f) l = inl d
      when_fine (Long d s) l = absurd (omega (arith, l.0))
      when_fine (Caused r d s f) l = absurd (apart.not_fine b r f l.1)
      when_fine (Fails d) l = inr d

    module _ (apart : AreApart) (name : List ℕ) (x : Exit) (told : IsToldBy x.sink x.status x.due)
      where
        abbrev Ended : Type 0
        Ended = IsEnded Ask AskForText limit Causes IsFine own name x

        -- what is known of a source's bytes by what was found in them
        record Known : Type 0 where
          too_long : IsDueFor 3 (λ b. limit < length b) x
          caused : (r : Refusal) → IsDueFor (status_of r) (λ b. (length b ≤ limit) × Causes b r) x
          fine : IsDueFor 0 (λ b. (length b ≤ limit) × IsFine b) x

        known : IfSome x.source.bytes (λ b. Found b x.due) → Known
        known found = record {
          too_long = map_told x.source.bytes (λ b. Found b x.due) _
              (λ b h l. when_long apart b x.due h l) found;
          caused = λ r. map_told x.source.bytes (λ b. Found b x.due) _
              (λ b h l. when_caused apart b x.due h r l) found;
          fine = map_told x.source.bytes (λ b. Found b x.due) _
              (λ b h l. when_fine apart b x.due h l) found;
        }

        -- ---- a call that did what it was asked for
        pub done_is_ended : Ask x.words → x.due ≡ 0 → x.source.faults_now ≡ x.source.faults
            → (AskForText x.words → HasRead limit IsFine x.source) → Ended
        done_is_ended ask due still read = record {
          done = λ _. (ask, read);
          refused = λ ne. absurd (ne due);
          any_due = inl due;
          any_status = told.any_status;
          usage = (λ two. absurd (omega arith), λ none. absurd (none ask));
          read_fault = λ five. absurd (omega arith);
          read_fault_told = λ more. absurd (not_risen x.source.faults x.source.faults_now still more);
          write_fault = told.rose;
          write_fault_told = write_told x.sink x.status x.due told;
          too_long = λ a. (known (found a)).too_long;
          caused = λ a. (known (found a)).caused;
          fine = λ a. (known (found a)).fine;
          unfailed = without_faults x.source x.sink x.status x.due told (λ five. absurd (omega arith));
        }
          where
            found : AskForText x.words → IfSome x.source.bytes (λ b. Found b x.due)
            found a = map_told x.source.bytes (λ b. (length b ≤ limit) × IsFine b)
                (λ b. Found b x.due) (λ b h. Done due h.0 h.1)
                (told_so IsFine x.source (read a))

        -- ---- a refused call
        module _ (r : Refusal) (due : x.due ≡ status_of r)
            (line : x.status ≢ 6 → Appends x.sink.bytes x.sink.bytes_now (refusal_line name r))
            (prefix : x.status ≡ 6
            → AppendsPrefix x.sink.bytes x.sink.bytes_now (refusal_line name r)) where
          abbrev Cause : Refusal → Type 0
          Cause q = IsCause Ask AskForText limit Causes x.words x.source q

          -- what its cause says of a known text, of the words, and of the source's faults
          record Told : Type 0 where
            is_due : IsDue own x.due
            usage : (x.due ≡ 2) ↔ (Ask x.words → ⊥)
            read_fault : x.due ≡ 5 → Rose x.source.faults x.source.faults_now
            read_fault_told : x.source.faults < x.source.faults_now → x.due ≡ 5
            found : AskForText x.words → IfSome x.source.bytes (λ b. Found b x.due)

          by_text : (q : Refusal) → x.due ≡ status_of q → status_of q ≢ 2 → status_of q ≢ 5
              → IsCausedByText Ask AskForText limit Causes x.words x.source q → Told
          by_text q e not_two not_five c = record {
            is_due = subst (IsDue own) (sym e) (apart.due c.1.text q c.1.holds);
            usage = (
              λ two. absurd (not_two (sym e ∙ two)),
              λ none. absurd (none (apart.asked x.words c.0)),
            );
            read_fault = λ five. absurd (not_five (sym e ∙ five));
            read_fault_told = λ more.
                absurd (not_risen x.source.faults x.source.faults_now c.1.unfailed more);
            found = λ _. map_told x.source.bytes (λ b. (length b ≤ limit) × Causes b q)
                (λ b. Found b x.due) (λ b h. Caused q e h.0 h.1)
                (told_so (λ text. Causes text q) x.source c.1);
          }

          told_by : (q : Refusal) → x.due ≡ status_of q → Cause q → Told
          told_by Usage e c = record {
            is_due = inr (inl e);
            usage = (λ _. c.0, λ _. e);
            read_fault = λ five. absurd (omega arith);
            read_fault_told = λ more. absurd (not_risen x.source.faults x.source.faults_now c.1.1 more);
            found = λ a. absurd (c.0 (apart.asked x.words a));
          }
          told_by TooLong e (inr c) = by_text TooLong e (λ two. absurd cc) (λ five. absurd cc) c
          told_by TooLong e (inl c) = record {
            is_due = inr (inr (inl e));
            usage = (λ two. absurd (omega arith), λ none. absurd (none (apart.asked x.words c.0)));
            read_fault = λ five. absurd (omega arith);
            read_fault_told = λ more.
                absurd (not_risen x.source.faults x.source.faults_now c.1.1 more);
            found = λ _. map_told x.source.bytes _ (λ b. Found b x.due) (λ b h. Long e h.0) c.1.0;
          }
          told_by ReadFault e c = record {
            is_due = inr (inr (inr (inl e)));
            usage = (λ two. absurd (omega arith), λ none. absurd (none (apart.asked x.words c.0)));
            read_fault = λ _. c.1.1;
            read_fault_told = λ _. e;
            found = λ _. always (λ b. Found b x.due) (λ b. Fails (inl e)) x.source.bytes;
          }
          told_by OutOfMemory e c = record {
            is_due = inr (inr (inr (inr (inl e))));
            usage = (λ two. absurd (omega arith), λ none. absurd (none c.0));
            read_fault = λ five. absurd (omega arith);
            read_fault_told = λ more.
                absurd (not_risen x.source.faults x.source.faults_now c.1.1 more);
            found = λ _. always (λ b. Found b x.due) (λ b. Fails (inr e)) x.source.bytes;
          }
          told_by q e c = by_text q e (λ two. absurd cc) (λ five. absurd cc) c

          pub refusal_is_ended : Cause r → Ended
          refusal_is_ended cause =
              let t : Told = told_by r due cause in
              record {
                done = λ zero. absurd (never_done r (sym due ∙ zero));
                refused = λ _. record {
                  refusal = r;
                  is_due = due;
                  cause = cause;
                  line = line;
                  prefix = prefix;
                };
                any_due = t.is_due;
                any_status = told.any_status;
                usage = t.usage;
                read_fault = t.read_fault;
                read_fault_told = t.read_fault_told;
                write_fault = told.rose;
                write_fault_told = write_told x.sink x.status x.due told;
                too_long = λ a. (known (t.found a)).too_long;
                caused = λ a. (known (t.found a)).caused;
                fine = λ a. (known (t.found a)).fine;
                unfailed = without_faults x.source x.sink x.status x.due told t.read_fault;
              }
