-- What the first heap says can be kept on the second, and the mail that came.
use Rattle.std.proofs.Common.{◌≡◌, ℕ, suc, ◌<◌, ◌≤◌, List, [], ◌∷◌, length, slice_index_or, map, sym, ap, ◌∙◌, subst, arith}
use Rattle.std.specs.List.{AllByRecursion}
use Rattle.std.proofs.lemmas.List.{length-map}
use Rattle.std.proofs.Math.ListN.{get_or-map}
use Rattle.atom_board.specs.Mutators.{ClosedState}
use Rattle.exit_statuses.specs.Sides.{Sides}
use Rattle.never_heap.specs.declared.Entry.{Entry}
use Rattle.never_heap.specs.Histories.{parts}
use Rattle.array_tables.specs.number_rings.Rings.{IsKeepable, last_numbers}
use Rattle.never_heap.proofs.Lemmas.{logged}
use Rattle.rate_plan.specs.Rates.{IsAdmitted}
use Rattle.rt_mail.specs.said_numbers.Said.{numbers_said, says_in, AreNumbers}
use Rattle.rt_mail.proofs.said_numbers.NumbersPerThread.{few_said}
use Rattle.rt_mail.proofs.said_numbers.NumberBounds.{said_numbers_small}
use Rattle.atom_board.specs.threaded_runs.EndedRuns.{HasHistory, commands_of, job_of}
use Rattle.trace_text.specs.Jobs.{Job, IsJobInBounds}
use Rattle.rt_mail.specs.MailCalls.{HasFirst, HasMail}
use Rattle.rt_mail.specs.Recalled.{HasRings, recalled_in}
use Rattle.rt_mail.specs.Says.{says_of, IsWithin}
use Rattle.rt_mail.specs.RefusedTexts.{IsReadAs}
use Rattle.rt_mail.proofs.RingJob.{last_recalled}

-- what is said of each log holds of all
all_keepable : (logs : List (List Entry))
    → ((t : ℕ) → t < length logs → IsKeepable (numbers_said (slice_index_or logs t [])))
    → AllByRecursion IsKeepable (map numbers_said logs)
all_keepable [] each = tt
all_keepable (log ∷ logs) each =
    (each 0 (omega arith), all_keepable logs (λ t low. each (suc t) (omega arith)))

module _ (run : ClosedState) (bounds : IsJobInBounds (job_of run)) (within : IsWithin (job_of run))
    (ran : HasHistory run) where
  pub as_many_logs : length run.logs ≡ run.config.threads
  as_many_logs = omega (arith, length-map run.logs commands_of, bounds.threads)

  pub some_logs : 1 ≤ length run.logs
  some_logs = omega (arith, as_many_logs, bounds.config.some_thread)

  pub few_logs : length run.logs ≤ 2
  few_logs = omega (arith, as_many_logs, within.0)

  each_few : (t : ℕ) → t < length run.logs
      → length (numbers_said (slice_index_or run.logs t [])) ≤ 30000
  each_few t low =
      let own : says_of (job_of run) t ≡ says_in (commands_of (slice_index_or run.logs t [])) =
      ap says_in (get_or-map commands_of run.logs t []) in
      let few : says_of (job_of run) t ≤ 30000 =
      within.1 t (omega (arith, length-map run.logs commands_of)) in
      omega (arith, own, few, few_said (slice_index_or run.logs t []))

  each_small : (t : ℕ) → t < length run.logs
      → AreNumbers (numbers_said (slice_index_or run.logs t []))
  each_small t low =
      subst (λ (log : List Entry). AreNumbers (numbers_said log))
      (logged run.config.threads ran.history run.logs t ran.parts_logged
      (omega (arith, as_many_logs)))
      (said_numbers_small run.config (job_of run).traces ran.history t bounds.each
      ran.is_run.legal ran.is_run.traces_whole)

  pub keepable : AllByRecursion IsKeepable (map numbers_said run.logs)
  keepable = all_keepable run.logs (λ t low.
      record { few = each_few t low; small = each_small t low })

-- the job that was read was run
pub has_first : (source : Sides) (j : Job) (run : ClosedState) → IsReadAs source j
    → IsWithin j × IsAdmitted j.config → job_of run ≡ j → HasHistory run → HasFirst source run
has_first source j run read served is ran = record {
  read = subst (IsReadAs source) (sym is) read;
  within = subst IsWithin (sym is) served.0;
  admitted = subst (λ (k : Job). IsAdmitted k.config) (sym is) served.1;
  ran = ran;
}

module _ (source : Sides) (first : ClosedState) (said : HasFirst source first)
    (taken : List (List ℕ)) (own : taken ≡ map numbers_said first.logs) where
  -- what was taken can be kept
  pub threads_are : (n : ℕ) → n ≡ length first.logs
      → (1 ≤ n) × (n ≤ 2) × (n ≡ length taken)
  threads_are n is =
      let bounds = said.read.holds.in_bounds in
      let some = some_logs first bounds said.within said.ran in
      let few = few_logs first bounds said.within said.ran in (
        omega (arith, is, some),
        omega (arith, is, few),
        is ∙ sym (length-map first.logs numbers_said) ∙ ap length (sym own),
      )

  pub taken_keepable : AllByRecursion IsKeepable taken
  taken_keepable =
      subst (AllByRecursion IsKeepable) (sym own)
      (keepable first said.read.holds.in_bounds said.within said.ran)

  pub has_mail : (second : ClosedState) → HasRings taken second
      → HasMail source first taken second
  has_mail second kept = record {
    said = said;
    took = own ∙ ap (map numbers_said) (sym said.ran.parts_logged);
    kept = kept;
    last = last_recalled taken second kept;
  }

-- as many threads recalled as there were senders, two at most
module _ (source : Sides) (first second : ClosedState) (taken last : List (List ℕ))
    (mail : HasMail source first taken second) (is : last ≡ recalled_in taken second.logs) where
  pub as_many_recalled : length last ≡ length taken
  as_many_recalled = ap length (is ∙ mail.last) ∙ length-map taken last_numbers

  pub few_recalled : length last ≤ 2
  few_recalled =
      let said = mail.said in
      let logs : length first.logs ≤ 2 =
      few_logs first said.read.holds.in_bounds said.within said.ran in
      let long : length taken ≡ length (parts first.config.threads said.ran.history) =
      ap length mail.took ∙ length-map (parts first.config.threads said.ran.history) numbers_said in
      let same : length (parts first.config.threads said.ran.history) ≡ length first.logs =
      ap length said.ran.parts_logged in
      omega (arith, as_many_recalled, long, same, logs)
