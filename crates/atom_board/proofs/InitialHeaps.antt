-- The rule holds of the opening, where the first seat has all threads.
use Rattle.std.proofs.Common.{◌≡◌, ℕ, zero, suc, ◌≤◌, ◌<◌, ◌+◌, eqb, refl, arith, subst, sym, ap, ◌∙◌, List, [], ◌∷◌, ◌++◌, length, length-append, append_assoc, get_or, map, eq-eqb, ne_eqb, inl, inr}
use Rattle.std.proofs.lemmas.Bool.{cases_eq}
use mathlib.Core.Option.{some, some-injective, some-ne-none}
use lib.ListN.{get_elem?}
use Rattle.atomic_table.specs.Table as table
use Rattle.block_store.specs.declared.Config.{Config}
use Rattle.block_store.specs.Phases.{bit}
use Rattle.never_heap.specs.declared.Command.{Command}
use Rattle.heap_system.specs.Locals.{LocalState, at_start}
use Rattle.heap_system.specs.Machines.{State, starts_from, opened, IsJob, IsOpening, IsRunOf}
use Rattle.heap_system.specs.Systems.{Whole, traces_of}
use Rattle.heap_system.proofs.Lemmas.{opened_traces}
use Rattle.atom_board.specs.declared.rules.View.{View}
use Rattle.atom_board.specs.Boards.{IsStateAfter, AllFit, helds_of, BoardKept, start_held, first_view}

pub at_length : (ls gs : List LocalState) (l d : LocalState) → l ≡ get_or (ls ++ l ∷ gs) (length ls) d
at_length [] gs l d = refl
at_length (x ∷ ls) gs l d = at_length ls gs l d

-- the threads after the first t of them
starts_fit : (c : Config) (rate : ℕ) (space : ℕ → ℕ) (t : ℕ) (before : List LocalState) (traces : List (List Command)) → length before ≡ t → t + length traces ≤ c.threads
    → AllFit c (before ++ starts_from c rate space t traces) [] (map start_held (starts_from c rate space t traces))
starts_fit c rate space t before [] at low = tt
starts_fit c rate space t before (trace ∷ traces) at low =
    let l : LocalState = at_start c rate (space t) t trace in
    let here : l ≡ get_or (before ++ l ∷ starts_from c rate space (t + 1) traces) t l = subst (λ n. l ≡ get_or (before ++ l ∷ starts_from c rate space (t + 1) traces) n l) at (at_length before (starts_from c rate space (t + 1) traces) l l) in
    let longer : length (before ++ l ∷ []) ≡ t + 1 = length-append before (l ∷ []) ∙ omega arith in (
      (omega arith, here, refl),
      subst (λ ls. AllFit c ls [] (map start_held (starts_from c rate space (t + 1) traces))) (append_assoc before (l ∷ []) (starts_from c rate space (t + 1) traces)) (starts_fit c rate space (t + 1) (before ++ l ∷ []) traces longer (omega arith)),
    )

-- each of them once
none_below : (c : Config) (rate : ℕ) (space : ℕ → ℕ) (t u : ℕ) (traces : List (List Command)) → u < t → helds_of u (map start_held (starts_from c rate space t traces)) ≡ 0
none_below c rate space t u [] low = refl
none_below c rate space t u (trace ∷ traces) low =
    let apart : bit (eqb u t) ≡ 0 = rw (ne_eqb u t (λ e. omega arith)) refl in
    omega (arith, none_below c rate space (t + 1) u traces (omega arith))

one_within : (c : Config) (rate : ℕ) (space : ℕ → ℕ) (t u : ℕ) (traces : List (List Command)) → t ≤ u → u < t + length traces → helds_of u (map start_held (starts_from c rate space t traces)) ≡ 1
one_within c rate space t u [] low high = absurd (omega arith)
one_within c rate space t u (trace ∷ traces) low high = elim (cases_eq u t) [
  | inl e ↦
      let here : bit (eqb u t) ≡ 1 = rw (eq-eqb u t e) refl in
      omega (arith, none_below c rate space (t + 1) u traces (omega arith))
  | inr n ↦
      let apart : bit (eqb u t) ≡ 0 = rw (ne_eqb u t n) refl in
      omega (arith, one_within c rate space (t + 1) u traces (omega arith) (omega arith))
]

pub opened_after : (c : Config) (traces : List (List Command)) (s : State) → IsJob c traces → IsOpening c traces s → IsStateAfter c [] s
opened_after c traces s job start =
    let same : traces_of s ≡ traces = opened_traces c traces s start in
    record {
      job = subst (λ x. IsJob c x) (sym same) job;
      run = opened c s;
      by_turns = subst (λ x. IsRunOf c x [] (opened c s)) (sym same) (record { first = s; opening = start; turns = refl });
      state = refl;
    }

pub opens : (k : Whole) (traces : List (List Command)) → IsJob k.config traces → IsOpening k.config traces k.state → BoardKept k (table.opening k.state.words [] (first_view k))
opens k traces job start =
    let c = k.config in
    let ls = k.state.locals in
    let fit : AllFit c ls [] (map start_held ls) = subst (λ xs. AllFit c xs [] (map start_held xs)) (sym start.locals) (starts_fit c start.rate start.space 0 [] traces refl (omega (arith, job.bounds.threads))) in
    record {
      locals = ls;
      turns = [];
      after = opened_after c traces k.state job start;
      given = refl;
      own = tt;
      few = λ rate planned one. omega arith;
      each = each fit;
      once = λ t tl. (let one : helds_of t (map start_held ls) ≡ 1 = ap (λ xs. helds_of t (map start_held xs)) start.locals ∙ one_within c start.rate start.space 0 t traces (omega arith) (omega (arith, job.bounds.threads)) in omega arith);
    }
  where
    each : AllFit k.config k.state.locals [] (map start_held k.state.locals) → (id : ℕ) (v : View) → get_elem? (first_view k ∷ []) id ≡ some v → AllFit k.config k.state.locals [] v.locals
    each fit zero v e = subst (λ (x : View). AllFit k.config k.state.locals [] x.locals) (some-injective (first_view k) v e) fit
    each fit (suc id) v e = absurd (some-ne-none v (sym e))
