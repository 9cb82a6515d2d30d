-- The opening heap represents the run of a job without a command.
use Rattle.std.proofs.Common.{◌≡◌, ℕ, ◌≤◌, true, false, ◌+◌, List, [], ◌∷◌, length, refl, sym, ap, ◌∙◌, arith}
use Rattle.block_store.specs.declared.Config.{Config}
use Rattle.block_store.specs.declared.PhaseWord.{PhaseWord}
use Rattle.block_store.specs.Configs.{IsInBounds}
use Rattle.block_store.specs.Heaps.{heap_of}
use Rattle.block_store.specs.Phases.{inside_of, is_closed}
use Rattle.block_store.specs.Places.{Place, Phase, extent, in_range, words_count}
use Rattle.block_store.proofs.Lemmas.{closed-code, inside-code}
use Rattle.rate_plan.specs.Rates.{IsRate, IsAdmitted}
use Rattle.never_heap.specs.declared.Command.{Command}
use Rattle.never_heap.specs.Histories.{Started}
use Rattle.heap_system.specs.Locals.{LocalState, at_start, works}
use Rattle.heap_system.specs.Machines.{State, Run, IsJob, IsOpening, opened}
use Rattle.heap_system.specs.InitialHeaps.{opening_heap}
use Rattle.control_heap.specs.Controls.{Stands, with_history}

pub stands_first : {M : Type 0} (m : M) (c : Config) → IsInBounds c → IsAdmitted c → c.threads ≡ 1 → (ws : List ℕ) → length ws ≡ words_count (extent c) → ((p : Place) → in_range (extent c) p ≡ true → heap_of (extent c) ws p ≡ opening_heap c p)
    → (l : LocalState) (k : Command) → IsRate c l.rate → c.object ≤ l.space → l ≡ at_start c l.rate l.space 0 (k ∷ [])
    → (r : Run) × Stands (record { config = c; memory = m; words = ws; thread = l; count = 0; objects = 0 }) r × (r.order ≡ Started ∷ [])
stands_first m c bounds plan single ws count words l k rate roomy is =
    let s : State = record { words = ws; locals = at_start c l.rate l.space 0 [] ∷ [] } in
    let job : IsJob c ([] ∷ []) = record {
      bounds = record { config = bounds; threads = sym single; each = (record { asked = record { few = omega arith; commands = tt }; units = λ p is. omega arith; objects = omega arith }, tt) };
      plan = plan;
    } in
    let start : IsOpening c ([] ∷ []) s = record {
      rate = l.rate;
      planned = rate;
      count = count;
      words = words;
      space = λ t. l.space;
      roomy = λ t tl. roomy;
      locals = refl;
    } in
    let p : PhaseWord = record { inside = 0; sweep = false; closed = false; cycle = 1 } in (
      opened c s,
      record {
        single = single;
        run = record { after = record { traces = [] ∷ []; job = job; turns = []; by_turns = record { first = s; opening = start; turns = refl } }; events = tt };
        words = refl;
        thread = sym (ap (with_history [] []) is);
        count = refl;
        units = sym (ap (λ (x : LocalState). x.before + works x.log) is);
        objects = refl;
        done = refl;
        quiet = record {
          nobody = ap inside_of (words Phase refl) ∙ inside-code p (omega arith);
          opened = ap is_closed (words Phase refl) ∙ closed-code p (omega arith);
        };
        one = ap (λ (x : LocalState). length x.trace) is;
      },
      refl,
    )
