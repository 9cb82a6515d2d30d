-- Where there is one thread, the list of turns tells how many it has made at most.
use Rattle.std.proofs.Common.{◌≡◌, ℕ, zero, suc, ◌<◌, ◌+◌, false, eqb, eq-eqb, refl, arith, subst, sym, ap, ◌∙◌, List, [], ◌∷◌, ◌++◌, length, length-append, get_or, map}
use Rattle.block_store.specs.declared.Config.{Config}
use Rattle.block_store.specs.Counts.{times, total}
use Rattle.block_store.specs.Phases.{bit}
use Rattle.rate_plan.specs.Rates.{IsRate}
use Rattle.never_heap.specs.declared.Command.{Command}
use Rattle.heap_system.specs.Locals.{LocalState, is_done}
use Rattle.heap_system.specs.Machines.{State, no_local, local_at, opened, after_turns}
use Rattle.heap_system.specs.Serials.{trace_bound, job_bound, AreOfThreads, AreFew}
use Rattle.heap_system.specs.Systems.{traces_of}
use Rattle.heap_system.proofs.Lemmas.{single_few}
use Rattle.atom_board.specs.Boards.{IsStateAfter}
use Rattle.atom_board.specs.LoneTurns.{lone_turns, EndsAlone}

-- the bound of one trace, whatever the list is called
one_bound : (c : Config) (rate : ℕ) (traces : List (List Command)) → c.threads ≡ 1 → job_bound c rate traces ≡ job_bound c rate (get_or traces 0 [] ∷ [])
one_bound c rate traces one =
    let first : ℕ → ℕ = λ t. trace_bound c rate (get_or traces t []) in
    let second : ℕ → ℕ = λ t. trace_bound c rate (get_or (get_or traces 0 [] ∷ []) t []) in
    ap (λ n. total n first) one ∙ sym (ap (λ n. total n second) one)

trace_at : (ls : List LocalState) (t : ℕ) (d : LocalState) → d.trace ≡ [] → get_or (map (λ (l : LocalState). l.trace) ls) t [] ≡ (get_or ls t d).trace
trace_at [] t d none = sym none
trace_at (l ∷ ls) zero d none = refl
trace_at (l ∷ ls) (suc t) d none = trace_at ls t d none

-- so many turns has a thread had that is alone and not done: fewer than the bound
alone_few : (c : Config) (ts : List ℕ) (s : State) (t : ℕ) (l : LocalState) → IsStateAfter c ts s → t < c.threads → l ≡ local_at c s t → c.threads ≡ 1 → (rate : ℕ) → IsRate c rate → is_done l ≡ false → times 0 ts < job_bound c rate (traces_of s)
alone_few c ts s t l k tl is one rate planned going =
    let first : t ≡ 0 = omega (arith, tl, one) in
    let same : s ≡ (after_turns c (opened c k.by_turns.first) ts).state = k.state ∙ ap (λ r. r.state) k.by_turns.turns in
    let still : is_done (local_at c (after_turns c (opened c k.by_turns.first) ts).state 0) ≡ false =
    sym (ap (λ x. is_done (local_at c x 0)) same) ∙ sym (ap is_done (is ∙ ap (local_at c s) first)) ∙ going in
    single_few c one (traces_of s) k.by_turns.first rate k.job k.by_turns.opening planned ts still

-- one turn more of a thread
pub own_more : (c : Config) (ts : List ℕ) (t : ℕ) → AreOfThreads c ts → t < c.threads → AreOfThreads c (ts ++ t ∷ [])
own_more c [] t own tl = (tl, tt)
own_more c (u ∷ ts) t own tl = (own.0, own_more c ts t own.1 tl)

-- all turns are those of the one thread
all_of_one : (c : Config) (ts : List ℕ) → c.threads ≡ 1 → AreOfThreads c ts → length ts ≡ times 0 ts
all_of_one c [] one own = refl
all_of_one c (u ∷ ts) one own =
    let first : bit (eqb 0 u) ≡ 1 = ap bit (eq-eqb 0 u (omega (arith, own.0, one))) in
    omega (arith, first, all_of_one c ts one own.1)

pub few_more : (c : Config) (ts : List ℕ) (s : State) (t : ℕ) (l : LocalState) (traces : List (List Command)) → IsStateAfter c ts s → traces_of s ≡ traces → AreOfThreads c ts → t < c.threads → l ≡ local_at c s t → is_done l ≡ false → AreFew c traces (ts ++ t ∷ [])
few_more c ts s t l traces k given own tl is going rate planned one =
    let few : times 0 ts < job_bound c rate traces = subst (λ xs. times 0 ts < job_bound c rate xs) given (alone_few c ts s t l k tl is one rate planned going) in
    omega (arith, few, all_of_one c ts one own, length-append ts (t ∷ []))

-- a thread that is alone and not done has had fewer turns than the bound
few_had : (c : Config) (ts : List ℕ) (s : State) (t : ℕ) (l : LocalState) → IsStateAfter c ts s → t < c.threads → l ≡ local_at c s t → l.config ≡ c → c.threads ≡ 1 → (rate : ℕ) → IsRate c rate → is_done l ≡ false → times t ts < lone_turns rate l
few_had c ts s t l k tl is config one rate planned going =
    let first : t ≡ 0 = omega (arith, tl, one) in
    let here : l ≡ local_at c s 0 = is ∙ ap (local_at c s) first in
    let few : times 0 ts < job_bound c rate (traces_of s) = alone_few c ts s t l k tl is one rate planned going in
    let trace : get_or (traces_of s) 0 [] ≡ l.trace = trace_at s.locals 0 (no_local c) refl ∙ sym (ap (λ (x : LocalState). x.trace) here) in
    let bound : job_bound c rate (traces_of s) ≡ lone_turns rate l =
    one_bound c rate (traces_of s) one ∙ ap (λ ks. job_bound c rate (ks ∷ [])) trace ∙ sym (ap (λ x. job_bound x rate (l.trace ∷ [])) config) in
    omega (arith, few, bound, ap (λ u. times u ts) first)

-- a thread after one turn more
pub in_time : (c : Config) (ts us : List ℕ) (s q : State) (t n : ℕ) (l new : LocalState) → IsStateAfter c ts s → IsStateAfter c us q → t < c.threads → l ≡ local_at c s t → l.config ≡ c → new ≡ local_at c q t → new.config ≡ l.config → new.trace ≡ l.trace
    → is_done l ≡ false → n ≡ times t ts → n + 1 ≡ times t us → EndsAlone new (n + 1)
in_time c ts us s q t n l new k j tl is config now as_before told going had has rate planned one =
    let named : new.config ≡ c = as_before ∙ config in
    let plan : IsRate c rate = subst (λ x. IsRate x rate) named planned in
    let alone : c.threads ≡ 1 = sym (ap (λ (x : Config). x.threads) named) ∙ one in
    let same : lone_turns rate new ≡ lone_turns rate l = ap (λ x. job_bound x rate (new.trace ∷ [])) as_before ∙ ap (λ ks. job_bound l.config rate (ks ∷ [])) told in
    let before : times t ts < lone_turns rate l = few_had c ts s t l k tl is config alone rate plan going in
    record {
      most = omega (arith, before, same, had);
      fewer = λ still. (let after : times t us < lone_turns rate new = few_had c us q t new j tl now named alone rate plan still in omega (arith, after, has));
    }

-- a thread that has had no turn
pub in_time_at_first : (c : Config) (s : State) (t : ℕ) (l : LocalState) → IsStateAfter c [] s → t < c.threads → l ≡ local_at c s t → l.config ≡ c → EndsAlone l 0
in_time_at_first c s t l k tl is config rate planned one = record {
  most = omega arith;
  fewer = λ still. few_had c [] s t l k tl is config (sym (ap (λ (x : Config). x.threads) config) ∙ one) rate (subst (λ x. IsRate x rate) config planned) still;
}
