-- What the code meets that makes a system: the threads at rest, one by one, and the state that no
-- turn has changed yet. And the sum of the works of all logs.
use Rattle.std.proofs.Common.{◌≡◌, ℕ, zero, suc, ◌+◌, ◌<◌, ◌≤◌, List, [], ◌∷◌, ◌++◌, length, length-append, append_assoc, get_or, map, take, refl, sym, ap, ◌∙◌, subst, arith, inl, inr}
use Rattle.std.proofs.lemmas.Bool.{cases_lt}
use Rattle.std.proofs.lemmas.List.{map-append, length-map}
use Rattle.block_store.specs.declared.Config.{Config}
use Rattle.rate_plan.specs.Rates.{IsRate, IsAdmitted}
use Rattle.rate_plan.proofs.Plans.{found}
use Rattle.never_heap.specs.declared.Command.{Command}
use Rattle.heap_system.specs.Lives.{IsLife}
use Rattle.heap_system.specs.Locals.{LocalState, works, at_start}
use Rattle.heap_system.specs.Machines.{State, no_local, IsJob, IsOpening, starts_from, opened, IsRunOf}
use Rattle.heap_system.specs.Systems.{traces_of, units_of, IsReached}
use Rattle.heap_system.proofs.accounting.OwedAndPaid.{each_at}

pub length_starts : (c : Config) (rate : ℕ) (space : ℕ → ℕ) (t : ℕ) (traces : List (List Command)) → length (starts_from c rate space t traces) ≡ length traces
length_starts c rate space t [] = refl
length_starts c rate space t (trace ∷ traces) = ap suc (length_starts c rate space (t + 1) traces)

starts_more : (c : Config) (rate : ℕ) (space : ℕ → ℕ) (t : ℕ) (traces : List (List Command)) (trace : List Command) → starts_from c rate space t (traces ++ trace ∷ []) ≡ starts_from c rate space t traces ++ at_start c rate (space (t + length traces)) (t + length traces) trace ∷ []
starts_more c rate space t [] trace = let e : t ≡ t + 0 = omega arith in ap (λ u. at_start c rate (space u) u trace ∷ []) e
starts_more c rate space t (x ∷ traces) trace =
    let e : t + 1 + length traces ≡ t + suc (length traces) = omega arith in
    ap (λ ls. at_start c rate (space t) t x ∷ ls) (starts_more c rate space (t + 1) traces trace ∙ ap (λ u. starts_from c rate space (t + 1) traces ++ at_start c rate (space u) u trace ∷ []) e)

starts_traces : (c : Config) (rate : ℕ) (space : ℕ → ℕ) (t : ℕ) (traces : List (List Command)) → map (λ (l : LocalState). l.trace) (starts_from c rate space t traces) ≡ traces
starts_traces c rate space t [] = refl
starts_traces c rate space t (x ∷ traces) = ap (λ xs. x ∷ xs) (starts_traces c rate space (t + 1) traces)

-- only the rooms of these threads matter
starts_same : (c : Config) (rate : ℕ) (f g : ℕ → ℕ) (t : ℕ) (traces : List (List Command)) → ((i : ℕ) → i < length traces → f (t + i) ≡ g (t + i)) → starts_from c rate f t traces ≡ starts_from c rate g t traces
starts_same c rate f g t [] same = refl
starts_same c rate f g t (x ∷ traces) same =
    let e : t + 0 ≡ t = omega arith in
    ap (λ n. at_start c rate n t x ∷ starts_from c rate f (t + 1) traces) (ap f (sym e) ∙ same 0 (omega arith) ∙ ap g e)
    ∙ ap (λ ls. at_start c rate (g t) t x ∷ ls) (starts_same c rate f g (t + 1) traces (λ i low. (let n : t + 1 + i ≡ t + suc i = omega arith in ap f n ∙ same (suc i) (omega arith) ∙ ap g (sym n))))

-- for how many blocks the threads have room
abbrev pub spaces : Config → List LocalState → ℕ → ℕ
spaces c ls t = (get_or ls t (no_local c)).space

get_front : (ls : List LocalState) (l d : LocalState) (i : ℕ) → i < length ls → get_or (ls ++ l ∷ []) i d ≡ get_or ls i d
get_front [] l d i low = absurd (omega arith)
get_front (x ∷ ls) l d zero low = refl
get_front (x ∷ ls) l d (suc i) low = get_front ls l d i (omega arith)

get_last : (ls : List LocalState) (l d : LocalState) → get_or (ls ++ l ∷ []) (length ls) d ≡ l
get_last [] l d = refl
get_last (x ∷ ls) l d = get_last ls l d

-- the threads are those of these traces at rest, with the rate of the configuration, and have room
-- for the blocks of the largest object
pub record AreAtStart (c : Config) (ls : List LocalState) (traces : List (List Command)) (rate : ℕ) : Type 0 where
  pub starts : ls ≡ starts_from c rate (spaces c ls) 0 traces
  pub roomy : (t : ℕ) → t < length traces → c.object ≤ spaces c ls t

abbrev pub AllStart : Config → List LocalState → List (List Command) → Type 0
AllStart c ls traces = (rate : ℕ) → IsRate c rate → AreAtStart c ls traces rate

-- one thread more
pub thread_more : {V : Type 0} (f : V → List Command) (c : Config) (rate : ℕ) (ls : List LocalState) (xs : List V) (x : V) (l : LocalState) → AreAtStart c ls (map f xs) rate → l ≡ at_start c rate l.space (length ls) (f x) → c.object ≤ l.space → AreAtStart c (ls ++ l ∷ []) (map f (xs ++ x ∷ [])) rate
thread_more f c rate ls xs x l is new roomy = record {
  starts = ap (λ y. ls ++ y ∷ []) (new ∙ ap (λ n. at_start c rate l.space n (f x)) long ∙ ap (λ n. at_start c rate n (0 + length (map f xs)) (f x)) own) ∙ ap (λ ys. ys ++ at_start c rate (spaces c (ls ++ l ∷ []) (0 + length (map f xs))) (0 + length (map f xs)) (f x) ∷ []) (is.starts ∙ others) ∙ sym (starts_more c rate (spaces c (ls ++ l ∷ [])) 0 (map f xs) (f x)) ∙ ap (starts_from c rate (spaces c (ls ++ l ∷ [])) 0) (sym (map-append f xs (x ∷ [])));
  roomy = λ t tl. elim (cases_lt t (length ls)) [
    | inl low ↦ subst (λ (y : LocalState). c.object ≤ y.space) (sym (get_front ls l (no_local c) t low)) (is.roomy t (omega (arith, low, long)))
    | inr high ↦ (let e : t ≡ length ls = omega (arith, high, tl, long, ap length (map-append f xs (x ∷ [])), length-append (map f xs) (f x ∷ [])) in subst (λ (y : LocalState). c.object ≤ y.space) (sym (ap (λ n. get_or (ls ++ l ∷ []) n (no_local c)) e ∙ get_last ls l (no_local c))) roomy)
  ];
}
  where
    long : length ls ≡ 0 + length (map f xs)
    long = ap length is.starts ∙ length_starts c rate (spaces c ls) 0 (map f xs) ∙ omega arith

    own : l.space ≡ spaces c (ls ++ l ∷ []) (0 + length (map f xs))
    own = ap (λ (y : LocalState). y.space) (sym (get_last ls l (no_local c)) ∙ ap (λ n. get_or (ls ++ l ∷ []) n (no_local c)) long)

    others : starts_from c rate (spaces c ls) 0 (map f xs) ≡ starts_from c rate (spaces c (ls ++ l ∷ [])) 0 (map f xs)
    others = starts_same c rate (spaces c ls) (spaces c (ls ++ l ∷ [])) 0 (map f xs) (λ i low. ap (λ (y : LocalState). y.space) (sym (get_front ls l (no_local c) (0 + i) (omega (arith, low, long)))))

pub threads_long : {V : Type 0} (f : V → List Command) (c : Config) (ls : List LocalState) (xs : List V) → AllStart c ls (map f xs) → IsAdmitted c → length ls ≡ length xs
threads_long f c ls xs all plan = let rate = found c plan in ap length (all rate.0 rate.1).starts ∙ length_starts c rate.0 (spaces c ls) 0 (map f xs) ∙ length-map xs f

-- the trace in the middle
pub at_middle : {V : Type 0} (f : V → List Command) (xs ys : List V) (x : V) → get_or (map f (xs ++ x ∷ ys)) (length xs) [] ≡ f x
at_middle f [] ys x = refl
at_middle f (z ∷ xs) ys x = at_middle f xs ys x

pub opened_traces : (c : Config) (traces : List (List Command)) (s : State) → IsOpening c traces s → traces_of s ≡ traces
opened_traces c traces s start = ap (map (λ (l : LocalState). l.trace)) start.locals ∙ starts_traces c start.rate start.space 0 traces

-- the opening is reached by no turn
abbrev pub opened_reached : (c : Config) (traces : List (List Command)) (s : State) → IsJob c traces → IsOpening c traces s → IsReached c s
opened_reached c traces s job start =
    let same : traces_of s ≡ traces = opened_traces c traces s start in
    record {
      job = subst (λ x. IsJob c x) (sym same) job;
      turns = [];
      run = opened c s;
      by_turns = subst (λ x. IsRunOf c x [] (opened c s)) (sym same) (record { first = s; opening = start; turns = refl });
      state = refl;
    }

-- what is so of the trace x, where those of ys have their threads and zs are left
module _ {V : Type 0} (f : V → List Command) (c : Config) (all ys rest zs : List V) (x : V) (ls : List LocalState) (n : ℕ) (job : IsJob c (map f all)) (split : ys ++ rest ≡ all) (steps : rest ≡ x ∷ zs) (so_far : AllStart c ls (map f ys)) (long : n ≡ length ls) where
  whole_is : ys ++ (x ∷ zs) ≡ all
  whole_is = sym (ap (λ r. ys ++ r) steps) ∙ split

  number : n ≡ length ys
  number = long ∙ threads_long f c ls ys so_far job.plan

  pub number_low : n < c.threads
  number_low =
      let e : length ys + suc (length zs) ≡ length all = sym (length-append ys (x ∷ zs)) ∙ ap length whole_is in
      let m : length (map f all) ≡ length all = length-map all f in
      omega (arith, number, job.bounds.threads)

  pub trace_fits : IsLife c (f x)
  trace_fits = subst (λ k. IsLife c k) (ap (λ i. get_or (map f all) i []) number ∙ sym (ap (λ k. get_or (map f k) (length ys) []) whole_is) ∙ at_middle f ys zs x) (each_at c (map f all) job n number_low)

  pub splits_on : (ys ++ x ∷ []) ++ zs ≡ all
  splits_on = append_assoc ys (x ∷ []) zs ∙ whole_is

-- one log more
units_suc : (ls : List LocalState) (i : ℕ) (d : LocalState) → i < length ls → units_of (map (λ (l : LocalState). l.log) (take (suc i) ls)) ≡ units_of (map (λ (l : LocalState). l.log) (take i ls)) + works (get_or ls i d).log
units_suc [] i d low = absurd (omega arith)
units_suc (l ∷ ls) zero d low = omega arith
units_suc (l ∷ ls) (suc i) d low = omega (arith, units_suc ls i d (omega arith))

pub units_at : (ls : List LocalState) (i : ℕ) (l : LocalState) → i < length ls → l ≡ get_or ls i l → units_of (map (λ (x : LocalState). x.log) (take (i + 1) ls)) ≡ units_of (map (λ (x : LocalState). x.log) (take i ls)) + works l.log
units_at ls i l low is =
    let e : i + 1 ≡ suc i = omega arith in
    ap (λ n. units_of (map (λ (x : LocalState). x.log) (take n ls))) e ∙ units_suc ls i l low ∙ ap (λ (x : LocalState). units_of (map (λ (y : LocalState). y.log) (take i ls)) + works x.log) (sym is)

-- the works of one thread
pub one_log : (ls : List LocalState) (d : LocalState) → length ls ≡ 1 → units_of (map (λ (l : LocalState). l.log) ls) ≡ works (get_or ls 0 d).log
one_log [] d e = absurd (omega arith)
one_log (l ∷ []) d e = omega arith
one_log (l ∷ m ∷ ls) d e = absurd (omega arith)
